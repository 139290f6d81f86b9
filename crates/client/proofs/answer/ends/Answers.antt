-- `answer::ends` meets its contract.
-- Assumes nothing.
use Rattle.client.specs.Read.{ends_of}
use Rattle.client.proofs.answer.ends.Goals as goal

pub returns : goal.returns
unfolding ends_of
returns c = rw (c.finish.ensures, c.end-2.ensures, c.end.ensures)
