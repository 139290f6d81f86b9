-- `answer::status_byte` meets its contract.
-- Assumes nothing.
use Rattle.client.specs.Read.{status_byte}
use Rattle.client.proofs.answer.status_byte.Goals as goal

pub returns : goal.returns
unfolding status_byte
returns c = rw (c.need.ensures, c.place.ensures, c.value.ensures, c.fixed_in-b.ensures)
