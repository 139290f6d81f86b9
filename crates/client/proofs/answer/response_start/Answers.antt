-- `answer::response_start` meets its contract.
-- Assumes nothing.
use Rattle.client.specs.Read.{response_start}
use Rattle.client.proofs.AnswerWithin.{good_response_fields}
use Rattle.client.proofs.answer.response_start.Goals as goal

pub closed-requires : goal.closed-requires
closed-requires c = rw (c.response_fields.ensures, c.run.ensures) (good_response_fields _)

pub returns : goal.returns
unfolding response_start
returns c = rw (c.closed.ensures, c.response_fields.ensures, c.run.ensures, c.start-o.ensures, c.versions.ensures)
