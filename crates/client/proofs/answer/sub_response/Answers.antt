-- `answer::sub_response` meets its contract.
-- Assumes nothing.
use Rattle.client.specs.Read.{sub_response}
use Rattle.client.proofs.AnswerWithin.{good_sub_response_fields}
use Rattle.client.proofs.answer.sub_response.Goals as goal

pub closed-requires : goal.closed-requires
closed-requires c = rw (c.sub_response_fields.ensures, c.run.ensures) (good_sub_response_fields _ _)

pub returns : goal.returns
unfolding sub_response
returns c = rw (c.closed.ensures, c.sub_response_fields.ensures, c.run.ensures, c.start-o.ensures)
