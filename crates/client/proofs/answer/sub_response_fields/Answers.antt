-- `answer::sub_response_fields` meets its contract.
-- Assumes nothing.
use Rattle.client.specs.Read.{sub_response_fields}
use Rattle.client.proofs.answer.sub_response_fields.Goals as goal

pub returns : goal.returns
unfolding sub_response_fields
returns c = rw (c.valued.ensures, c.value.ensures, c.status_byte.ensures, c.number_is.ensures, c.number-id.ensures)
