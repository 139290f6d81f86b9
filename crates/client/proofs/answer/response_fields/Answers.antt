-- `answer::response_fields` meets its contract.
-- Assumes nothing.
use Rattle.client.specs.Read.{response_fields}
use Rattle.client.proofs.answer.response_fields.Goals as goal

pub returns : goal.returns
unfolding response_fields
returns c = rw c.status_byte.ensures
