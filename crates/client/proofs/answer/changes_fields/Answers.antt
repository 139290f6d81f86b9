-- `answer::changes_fields` meets its contract.
-- Assumes nothing.
use Rattle.client.specs.Read.{changes_fields}
use Rattle.client.proofs.answer.changes_fields.Goals as goal

pub returns : goal.returns
unfolding changes_fields
returns c = rw (c.fixed_in.ensures, c.on.ensures, c.extended_guid.ensures)
