-- `put::flag_fields` meets its contract.
-- Assumes nothing.
use Rattle.puts.specs.Put.{flag_fields}
use Rattle.puts.proofs.put.flag_fields.Goals as goal

pub returns : goal.returns
unfolding flag_fields
returns c = rw (c.number.ensures, c.skip.ensures)
