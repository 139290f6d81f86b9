-- `put::put_fields` meets its contract.
-- Assumes nothing.
use Rattle.puts.specs.Put.{put_fields}
use Rattle.puts.proofs.put.put_fields.Goals as goal

pub returns : goal.returns
unfolding put_fields
returns c = rw (c.skip.ensures, c.on-2.ensures, c.id_in.ensures, c.extended_guid-expected.ensures, c.on.ensures, c.extended_guid-index.ensures)
