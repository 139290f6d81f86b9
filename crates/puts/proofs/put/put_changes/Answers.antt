-- `put::put_changes` meets its contract.
-- Assumes nothing.
use Rattle.puts.specs.Put.{put_changes}
use Rattle.puts.proofs.PutParts.{good_put_fields}
use Rattle.puts.proofs.put.put_changes.Goals as goal

pub closed-requires : goal.closed-requires
closed-requires c = rw (c.put_fields-f.ensures, c.run.ensures) (good_put_fields _)

pub returns : goal.returns
unfolding put_changes
returns c = rw (c.closed.ensures, c.put_fields-f.ensures, c.run.ensures, c.start-o.ensures)
