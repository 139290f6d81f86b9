-- `put::read_put_head` meets its contract.
-- Assumes nothing.
use Rattle.puts.specs.Put.{put_head}
use Rattle.puts.proofs.put.read_put_head.Goals as goal

pub returns : goal.returns
unfolding put_head
returns c = rw (c.before_package.ensures, c.value.ensures, c.put_changes-f.ensures, c.identified-a.ensures)
