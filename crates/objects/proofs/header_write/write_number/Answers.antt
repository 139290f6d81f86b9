-- `header_write::write_number` meets its contract.
-- Assumes nothing.
use Rattle.laws.specs.Bytes.{bytes}
use Rattle.laws.proofs.Numbers.{length_bytes}
use Rattle.numbers.proofs.Calls.{wrote_short, wrote_done}
use Rattle.objects.proofs.header_write.write_number.Goals as goal

pub returns-then-out-n : goal.returns-then-out-n
returns-then-out-n c = let a = c.args in
    rw c.too_short.ensures (wrote_short (bytes a.n a.x) a.out.now a.n (length_bytes a.n a.x) c.if-out-n.true)

pub returns : goal.returns
returns c = let a = c.args in
    wrote_done (bytes a.n a.x) a.out.now _ a.n (length_bytes a.n a.x) c.if-out-n.false c.put_le.ensures
