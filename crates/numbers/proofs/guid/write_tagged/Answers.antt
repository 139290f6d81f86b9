-- `guid::write_tagged` meets its contract.
-- Assumes nothing.
use mathlib.Core.Path.{◌∙◌}
use Prim.Native.Nat.{◌+◌}
use native.Mathlib.Nat.{add_comm}
use lib.Seq.{drop-drop}
use Rattle.numbers.specs.Guid.{tagged_bytes}
use Rattle.numbers.proofs.Guids.{length_tagged}
use Rattle.numbers.proofs.Calls.{wrote_short, wrote_done}
use Rattle.numbers.proofs.guid.write_tagged.Goals as goal

pub returns-then-out-needed : goal.returns-then-out-needed
returns-then-out-needed c = let a = c.args in
    rw c.too_short.ensures (wrote_short (tagged_bytes a.n a.g a.x) a.out.now (a.n + 17) (length_tagged a.n a.g a.x) c.if-out-needed.true)

pub returns : goal.returns
returns c = let a = c.args in
    wrote_done (tagged_bytes a.n a.g a.x) a.out.now _ (a.n + 17) (length_tagged a.n a.g a.x) c.if-out-needed.false
    (c.put_tagged.ensures ∙ rw (drop-drop a.n 17 a.out.now, add_comm a.n 17))
