-- `extended_guid::write_short` meets its contract: the number, and the GUID behind it.
-- Assumes nothing.
use mathlib.Core.Path.{◌∙◌}
use native.Mathlib.Omega.{arith}
use Prim.Native.Nat.{◌+◌, ◌^◌, ◌≤◌}
use Rattle.laws.proofs.Parts.{tail_part, mid_tail}
use lib.ListN.{drop}
use lib.Seq.{drop-drop}
use lib.Dec.{lit<}
use native.Mathlib.Nat.{pow-le-pow_right}
use Rattle.laws.specs.Bytes.{bytes}
use Rattle.laws.proofs.Numbers.{length_bytes}
use Rattle.laws.proofs.Placing.{laid_behind}
use Rattle.numbers.specs.Compact.{with_form}
use Rattle.numbers.specs.Guid.{guid_bytes}
use Rattle.numbers.specs.ExtendedGuid.{short_bytes}
use Rattle.numbers.proofs.ExtendedGuids.{length_short}
use Rattle.numbers.proofs.Calls.{wrote_short, wrote_done}
use Rattle.numbers.proofs.extended_guid.write_short.Goals as goal

pub returns-then-out-n : goal.returns-then-out-n
returns-then-out-n c = let a = c.args in
    rw c.too_short.ensures (wrote_short (short_bytes a.k a.m a.g a.x) a.out.now (a.m + 16) (length_short a.k a.m a.g a.x) c.if-out-n.true)

pub with_form-requires : goal.with_form-requires
with_form-requires c =
    let q : 256 ^ c.args.m ≤ 256 ^ 3 = pow-le-pow_right {n = 256} (lit< tt) {i = c.args.m} {j = 3} (omega arith) in
    (omega arith, omega arith)

pub returns : goal.returns
unfolding short_bytes
returns c = let a = c.args in
    let e = length_short a.k a.m a.g a.x in
    let w = bytes a.m (with_form a.k a.x) in
    wrote_done (short_bytes a.k a.m a.g a.x) a.out.now _ (a.m + 16) e c.if-out-n.false
    (rw (mid_tail, c.put_guid.ensures, tail_part, c.put_le.ensures, c.with_form.ensures)
    (laid_behind w (guid_bytes a.g) (drop a.m a.out.now) a.m 16 (length_bytes a.m (with_form a.k a.x)) ∙ rw (drop-drop 16 a.m a.out.now)))
