-- `lay::lay_part` meets its contract. The invariant: the first i bytes of the part stand at the place.
-- Assumes nothing.
use mathlib.Core.Path.{◌≡◌, refl, ◌∙◌}
use mathlib.Core.List.{append_assoc}
use Prim.Native.Nat.{◌+◌}
use native.Mathlib.Numerals.{add-one}
use native.Mathlib.Omega.{arith}
use lib.ListN.{length, take, drop, length-set}
use lib.Seq.{paste-zero, paste-suc, take-length}
use Rattle.store.proofs.lay.lay_part.Goals as goal

pub loop-i-init : goal.loop-i-init
loop-i-init c = let a = c.args in (refl, paste-zero a.out.now a.at a.part.now)

pub loop-i-preserved : goal.loop-i-preserved
loop-i-preserved c = let a = c.args in (
  simp length-set c.loop-i.invariant.0,
  rw (add-one, c.loop-i.invariant.1) (paste-suc a.out.now a.at a.part.now c.loop-i.i 0 (omega arith) (omega arith)),
)

pub shape_of-out : goal.shape_of-out
shape_of-out c = c.loop-i.invariant.0

pub returns : goal.returns
returns c = let a = c.args in
    let e : c.loop-i.i ≡ length a.part.now = omega arith in
    (refl, c.loop-i.invariant.1 ∙ rw (e, take-length a.part.now) (append_assoc (take a.at a.out.now) a.part.now (drop (a.at + length a.part.now) a.out.now)))
