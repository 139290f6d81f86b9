-- `ranges::rows_before` meets its contract. The invariant: the rows below `low` lie before x, and row `high` does not.
-- Assumes nothing.
use mathlib.Core.Path.{◌≡◌, sym, ◌∙◌}
use Prim.Native.Nat.{◌-◌}
use native.Mathlib.Omega.{arith}
use Rattle.ranges.proofs.RangeSearch.{all_before}
use Rattle.ranges.proofs.rows_before.Goals as goal

pub returns-then-count-eq0 : goal.returns-then-count-eq0
returns-then-count-eq0 c = record { most = omega arith; before = λ j l. absurd (omega arith); stop = λ l. absurd (omega arith) }

pub is_before-requires : goal.is_before-requires
is_before-requires c = tt

pub returns-then-is_before : goal.returns-then-is_before
returns-then-is_before c = let a = c.args in
    let e = sym c.is_before.ensures ∙ c.if-is_before.true in
    let f = rw c.range_at.ensures at e in
    record {
      most = omega arith;
      before = λ j l. all_before a.t.now a.count c.requires.1 a.x (a.count - 1) (omega arith) f j (omega arith);
      stop = λ l. absurd (omega arith);
    }

pub loop-low-init : goal.loop-low-init
loop-low-init c = let e = sym c.is_before.ensures ∙ c.if-is_before.false in
    let f = rw c.range_at.ensures at e in
    (omega arith, omega arith, λ j l. absurd (omega arith), λ l. f)

pub is_before-requires-in-loop-low : goal.is_before-requires-in-loop-low
is_before-requires-in-loop-low c = tt

pub loop-low-preserved-then-is_before-2 : goal.loop-low-preserved-then-is_before-2
loop-low-preserved-then-is_before-2 c = let a = c.args in
    let e = sym c.is_before-in-loop-low.ensures ∙ c.if-is_before-2.true in
    let f = rw c.range_at-in-loop-low.ensures at e in
    (omega arith, c.loop-low.invariant.1, all_before a.t.now a.count c.requires.1 a.x _ (omega arith) f, c.loop-low.invariant.3)

pub loop-low-preserved : goal.loop-low-preserved
loop-low-preserved c = let a = c.args in
    let e = sym c.is_before-in-loop-low.ensures ∙ c.if-is_before-2.false in
    let f = rw c.range_at-in-loop-low.ensures at e in
    (omega arith, omega arith, c.loop-low.invariant.2, λ h. f)

pub returns : goal.returns
returns c = let i = c.loop-low.invariant in
    let e : c.loop-low.low ≡ c.loop-low.high = omega arith in
    record { most = omega arith; before = i.2; stop = λ l. rw e (i.3 (omega arith)) }
