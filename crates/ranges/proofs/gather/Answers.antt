-- `ranges::gather` meets its contract. The invariant: what is left to be gathered comes to the same.
-- Assumes nothing.
use mathlib.Core.Bool.{true, false}
use mathlib.Core.Path.{◌≡◌, sym, ap, ◌∙◌}
use native.Mathlib.Omega.{arith}
use Rattle.talk.specs.Ranges.{is_before, joined}
use Rattle.ranges.specs.RangeTable.{range_at}
use Rattle.ranges.proofs.RangeRows.{gather_turn, gather_stop, gather_end}
use Rattle.ranges.proofs.gather.Goals as goal

pub returns-then-is_before : goal.returns-then-is_before
returns-then-is_before c = let a = c.args in
    let z = c.range_at-z.ensures in
    let e : is_before c.loop-j.y (range_at a.t.now c.loop-j.j) ≡ true = ap (is_before c.loop-j.y) (sym z) ∙ sym c.is_before.ensures ∙ c.if-is_before.true in
    (omega arith, omega arith, gather_stop a.t.now a.count c.loop-j.y c.loop-j.j _ c.loop-j.invariant c.loop-j-test.true e)

pub loop-j-preserved : goal.loop-j-preserved
loop-j-preserved c = let a = c.args in
    let z = c.range_at-z.ensures in
    let e : is_before c.loop-j.y (range_at a.t.now c.loop-j.j) ≡ false = ap (is_before c.loop-j.y) (sym z) ∙ sym c.is_before.ensures ∙ c.if-is_before.false in
    let f : c.join-y.result ≡ joined c.loop-j.y (range_at a.t.now c.loop-j.j) = c.join-y.ensures ∙ ap (joined c.loop-j.y) z in
    rw f (gather_turn a.t.now a.count c.loop-j.y c.loop-j.j _ c.loop-j.invariant c.loop-j-test.true e)

pub returns : goal.returns
returns c = let a = c.args in
    let j : c.loop-j.j ≡ a.count = omega arith in
    (omega arith, omega arith, rw j at (gather_end a.t.now a.count c.loop-j.y c.loop-j.j _ c.loop-j.invariant c.loop-j-test.false))
