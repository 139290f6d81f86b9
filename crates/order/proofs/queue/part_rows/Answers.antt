-- `queue::part_rows` meets its contract. The invariant is `Parting`.
-- Assumes nothing.
use mathlib.Core.Path.{◌≡◌}
use Prim.Native.Nat.{suc, ◌-◌, ◌≤◌}
use native.Mathlib.Omega.{arith}
use Rattle.store.specs.Tables.{most_elements, element_in_row}
use Rattle.order.specs.Order.{rank_of}
use Rattle.order.proofs.Parting.{parting_start, parting_passed, parting_put, parting_end}
use Rattle.order.proofs.queue.part_rows.Goals as goal

pub loop-i-init : goal.loop-i-init
loop-i-init c = let a = c.args in
    parting_start a.all.rows.now a.all.ids.now a.all.count a.flags.now a.parts.now a.counts.now c.requires.2 c.requires.3

pub loop-i-preserved-then-flags-i-eq0 : goal.loop-i-preserved-then-flags-i-eq0
loop-i-preserved-then-flags-i-eq0 c = let a = c.args in
    parting_passed a.all.rows.now a.all.ids.now a.all.count a.flags.now c.loop-i.invariant c.loop-i-test.true (omega arith) c.if-flags-i-eq0.true

pub overflow_sub-r : goal.overflow_sub-r
overflow_sub-r c = let e = c.rank_of-r.ensures.1 in
    omega arith

pub put_place-requires : goal.put_place-requires
put_place-requires c = let p = c.loop-i.invariant in
    let least = c.rank_of-r.ensures.1 in
    let most = c.rank_of-r.ensures.2 in
    let few : c.args.all.count ≤ most_elements = c.requires.0 in
    let counted = p.counted (c.rank_of-r.result - 1) (omega arith) in
    let inside = c.loop-i-test.true in
    (p.stand, omega arith, omega arith, omega arith)

pub loop-i-preserved : goal.loop-i-preserved
loop-i-preserved c = let a = c.args in
    let x = rw c.element-x.ensures at c.rank_of-r.ensures.0 in
    let least = c.rank_of-r.ensures.1 in
    let most = c.rank_of-r.ensures.2 in
    let rank : rank_of (element_in_row a.all.rows.now a.all.ids.now c.loop-i.i) ≡ suc (c.rank_of-r.result - 1) = omega arith in
    parting_put a.all.rows.now a.all.ids.now a.all.count a.flags.now c.loop-i.invariant c.loop-i-test.true (omega arith) c.requires.0 c.if-flags-i-eq0.false (c.rank_of-r.result - 1) (omega arith) rank c.put_place.ensures.0 c.put_place.ensures.1

pub returns : goal.returns
returns c = parting_end _ _ _ _ c.requires.0 c.loop-i-test.false c.loop-i.invariant
