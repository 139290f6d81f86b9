-- `whole::flagged_rows` meets its contract. The invariant is `Gathering`.
-- Assumes nothing.
use mathlib.Core.Path.{refl}
use Prim.Native.Nat.{◌^◌, ◌≤◌}
use native.Mathlib.Omega.{arith}
use Rattle.store.proofs.Elements.{rows_up_to}
use Rattle.pages.specs.Weighed.{weighed}
use Rattle.pages.proofs.Gathering.{gathering_start, gathering_passed, gathering_taken, gathering_end}
use Rattle.pages.proofs.whole.flagged_rows.Goals as goal
use Rattle.pages.proofs.whole.flagged_rows.Goals.{After-row-x}

-- a row whose flag is not 0 is not long
light_here : (y : After-row-x)
    → (weighed y.args.weights.all.rows.now y.args.weights.all.ids.now y.args.weights.lengths.now y.args.weights.column y.loop-i.i).length ≤ 2 ^ 32
light_here y =
    let flag = y.if-flags-i-eq0.false in
    y.requires.4 y.loop-i.i y.loop-i-test.true (omega (arith, flag))

-- ---- the answers
pub loop-i-init : goal.loop-i-init
loop-i-init c = let a = c.args in
    gathering_start a.weights.all.rows.now a.weights.all.ids.now a.weights.all.count a.weights.lengths.now a.weights.column a.flags.now a.queue.now

pub loop-i-preserved-then-flags-i-eq0 : goal.loop-i-preserved-then-flags-i-eq0
loop-i-preserved-then-flags-i-eq0 c = let a = c.args in
    gathering_passed a.weights.all.rows.now a.weights.all.ids.now a.weights.all.count a.weights.lengths.now a.weights.column a.flags.now c.loop-i.invariant c.loop-i-test.true (omega arith) c.if-flags-i-eq0.true

pub loop-i-preserved : goal.loop-i-preserved
loop-i-preserved c = let a = c.args in
    let inside = c.loop-i-test.true in
    let few = c.loop-i.invariant.few in
    let room = c.requires.2 in
    rw c.row-x.ensures (gathering_taken a.weights.all.rows.now a.weights.all.ids.now a.weights.all.count a.weights.lengths.now a.weights.column a.flags.now c.loop-i.invariant inside (omega arith) c.if-flags-i-eq0.false (rows_up_to c.args.weights.all.stand _ (omega arith), c.requires.3 c.loop-i.i inside) (light_here (goal.at.loop-i-preserved c).After-row-x) (omega arith) refl)

pub returns : goal.returns
returns c = let a = c.args in
    let room = c.requires.2 in
    gathering_end a.weights.all.rows.now a.weights.all.ids.now a.weights.all.count a.weights.lengths.now a.weights.column a.flags.now c.requires.0 (omega arith) (omega arith) c.loop-i.invariant
