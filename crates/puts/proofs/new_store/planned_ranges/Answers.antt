-- `new_store::planned_ranges` meets its contract. The invariant: the ranges of all are those of the numbers still to come, put to those in the table.
-- Assumes nothing.
use mathlib.Core.Path.{◌≡◌, refl, sym, ap, ◌∙◌}
use mathlib.Core.List.{List}
use Prim.Native.Nat.{◌+◌}
use native.Mathlib.Omega.{arith}
use lib.ListN.{drop, get_or}
use Rattle.talk.specs.Ranges.{insert, Normal}
use Rattle.talk.specs.declared.range.Range.{Range}
use Rattle.ranges.specs.RangeTable.{ranges_at}
use Rattle.store.specs.declared.element.Key.{Key}
use Rattle.store.specs.Held.{key_range}
use Rattle.puts.specs.Plan.{source_serial, planned_ranges}
use Rattle.puts.proofs.Plans.{ranges_turn, ranges_end}
use Rattle.puts.proofs.new_store.planned_ranges.Goals as goal

pub loop-source-init : goal.loop-source-init
unfolding ranges_at Normal
loop-source-init c = (refl, omega arith, refl, tt)

pub source_serial-requires : goal.source_serial-requires
source_serial-requires c = rw c.from.ensures (c.requires.0.fits c.loop-source.source-index c.loop-source-test.true)

pub add_serial-held-requires : goal.add_serial-held-requires
add_serial-held-requires c = let i = c.loop-source.invariant in let h = c.requires.1 in let f = c.requires.0.few in (omega arith, i.3)

pub loop-source-preserved : goal.loop-source-preserved
loop-source-preserved c = let a = c.args in
    let l = c.loop-source in
    let y = c.add_serial-held in
    let i = l.invariant in
    let v : c.source_serial.result ≡ source_serial a.inputs.stored.elements.rows.now a.inputs.stored.elements.ids.now a.inputs.guid a.inputs.highest (get_or a.plan.now l.source-index 0) = rw c.from.ensures at c.source_serial.ensures in
    let e : ranges_at y.new.table 0 y.result ≡ insert (key_range (source_serial a.inputs.stored.elements.rows.now a.inputs.stored.elements.ids.now a.inputs.guid a.inputs.highest (get_or a.plan.now l.source-index 0))) (ranges_at l.table 0 l.held) =
    y.ensures.1 ∙ ap (λ (k : Key). insert (key_range k) (ranges_at l.table 0 l.held)) v in
    let t = ranges_turn a.plan.now l.source-index c.loop-source-test.true a.inputs.stored.elements.rows.now a.inputs.stored.elements.ids.now a.inputs.guid a.inputs.highest (ranges_at l.table 0 l.held) in
    let m = y.ensures.0 in
    (omega arith, omega arith, ap (λ (r : List Range). planned_ranges a.inputs.stored.elements.rows.now a.inputs.stored.elements.ids.now a.inputs.guid a.inputs.highest r (drop (l.source-index + 1) a.plan.now)) e ∙ sym t ∙ i.2, y.ensures.2)

pub shape_of-table : goal.shape_of-table
shape_of-table c = c.loop-source.invariant.0

pub returns : goal.returns
returns c = let l = c.loop-source in
    let a = c.args in
    let e = ranges_end a.plan.now l.source-index c.loop-source-test.false a.inputs.stored.elements.rows.now a.inputs.stored.elements.ids.now a.inputs.guid a.inputs.highest (ranges_at l.table 0 l.held) in
    let i = l.invariant in
    (omega arith, sym e ∙ i.2, i.3)
