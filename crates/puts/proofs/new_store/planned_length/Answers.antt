-- `new_store::planned_length` meets its contract. The invariant: the whole is what was counted and what is still to come.
-- Assumes nothing.
use mathlib.Core.Path.{◌≡◌}
use native.Mathlib.Omega.{arith}
use lib.ListN.{get_or}
use Rattle.puts.specs.Plan.{source_length}
use Rattle.puts.proofs.Plans.{length_turn, length_end}
use Rattle.puts.proofs.new_store.planned_length.Goals as goal

pub loop-source-init : goal.loop-source-init
loop-source-init c = (omega arith, omega arith)

pub source_length-whole-requires : goal.source_length-whole-requires
source_length-whole-requires c = rw c.from.ensures (c.requires.fits c.loop-source.source-index c.loop-source-test.true)

pub loop-source-preserved : goal.loop-source-preserved
loop-source-preserved c = let l = c.loop-source in
    let a = c.args in
    let t = length_turn a.plan.now l.source-index c.loop-source-test.true a.inputs.stored.elements.rows.now a.inputs.stored.elements.ids.now a.inputs.handed.bytes.now a.inputs.handed.elements.rows.now a.inputs.handed.elements.ids.now in
    let e : c.source_length-whole.result ≡ source_length a.inputs.stored.elements.rows.now a.inputs.stored.elements.ids.now a.inputs.handed.bytes.now a.inputs.handed.elements.rows.now a.inputs.handed.elements.ids.now (get_or a.plan.now l.source-index 0) = rw c.from.ensures at c.source_length-whole.ensures.0 in
    let m = c.source_length-whole.ensures.1 in
    let i = l.invariant in
    (omega arith, omega arith)

pub returns : goal.returns
returns c = let a = c.args in
    let e = length_end a.plan.now c.loop-source.source-index c.loop-source-test.false a.inputs.stored.elements.rows.now a.inputs.stored.elements.ids.now a.inputs.handed.bytes.now a.inputs.handed.elements.rows.now a.inputs.handed.elements.ids.now in
    let i = c.loop-source.invariant in
    (omega arith, omega arith)
