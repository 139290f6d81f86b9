-- `kept::planned_length` meets its contract. The invariant: the whole is what was counted and what is still to come.
-- Assumes nothing.
use mathlib.Core.Path.{◌≡◌}
use native.Mathlib.Omega.{arith}
use lib.ListN.{get_or}
use Rattle.book.specs.Plan.{source_element}
use Rattle.book.proofs.Turns.{length_turn, length_end}
use Rattle.book.proofs.kept.planned_length.Goals as goal

pub source_length-whole-requires : goal.source_length-whole-requires
source_length-whole-requires c = rw c.from.ensures (c.requires.fits c.loop-source.source-index c.loop-source-test.true)

pub loop-source-preserved : goal.loop-source-preserved
loop-source-preserved c = let l = c.loop-source in
    let a = c.args in
    let t = length_turn a.plan.now l.source-index c.loop-source-test.true a.book.elements.rows.now a.book.elements.ids.now a.answer.elements.rows.now a.answer.elements.ids.now in
    let e : c.source_length-whole.result ≡ (source_element a.book.elements.rows.now a.book.elements.ids.now a.answer.elements.rows.now a.answer.elements.ids.now (get_or a.plan.now l.source-index 0)).length = rw c.from.ensures at c.source_length-whole.ensures.0 in
    let m = c.source_length-whole.ensures.1 in
    let i = l.invariant in
    (omega arith, omega arith)

pub returns : goal.returns
returns c = let a = c.args in
    let e = length_end a.plan.now c.loop-source.source-index c.loop-source-test.false a.book.elements.rows.now a.book.elements.ids.now a.answer.elements.rows.now a.answer.elements.ids.now in
    let i = c.loop-source.invariant in
    (omega arith, omega arith)
