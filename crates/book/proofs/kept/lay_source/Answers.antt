-- `kept::lay_source` meets its contract.
-- Assumes nothing.
use mathlib.Core.Path.{◌≡◌, sym, ap, ◌∙◌}
use Prim.Native.Nat.{◌-◌}
use native.Mathlib.Omega.{arith}
use lib.ListN.{length}
use Rattle.store.specs.Tables.{most_elements, element_in_row}
use Rattle.store.specs.Held.{stored_bytes}
use Rattle.book.specs.Plan.{sides_of}
use Rattle.book.proofs.Turns.{source_there, source_came}
use Rattle.book.proofs.kept.lay_source.Goals as goal

pub element_in_row-x-requires : goal.element_in_row-x-requires
element_in_row-x-requires c = (c.requires.0.there c.if-source-lt-MOST_ELEMENTS.true).stands

pub lay_part-requires : goal.lay_part-requires
unfolding stored_bytes
lay_part-requires c = let a = c.args in
    let w = source_there (sides_of a.book a.answer) a.source c.if-source-lt-MOST_ELEMENTS.true in
    let e : c.part.result.now ≡ stored_bytes a.book.bytes.now (element_in_row a.book.elements.rows.now a.book.elements.ids.now a.source) = rw c.element_in_row-x.ensures at c.part.ensures in
    let l = ap length (e ∙ sym w) in
    let h = c.requires.1 in
    omega arith

pub returns-then-source-lt-MOST_ELEMENTS : goal.returns-then-source-lt-MOST_ELEMENTS
unfolding stored_bytes
returns-then-source-lt-MOST_ELEMENTS c = let a = c.args in
    let w = source_there (sides_of a.book a.answer) a.source c.if-source-lt-MOST_ELEMENTS.true in
    let e : c.part.result.now ≡ stored_bytes a.book.bytes.now (element_in_row a.book.elements.rows.now a.book.elements.ids.now a.source) = rw c.element_in_row-x.ensures at c.part.ensures in
    rw w (rw e at c.lay_part.ensures)

pub element_in_row-y-requires : goal.element_in_row-y-requires
element_in_row-y-requires c = (c.requires.0.came c.if-source-lt-MOST_ELEMENTS.false).stands

pub lay_part-requires-2 : goal.lay_part-requires-2
unfolding stored_bytes
lay_part-requires-2 c = let a = c.args in
    let w = source_came (sides_of a.book a.answer) a.source c.if-source-lt-MOST_ELEMENTS.false in
    let e : c.part-2.result.now ≡ stored_bytes a.answer.bytes.now (element_in_row a.answer.elements.rows.now a.answer.elements.ids.now (a.source - most_elements)) = rw c.element_in_row-y.ensures at c.part-2.ensures in
    let l = ap length (e ∙ sym w) in
    let h = c.requires.1 in
    omega arith

pub returns : goal.returns
unfolding stored_bytes
returns c = let a = c.args in
    let w = source_came (sides_of a.book a.answer) a.source c.if-source-lt-MOST_ELEMENTS.false in
    let e : c.part-2.result.now ≡ stored_bytes a.answer.bytes.now (element_in_row a.answer.elements.rows.now a.answer.elements.ids.now (a.source - most_elements)) = rw c.element_in_row-y.ensures at c.part-2.ensures in
    rw w (rw e at c.lay_part-2.ensures)
