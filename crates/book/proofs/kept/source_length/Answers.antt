-- `kept::source_length` meets its contract.
-- Assumes nothing.
use mathlib.Core.Path.{ap}
use native.Mathlib.Omega.{arith}
use Rattle.store.specs.declared.element.Element.{Element}
use Rattle.book.proofs.Turns.{element_there, element_came}
use Rattle.book.proofs.kept.source_length.Goals as goal

pub element_in_row-requires : goal.element_in_row-requires
element_in_row-requires c = (c.requires.there c.if-source-lt-MOST_ELEMENTS.true).stands

pub returns-then-source-lt-MOST_ELEMENTS : goal.returns-then-source-lt-MOST_ELEMENTS
returns-then-source-lt-MOST_ELEMENTS c = let a = c.args in
    let e = ap (λ (x : Element). x.length) c.element_in_row.ensures in
    let h = c.requires.there c.if-source-lt-MOST_ELEMENTS.true in
    let w = h.within in
    let l = h.short in
    (rw (element_there a.book.elements.rows.now a.book.elements.ids.now a.answer.elements.rows.now a.answer.elements.ids.now a.source c.if-source-lt-MOST_ELEMENTS.true) e, omega arith)

pub element_in_row-requires-2 : goal.element_in_row-requires-2
element_in_row-requires-2 c = (c.requires.came c.if-source-lt-MOST_ELEMENTS.false).stands

pub returns : goal.returns
returns c = let a = c.args in
    let e = ap (λ (x : Element). x.length) c.element_in_row-2.ensures in
    let h = c.requires.came c.if-source-lt-MOST_ELEMENTS.false in
    let w = h.within in
    let l = h.short in
    (rw (element_came a.book.elements.rows.now a.book.elements.ids.now a.answer.elements.rows.now a.answer.elements.ids.now a.source c.if-source-lt-MOST_ELEMENTS.false) e, omega arith)
