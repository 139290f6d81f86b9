-- `new_store::source_length` meets its contract.
-- Assumes nothing.
use mathlib.Core.Path.{ap}
use native.Mathlib.Omega.{arith}
use borrow.Author.Tests.{lt-ltb, le-ltb}
use Rattle.store.specs.declared.element.Element.{Element}
use Rattle.puts.specs.Plan.{source_length}
use Rattle.puts.proofs.new_store.source_length.Goals as goal

pub element_in_row-requires : goal.element_in_row-requires
element_in_row-requires c = c.requires.stands.kept c.if-source-lt-MOST_ELEMENTS.true

pub returns-then-source-lt-MOST_ELEMENTS : goal.returns-then-source-lt-MOST_ELEMENTS
unfolding source_length
returns-then-source-lt-MOST_ELEMENTS c = let e = ap (λ (x : Element). x.length) c.element_in_row.ensures in
    let h = c.requires.stands.short c.if-source-lt-MOST_ELEMENTS.true in
    (rw (lt-ltb _ _ c.if-source-lt-MOST_ELEMENTS.true) e, omega arith)

pub element_in_row-requires-2 : goal.element_in_row-requires-2
element_in_row-requires-2 c = c.requires.stands.handed c.if-source-lt-MOST_ELEMENTS.false

pub entering_length-requires : goal.entering_length-requires
entering_length-requires c = rw c.element_in_row-2.ensures (c.requires.stands.enters c.if-source-lt-MOST_ELEMENTS.false)

pub returns : goal.returns
unfolding source_length
returns c = let e = c.entering_length.ensures in
    let h = (c.requires.stands.enters c.if-source-lt-MOST_ELEMENTS.false).short in
    (rw (le-ltb _ _ c.if-source-lt-MOST_ELEMENTS.false, ← c.element_in_row-2.ensures) e.0, omega arith)
