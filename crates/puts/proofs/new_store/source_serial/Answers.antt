-- `new_store::source_serial` meets its contract.
-- Assumes nothing.
use mathlib.Core.Path.{ap}
use native.Mathlib.Omega.{arith}
use borrow.Author.Tests.{lt-ltb, le-ltb}
use Rattle.store.specs.declared.element.Element.{Element}
use Rattle.puts.specs.Plan.{source_serial}
use Rattle.puts.proofs.new_store.source_serial.Goals as goal

pub element_in_row-requires : goal.element_in_row-requires
element_in_row-requires c = c.requires.stands.kept c.if-source-lt-MOST_ELEMENTS.true

pub returns-then-source-lt-MOST_ELEMENTS : goal.returns-then-source-lt-MOST_ELEMENTS
unfolding source_serial
returns-then-source-lt-MOST_ELEMENTS c = rw (lt-ltb _ _ c.if-source-lt-MOST_ELEMENTS.true) (ap (λ (x : Element). x.serial) c.element_in_row.ensures)

pub overflow_add-inputs : goal.overflow_add-inputs
overflow_add-inputs c = let h = c.requires.left c.if-source-lt-MOST_ELEMENTS.false in omega arith

pub overflow_add-inputs-2 : goal.overflow_add-inputs-2
overflow_add-inputs-2 c = let h = c.requires.left c.if-source-lt-MOST_ELEMENTS.false in omega arith

pub returns : goal.returns
unfolding source_serial
returns c = rw (le-ltb _ _ c.if-source-lt-MOST_ELEMENTS.false) c.key_of.ensures
