-- `new_store::lay_source` meets its contract.
-- Assumes nothing.
use mathlib.Core.Path.{◌≡◌, sym, ap, ◌∙◌}
use native.Mathlib.Omega.{arith}
use lib.ListN.{length}
use Rattle.store.specs.Tables.{element_in_row}
use Rattle.store.specs.Held.{stored_bytes}
use Rattle.puts.specs.Plan.{sides_of}
use Rattle.puts.proofs.Plans.{source_kept, source_handed}
use Rattle.puts.proofs.new_store.lay_source.Goals as goal

pub element_in_row-x-requires : goal.element_in_row-x-requires
element_in_row-x-requires c = c.requires.0.stands.kept c.if-source-lt-MOST_ELEMENTS.true

pub lay_part-requires : goal.lay_part-requires
unfolding stored_bytes
lay_part-requires c = let a = c.args in
    let w = source_kept (sides_of a.inputs) a.source c.if-source-lt-MOST_ELEMENTS.true in
    let e : c.part.result.now ≡ stored_bytes a.inputs.stored.bytes.now (element_in_row a.inputs.stored.elements.rows.now a.inputs.stored.elements.ids.now a.source) = rw c.element_in_row-x.ensures at c.part.ensures in
    let l = ap length (e ∙ sym w) in
    let h = c.requires.1 in
    omega arith

pub returns-then-source-lt-MOST_ELEMENTS : goal.returns-then-source-lt-MOST_ELEMENTS
unfolding stored_bytes
returns-then-source-lt-MOST_ELEMENTS c = let a = c.args in
    let w = source_kept (sides_of a.inputs) a.source c.if-source-lt-MOST_ELEMENTS.true in
    let e : c.part.result.now ≡ stored_bytes a.inputs.stored.bytes.now (element_in_row a.inputs.stored.elements.rows.now a.inputs.stored.elements.ids.now a.source) = rw c.element_in_row-x.ensures at c.part.ensures in
    rw w (rw e at c.lay_part.ensures)

pub element_in_row-y-requires : goal.element_in_row-y-requires
element_in_row-y-requires c = c.requires.0.stands.handed c.if-source-lt-MOST_ELEMENTS.false

pub overflow_add-inputs : goal.overflow_add-inputs
overflow_add-inputs c = let h = c.requires.0.left c.if-source-lt-MOST_ELEMENTS.false in omega arith

pub overflow_add-inputs-2 : goal.overflow_add-inputs-2
overflow_add-inputs-2 c = let h = c.requires.0.left c.if-source-lt-MOST_ELEMENTS.false in omega arith

pub lay_entering-requires : goal.lay_entering-requires
lay_entering-requires c = let a = c.args in
    let w = source_handed (sides_of a.inputs) a.source c.if-source-lt-MOST_ELEMENTS.false in
    rw (c.element_in_row-y.ensures, c.key_of.ensures) (c.requires.0.stands.enters c.if-source-lt-MOST_ELEMENTS.false, (let h = c.requires.1 in let l = ap length w in omega arith))

pub returns : goal.returns
returns c = let a = c.args in
    rw (source_handed (sides_of a.inputs) a.source c.if-source-lt-MOST_ELEMENTS.false) (rw (c.element_in_row-y.ensures, c.key_of.ensures) at c.lay_entering.ensures)
