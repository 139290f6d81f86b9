-- `keep::keep_answer` meets its contract.
-- Assumes nothing.
use Rattle.std.specs.Prelude.{Ok, Err}
use Rattle.std.proofs.Common.{rules}
use mathlib.Core.Path.{◌≡◌, sym, ◌∙◌}
use Prim.Native.Nat.{ℕ, ◌*◌}
use native.Mathlib.Omega.{arith}
use lib.ListN.{length, length-replicate}
use Rattle.store.specs.Tables.{id_width, most_elements, row_numbers}
use Rattle.request.proofs.SecondInput.{second_ok, second_fault}
use Rattle.client.proofs.AnswerRest.{answer_fault}
use Rattle.book.proofs.Outcomes.{refused_gives, answer_fine, answer_faulty}
use Rattle.book.proofs.ReadRows.{answer_rows, answer_long, answer_stands}
use Rattle.book.proofs.keep.keep_answer.Goals as goal
use Rattle.book.proofs.keep.keep_answer.Goals.{In_ok-x}

-- what was read
module _ (c : In_ok-x) where
  read : c.read_rows.result ≡ Ok c.in_ok-x.x
  read = second_ok c.read_rows.result c.map_err.result c.map_err.ensures.cases _ c.in_ok-x.was

pub slice_bounds-elements-end : goal.slice_bounds-elements-end
slice_bounds-elements-end c = (answer_long _ _ _ _ _ c.in_ok-x.x (length-replicate {A = ℕ} row_numbers 0) (length-replicate {A = ℕ} (most_elements * id_width) 0) (sym c.read_rows.ensures.0 ∙ read (goal.at.slice_bounds-elements-end c).In_ok-x) c.read_rows.ensures.1 c.read_rows.ensures.2).0

pub slice_bounds-elements-end-2 : goal.slice_bounds-elements-end-2
slice_bounds-elements-end-2 c = (answer_long _ _ _ _ _ c.in_ok-x.x (length-replicate {A = ℕ} row_numbers 0) (length-replicate {A = ℕ} (most_elements * id_width) 0) (sym c.read_rows.ensures.0 ∙ read (goal.at.slice_bounds-elements-end-2 c).In_ok-x) c.read_rows.ensures.1 c.read_rows.ensures.2).1

pub invariant_of-elements : goal.invariant_of-elements
invariant_of-elements c = record { stand = (answer_rows _ _ _ _ _ c.in_ok-x.x (omega (arith, length-replicate {A = ℕ} row_numbers 0)) (omega (arith, length-replicate {A = ℕ} (most_elements * id_width) 0)) (sym c.read_rows.ensures.0 ∙ read (goal.at.invariant_of-elements c).In_ok-x) c.read_rows.ensures.1 c.read_rows.ensures.2).stand }

pub count-requires : goal.count-requires
count-requires c = (c.requires, answer_rows _ _ _ _ _ c.in_ok-x.x (omega (arith, length-replicate {A = ℕ} row_numbers 0)) (omega (arith, length-replicate {A = ℕ} (most_elements * id_width) 0)) (sym c.read_rows.ensures.0 ∙ read (goal.at.count-requires c).In_ok-x) c.read_rows.ensures.1 c.read_rows.ensures.2)

pub returns-in_err-x : goal.returns-in_err-x
returns-in_err-x c = let a = c.args in
    let f = second_fault c.read_rows.result c.map_err.result c.map_err.ensures.cases _ c.in_err-x.was in
    let residual : c.from_residual.result ≡ Err c.in_err-x.field-0.0 = search rules in
    rw (residual, f.2, answer_faulty a.book.bytes.now a.answer.now (length a.newbook.now) f.0 (answer_fault a.answer.now f.0 (sym c.read_rows.ensures.0 ∙ f.1)))
    (refused_gives _ a.newbook.now)

pub returns : goal.returns
returns c = let a = c.args in
    rw (answer_fine a.book.bytes.now a.answer.now (length a.newbook.now) (answer_stands a.answer.now c.in_ok-x.x (sym c.read_rows.ensures.0 ∙ read (goal.at.returns c).In_ok-x))) c.count.ensures
