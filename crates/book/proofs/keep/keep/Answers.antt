-- `keep::keep` meets its contract.
-- Assumes nothing.
use Rattle.std.specs.Prelude.{Err}
use Rattle.std.proofs.Common.{rules}
use mathlib.Core.Path.{◌≡◌, sym, ◌∙◌}
use Prim.Native.Nat.{ℕ, ◌*◌}
use native.Mathlib.Omega.{arith}
use lib.ListN.{length, length-replicate}
use Rattle.laws.specs.Bytes.{AllBytes}
use Rattle.store.specs.Tables.{id_width, most_elements, row_numbers}
use Rattle.store.proofs.StoreHeld.{store_held, store_long}
use Rattle.book.proofs.Outcomes.{refused_gives, book_faulty, book_fine}
use Rattle.book.proofs.ReadRows.{book_rows}
use Rattle.book.proofs.keep.keep.Goals as goal

pub slice_bounds-elements-end : goal.slice_bounds-elements-end
slice_bounds-elements-end c = (store_long _ _ _ _ _ _ (length-replicate {A = ℕ} row_numbers 0) (length-replicate {A = ℕ} (most_elements * id_width) 0) c.read_store.ensures).0

pub slice_bounds-elements-end-2 : goal.slice_bounds-elements-end-2
slice_bounds-elements-end-2 c = (store_long _ _ _ _ _ _ (length-replicate {A = ℕ} row_numbers 0) (length-replicate {A = ℕ} (most_elements * id_width) 0) c.read_store.ensures).1

pub invariant_of-elements : goal.invariant_of-elements
invariant_of-elements c = let b = c.args.book.now in
    let t : AllBytes b = λ i. (c.type_inv.book i).fits in
    record { stand = (store_held b _ _ _ _ c.in_ok-n.n t (omega (arith, length-replicate {A = ℕ} row_numbers 0)) (omega (arith, length-replicate {A = ℕ} (most_elements * id_width) 0)) (rw c.in_ok-n.was at c.read_store.ensures)).stand }

pub keep_answer-requires : goal.keep_answer-requires
keep_answer-requires c = let b = c.args.book.now in
    let t : AllBytes b = λ i. (c.type_inv.book i).fits in
    book_rows b _ _ c.in_ok-n.n
    (store_held b _ _ _ _ c.in_ok-n.n t (omega (arith, length-replicate {A = ℕ} row_numbers 0)) (omega (arith, length-replicate {A = ℕ} (most_elements * id_width) 0)) (rw c.in_ok-n.was at c.read_store.ensures))

pub returns-in_err-n : goal.returns-in_err-n
returns-in_err-n c = let residual : c.from_residual.result ≡ Err c.in_err-n.field-0.0 = search rules in
    rw residual (let a = c.args in
    rw (book_faulty a.book.now a.answer.now (length a.newbook.now) c.in_err-n.field-0.0 (sym c.read_store.ensures.0 ∙ c.in_err-n.was)) (refused_gives _ a.newbook.now))

pub returns : goal.returns
returns c = let a = c.args in
    rw (book_fine a.book.now a.answer.now (length a.newbook.now) c.in_ok-n.n (sym c.read_store.ensures.0 ∙ c.in_ok-n.was)) c.keep_answer.ensures
