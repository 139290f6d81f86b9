-- `accessor::find_element` meets its contract: the row that reading the store left at the position.
-- Assumes nothing.
use mathlib.Core.Path.{◌≡◌, sym, ap, ◌∙◌}
use Rattle.std.proofs.Common.{rules}
use Rattle.std.specs.Prelude.{Err}
use Prim.Native.Nat.{ℕ, ◌*◌}
use native.Mathlib.Omega.{arith}
use lib.ListN.{length, length-replicate}
use Rattle.store.specs.Tables.{id_width, most_elements, row_numbers}
use Rattle.store.specs.Store.{store_walk}
use Rattle.store.specs.Accessor.{tell_found}
use Rattle.store.proofs.Found.{found_row, found_none, store_most, laid_long, full_rows, store_holds, store_refused}
use Rattle.store.proofs.accessor.find_element.Goals as goal
use Rattle.store.proofs.accessor.find_element.Goals.{Else-n-position}

pub returns-then-n-position : goal.returns-then-n-position
returns-then-n-position c = let s = c.args.s.now in
    let q = store_holds s c.in_ok-n.n (sym c.read_store.ensures.0 ∙ c.in_ok-n.was) in
    let i = c.args.position in
    rw (c.at_place.ensures, q.1 i, found_none (store_walk s).elements i (omega arith))

-- the tables are as long as they were
long : (c : Else-n-position) → (row_numbers ≡ length c.read_store.new.rows) × (most_elements * id_width ≡ length c.read_store.new.ids)
long c =
    let s = c.args.s.now in
    laid_long (store_walk s) _ _ _ _ (store_most s) (length-replicate {A = ℕ} row_numbers 0) (length-replicate {A = ℕ} (most_elements * id_width) 0) c.read_store.ensures.1 c.read_store.ensures.2

pub slice_bounds-element_in_row-end : goal.slice_bounds-element_in_row-end
slice_bounds-element_in_row-end c = (long (goal.at.slice_bounds-element_in_row-end c).Else-n-position).0

pub slice_bounds-element_in_row-end-2 : goal.slice_bounds-element_in_row-end-2
slice_bounds-element_in_row-end-2 c = (long (goal.at.slice_bounds-element_in_row-end-2 c).Else-n-position).1

pub element_in_row-x-requires : goal.element_in_row-x-requires
element_in_row-x-requires c = let s = c.args.s.now in
    let q = store_holds s c.in_ok-n.n (sym c.read_store.ensures.0 ∙ c.in_ok-n.was) in
    let m = store_most s in
    full_rows _ _ _ (long (goal.at.element_in_row-x-requires c).Else-n-position).0 (long (goal.at.element_in_row-x-requires c).Else-n-position).1 (omega arith)

pub returns-in_err-n : goal.returns-in_err-n
returns-in_err-n c = let s = c.args.s.now in
    let e : c.from_residual.result ≡ Err c.in_err-n.field-0.0 = search rules in
    rw (e, store_refused s c.in_err-n.field-0.0 (sym c.read_store.ensures.0 ∙ c.in_err-n.was) c.args.position)

pub returns : goal.returns
returns c = let s = c.args.s.now in
    let q = store_holds s c.in_ok-n.n (sym c.read_store.ensures.0 ∙ c.in_ok-n.was) in
    let i = c.args.position in
    rw (q.1 i, c.element_in_row-x.ensures, c.read_store.ensures.1) (ap tell_found (sym (found_row (store_walk s).elements _ _ i (omega arith))))
