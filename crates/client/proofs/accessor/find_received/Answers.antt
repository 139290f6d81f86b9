-- `accessor::find_received` meets its contract: the row that reading the answer left at the position.
-- Assumes nothing.
use Rattle.std.specs.Prelude.{Err}
use Rattle.std.proofs.Common.{rules}
use mathlib.Core.Path.{◌≡◌, sym, ap, ◌∙◌}
use Prim.Native.Nat.{ℕ, ◌*◌}
use native.Mathlib.Omega.{arith}
use lib.ListN.{length, length-replicate}
use Rattle.store.specs.Accessor.{tell_found}
use Rattle.store.specs.Tables.{id_width, most_elements, row_numbers}
use Rattle.store.proofs.Found.{found_row, found_none, package_most, laid_long, full_rows}
use Rattle.client.specs.Read.{response_start, package_in, answer_strictness}
use Rattle.client.proofs.AnswerRest.{answer_refused, answer_is, rows_received_lem, ids_received_lem}
use Rattle.client.proofs.accessor.find_received.Goals as goal
use Rattle.client.proofs.accessor.find_received.Goals.{Else-x-position}

pub returns-then-x-position : goal.returns-then-x-position
returns-then-x-position c = let a = c.args in
    let q = answer_is a.s.now c.in_ok-x.x (sym c.read_rows.ensures.0 ∙ c.in_ok-x.was) in
    rw (c.at_place.ensures, q.2 a.position, found_none (package_in a.s.now).elements a.position (omega arith))

-- the tables are as long as they were
long : (c : Else-x-position) → (row_numbers ≡ length c.read_rows.new.rows) × (most_elements * id_width ≡ length c.read_rows.new.ids)
long c =
    let a = c.args in
    let q = answer_is a.s.now c.in_ok-x.x (sym c.read_rows.ensures.0 ∙ c.in_ok-x.was) in
    laid_long (package_in a.s.now) _ _ _ _ (package_most answer_strictness 0x62 a.s.now (response_start a.s.now)) (length-replicate {A = ℕ} row_numbers 0) (length-replicate {A = ℕ} (most_elements * id_width) 0) (c.read_rows.ensures.1 ∙ rows_received_lem a.s.now _ q.1) (c.read_rows.ensures.2 ∙ ids_received_lem a.s.now _ q.1)

pub slice_bounds-element_in_row-end : goal.slice_bounds-element_in_row-end
slice_bounds-element_in_row-end c = (long (goal.at.slice_bounds-element_in_row-end c).Else-x-position).0

pub slice_bounds-element_in_row-end-2 : goal.slice_bounds-element_in_row-end-2
slice_bounds-element_in_row-end-2 c = (long (goal.at.slice_bounds-element_in_row-end-2 c).Else-x-position).1

pub element_in_row-e-requires : goal.element_in_row-e-requires
element_in_row-e-requires c = let a = c.args in
    let q = answer_is a.s.now c.in_ok-x.x (sym c.read_rows.ensures.0 ∙ c.in_ok-x.was) in
    let m = package_most answer_strictness 0x62 a.s.now (response_start a.s.now) in
    full_rows _ _ _ (long (goal.at.element_in_row-e-requires c).Else-x-position).0 (long (goal.at.element_in_row-e-requires c).Else-x-position).1 (omega arith)

pub returns-in_err-x : goal.returns-in_err-x
returns-in_err-x c = let residual : c.from_residual.result ≡ Err c.in_err-x.field-0.0 = search rules in
    rw residual (let a = c.args in
    rw (answer_refused a.s.now c.in_err-x.field-0.0 (sym c.read_rows.ensures.0 ∙ c.in_err-x.was) a.position))

pub returns : goal.returns
returns c = let a = c.args in
    let q = answer_is a.s.now c.in_ok-x.x (sym c.read_rows.ensures.0 ∙ c.in_ok-x.was) in
    rw (q.2 a.position, c.element_in_row-e.ensures, c.read_rows.ensures.1, rows_received_lem a.s.now _ q.1)
    (ap tell_found (sym (found_row (package_in a.s.now).elements _ _ a.position (omega arith))))
