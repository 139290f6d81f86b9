-- `apply::put` meets its contract.
-- Assumes nothing.
use Rattle.std.specs.Prelude.{Err}
use Rattle.std.proofs.Common.{rules}
use mathlib.Core.Path.{◌≡◌, sym, ◌∙◌}
use Prim.Native.Nat.{ℕ, ◌*◌}
use native.Mathlib.Omega.{arith}
use lib.ListN.{length, length-replicate}
use Rattle.laws.specs.Bytes.{AllBytes}
use Rattle.store.specs.Tables.{id_width, most_elements, row_numbers}
use Rattle.store.proofs.StoreHeld.{store_held, store_long}
use Rattle.puts.proofs.Outcomes.{refused_gives, store_faulty, store_fine}
use Rattle.puts.proofs.apply.put.Goals as goal

pub slice_bounds-elements-end : goal.slice_bounds-elements-end
slice_bounds-elements-end c = (store_long _ _ _ _ _ _ (length-replicate {A = ℕ} row_numbers 0) (length-replicate {A = ℕ} (most_elements * id_width) 0) c.read_store.ensures).0

pub slice_bounds-elements-end-2 : goal.slice_bounds-elements-end-2
slice_bounds-elements-end-2 c = (store_long _ _ _ _ _ _ (length-replicate {A = ℕ} row_numbers 0) (length-replicate {A = ℕ} (most_elements * id_width) 0) c.read_store.ensures).1

pub invariant_of-elements : goal.invariant_of-elements
invariant_of-elements c = let s = c.args.store.now in
    let b : AllBytes s = λ i. (c.type_inv.store i).fits in
    record { stand = (store_held s _ _ _ _ c.in_ok-n.n b (omega (arith, length-replicate {A = ℕ} row_numbers 0)) (omega (arith, length-replicate {A = ℕ} (most_elements * id_width) 0)) (rw c.in_ok-n.was at c.read_store.ensures)).stand }

pub apply_put-requires : goal.apply_put-requires
apply_put-requires c = let s = c.args.store.now in
    let b : AllBytes s = λ i. (c.type_inv.store i).fits in
    store_held s _ _ _ _ c.in_ok-n.n b (omega (arith, length-replicate {A = ℕ} row_numbers 0)) (omega (arith, length-replicate {A = ℕ} (most_elements * id_width) 0)) (rw c.in_ok-n.was at c.read_store.ensures)

pub returns-in_err-n : goal.returns-in_err-n
returns-in_err-n c = let residual : c.from_residual.result ≡ Err c.in_err-n.field-0.0 = search rules in
    rw residual (let a = c.args in
    rw (store_faulty a.store.now a.request.now a.g (length a.newstore.now) (length a.out.now) c.in_err-n.field-0.0 (sym c.read_store.ensures.0 ∙ c.in_err-n.was)) (refused_gives _ a.newstore.now a.out.now))

pub returns : goal.returns
returns c = let a = c.args in
    rw (store_fine a.store.now a.request.now a.g (length a.newstore.now) (length a.out.now) c.in_ok-n.n (sym c.read_store.ensures.0 ∙ c.in_ok-n.was)) c.apply_put.ensures
