-- `apply::apply_handed` meets its contract.
-- Assumes nothing.
use Rattle.std.specs.Prelude.{Err}
use Rattle.std.proofs.Common.{rules}
use mathlib.Core.Path.{◌≡◌, sym, ◌∙◌}
use Prim.Native.Nat.{ℕ, ◌*◌}
use native.Mathlib.Omega.{arith}
use lib.ListN.{length-replicate}
use Rattle.laws.specs.Bytes.{AllBytes}
use Rattle.store.specs.Tables.{id_width, most_elements, row_numbers}
use Rattle.puts.specs.Applied.{on_put}
use Rattle.puts.proofs.Outcomes.{refused_gives}
use Rattle.puts.proofs.PutHeld.{put_held, put_long}
use Rattle.puts.proofs.apply.apply_handed.Goals as goal

pub slice_bounds-elements-end : goal.slice_bounds-elements-end
slice_bounds-elements-end c = (put_long _ _ _ _ _ _ (length-replicate {A = ℕ} row_numbers 0) (length-replicate {A = ℕ} (most_elements * id_width) 0) c.read_put.ensures).0

pub slice_bounds-elements-end-2 : goal.slice_bounds-elements-end-2
slice_bounds-elements-end-2 c = (put_long _ _ _ _ _ _ (length-replicate {A = ℕ} row_numbers 0) (length-replicate {A = ℕ} (most_elements * id_width) 0) c.read_put.ensures).1

pub invariant_of-elements : goal.invariant_of-elements
invariant_of-elements c = let q = c.args.request.now in
    let b : AllBytes q = λ i. (c.type_inv.request i).fits in
    record { stand = (put_held q _ _ _ _ _ _ _ b (omega (arith, length-replicate {A = ℕ} row_numbers 0)) (omega (arith, length-replicate {A = ℕ} (most_elements * id_width) 0)) (rw c.in_ok-put.was at c.read_put.ensures)).stand }

pub expect-requires : goal.expect-requires
expect-requires c = let q = c.args.request.now in
    let b : AllBytes q = λ i. (c.type_inv.request i).fits in
    (c.requires.0, put_held q _ _ _ _ _ _ _ b (omega (arith, length-replicate {A = ℕ} row_numbers 0)) (omega (arith, length-replicate {A = ℕ} (most_elements * id_width) 0)) (rw c.in_ok-put.was at c.read_put.ensures))

pub returns-in_err-put : goal.returns-in_err-put
unfolding on_put
returns-in_err-put c = let residual : c.from_residual.result ≡ Err c.in_err-put.field-0.0 = search rules in
    rw residual (let a = c.args in
    rw (sym c.read_put.ensures.0 ∙ c.in_err-put.was) (refused_gives _ a.newstore.now a.out.now))

pub returns : goal.returns
unfolding on_put
returns c = rw (sym c.read_put.ensures.0 ∙ c.in_ok-put.was) c.expect.ensures
