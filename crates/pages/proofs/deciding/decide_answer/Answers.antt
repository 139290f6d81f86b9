-- `deciding::decide_answer` meets its contract.
-- Assumes nothing.
use Rattle.std.specs.Prelude.{Err}
use Rattle.std.proofs.Common.{rules}
use mathlib.Core.Path.{◌≡◌, refl, sym, ◌∙◌}
use Prim.Native.Nat.{◌*◌}
use native.Mathlib.Omega.{arith}
use lib.ListN.{length}
use Rattle.laws.specs.Bytes.{AllBytes}
use Rattle.store.specs.Held.{StoreHeld}
use Rattle.store.specs.Tables.{row_numbers, most_elements, id_width}
use Rattle.store.proofs.StoreHeld.{store_held, store_long}
use Rattle.pages.specs.Answer.{on_store, outcome}
use Rattle.pages.specs.Held.{reckoned_of}
use Rattle.pages.proofs.Stored.{last_refused, last_read}
use Rattle.pages.proofs.deciding.decide_answer.Goals as goal
use Rattle.pages.proofs.deciding.decide_answer.Goals.{After-read_store, In_ok-n}

-- the tables hold the store
held : (c : In_ok-n) → StoreHeld c.args.store.now c.read_store.new.rows c.read_store.new.ids c.in_ok-n.n
held c =
    let b : AllBytes c.args.store.now = λ i. (c.type_inv.store i).fits in
    let lent = c.requires in
    store_held c.args.store.now _ _ _ _ c.in_ok-n.n b (omega (arith, lent.elements_long)) (omega (arith, lent.ids_long)) (rw c.in_ok-n.was at c.read_store.ensures)

-- and are as long as they were
read_long : (c : After-read_store) → (row_numbers ≡ length c.read_store.new.rows) × (most_elements * id_width ≡ length c.read_store.new.ids)
read_long c = store_long _ _ _ _ _ _ c.requires.elements_long c.requires.ids_long c.read_store.ensures

pub invariant_of-all : goal.invariant_of-all
invariant_of-all c = record { stand = (held (goal.at.invariant_of-all c).In_ok-n).stand }

pub decide_request-requires : goal.decide_request-requires
decide_request-requires c = let lent = c.requires in let few = (held (goal.at.decide_request-requires c).In_ok-n).most in let long = lent.queue_long in ((c.args.store.now, held (goal.at.decide_request-requires c).In_ok-n), lent.known_long, omega arith)

pub returns-in_err-n : goal.returns-in_err-n
unfolding outcome on_store reckoned_of
returns-in_err-n c = let residual : c.from_residual.result ≡ Err c.in_err-n.field-0.0 = search rules in
    rw residual (rw (last_refused _ c.in_err-n.field-0.0 _ (sym c.read_store.ensures.0 ∙ c.in_err-n.was))
    (refl, c.read_store.ensures.1, c.read_store.ensures.2, refl, refl, record { elements_long = sym (read_long (goal.at.returns-in_err-n c).After-read_store).0; ids_long = sym (read_long (goal.at.returns-in_err-n c).After-read_store).1; known_long = c.requires.known_long; queue_long = c.requires.queue_long }, refl))

pub returns : goal.returns
unfolding outcome on_store reckoned_of
returns c = let x = c.decide_request.ensures c.args.store.now (held (goal.at.returns c).In_ok-n) in
    let read = last_read _ _ _ (sym c.read_store.ensures.0 ∙ c.in_ok-n.was) in
    let lent = c.requires in
    rw read.2 (x.0, c.read_store.ensures.1, c.read_store.ensures.2, x.1, x.2, record { elements_long = sym (read_long (goal.at.returns c).After-read_store).0; ids_long = sym (read_long (goal.at.returns c).After-read_store).1; known_long = x.3 ∙ lent.known_long; queue_long = x.4 ∙ lent.queue_long }, x.5)
