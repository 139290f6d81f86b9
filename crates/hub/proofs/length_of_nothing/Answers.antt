-- `length_of_nothing` meets its contract.
-- Assumes nothing.
use Prim.Native.Nat.{ℕ}
use native.Mathlib.Omega.{arith}
use lib.ListN.{replicate, length-replicate}
use mathlib.Core.List.{[]}
use Rattle.store.specs.Knowledge.{said_numbers}
use Rattle.hub.proofs.Reports.{nothing_ready, nothing_refused, some_store, refusal_told, page_told}
use Rattle.hub.proofs.length_of_nothing.Goals as goal

pub decide_request-requires : goal.decide_request-requires
decide_request-requires c = (some_store, length-replicate {A = ℕ} said_numbers 0, omega arith)

pub returns-in-Err : goal.returns-in-Err
returns-in-Err c = λ s e.
    let f = c.refuse.ensures in
    rw f.0 (refusal_told s _ _ _ _ _ (nothing_refused s _ _ _ (replicate said_numbers 0) _ [] _ e c.decide_request.ensures _ c.in-Err.is) f.1)

pub returns-in-Ok : goal.returns-in-Ok
returns-in-Ok c = λ s e.
    let f = c.done.ensures in
    let x = nothing_ready s _ _ _ (replicate said_numbers 0) _ [] _ e c.decide_request.ensures _ _ _ c.in-Ok.is in
    rw f.0 (page_told _ x.1 _ _ f.1)
