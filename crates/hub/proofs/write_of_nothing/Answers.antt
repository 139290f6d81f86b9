-- `write_of_nothing` meets its contract.
-- Assumes nothing.
use mathlib.Core.Path.{refl, sym, ◌∙◌}
use Prim.Native.Nat.{ℕ}
use native.Mathlib.Omega.{arith}
use lib.ListN.{replicate, length-replicate}
use mathlib.Core.List.{[]}
use Rattle.store.specs.Knowledge.{said_numbers}
use Rattle.store.proofs.Beginning.{nothing_held}
use Rattle.hub.proofs.Reports.{nothing_ready, nothing_refused, some_store, refusal_written, page_written}
use Rattle.hub.proofs.write_of_nothing.Goals as goal

pub decide_request-requires : goal.decide_request-requires
decide_request-requires c = (some_store, length-replicate {A = ℕ} said_numbers 0, omega arith)

pub slice_bounds-write_answer-end-in-Ok-3 : goal.slice_bounds-write_answer-end-in-Ok-3
slice_bounds-write_answer-end-in-Ok-3 c = sym ((c.decide_request.ensures c.args.store.now (nothing_held _ c.requires)).3 ∙ length-replicate {A = ℕ} said_numbers 0)

pub write_answer-requires : goal.write_answer-requires
write_answer-requires c = (nothing_ready _ _ _ _ (replicate said_numbers 0) _ [] _ c.requires c.decide_request.ensures _ _ _ c.in-Ok.is).1.to_send

pub returns-in-Err : goal.returns-in-Err
returns-in-Err c = let f = c.refuse.ensures in
    rw f.0 (refusal_written _ _ c.args.out.now _ _ _ (nothing_refused _ _ _ _ (replicate said_numbers 0) _ [] _ c.requires c.decide_request.ensures _ c.in-Err.is) f.1)

pub returns-in-Ok : goal.returns-in-Ok
returns-in-Ok c = let f = c.done.ensures in
    let x = nothing_ready _ _ _ _ (replicate said_numbers 0) _ [] _ c.requires c.decide_request.ensures _ _ _ c.in-Ok.is in
    rw f.0 (page_written _ x.1 c.args.out.now _ _ _ refl c.write_answer.ensures.1 f.1)
