-- `ask_put` meets its contract: no storage index, a number that is too wide, or one that fits.
-- Assumes nothing.
use Prim.Native.Nat.{◌<◌, ◌^◌}
use native.Mathlib.Omega.{arith}
use Rattle.std.proofs.lemmas.Result.{OkIff-at_ok, OkIff-at_err}
use Rattle.hub.specs.BenchPut.{widest_number}
use Rattle.hub.proofs.PutReports.{asked_null, asked_named, asked_wide}
use Rattle.hub.proofs.ask_put.Goals as goal

pub returns-then-named-eq0 : goal.returns-then-named-eq0
returns-then-named-eq0 c = let a = c.args in
    asked_null a.id a.named a.low a.high a.number a.elements.now a.out.now c.write_put.result _ c.if-named-eq0.true c.write_put.ensures

pub returns-in_default : goal.returns-in_default
returns-in_default c = let a = c.args in
    let f : a.number < 2 ^ 32 → ⊥ = OkIff-at_err c.try_from.result (a.number < 2 ^ 32) a.number _ c.try_from.ensures c.in_default.is in
    let wide : widest_number < a.number = omega arith in
    rw c.at_place.ensures (asked_wide a.id a.named a.low a.high a.number a.elements.now a.out.now c.if-named-eq0.false wide)

pub returns : goal.returns
returns c = let a = c.args in
    let r = OkIff-at_ok c.try_from.result (a.number < 2 ^ 32) a.number c.in-Ok.number c.try_from.ensures c.in-Ok.is in
    let narrow = r.0 in
    asked_named a.id a.named a.low a.high a.number a.elements.now a.out.now c.write_put-2.result _ c.if-named-eq0.false (omega arith) (rw r.1 at c.write_put-2.ensures)
