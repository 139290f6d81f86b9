-- `plan::plan_kept` meets its contract. The invariant: with the numbers still to come laid at i, the plan is what it is to be.
-- Assumes nothing.
use mathlib.Core.Path.{◌≡◌, sym, ap, ◌∙◌}
use mathlib.Core.List.{List, [], ◌∷◌, ◌++◌}
use Prim.Native.Nat.{ℕ, ◌+◌, ◌-◌, ◌<◌}
use native.Mathlib.Omega.{arith}
use lib.ListN.{length, set}
use Rattle.laws.specs.Placed.{laid}
use Rattle.laws.proofs.Placing.{laid_nothing, lays_first}
use Rattle.store.specs.Tables.{id_in_row, id_keys}
use Rattle.enter.specs.Plan.{kept_source, kept_sources}
use Rattle.enter.proofs.Planning.{ids_from, length_keys, length_kept, set_lays, kept_turn, kept_end, kept_start}
use Rattle.enter.proofs.plan.plan_kept.Goals as goal

pub loop-i-init : goal.loop-i-init
loop-i-init c = let a = c.args in kept_start (id_keys a.handed.now a.m) a.ids.now a.n a.plan.now

pub loop-i-preserved : goal.loop-i-preserved
loop-i-preserved c = let a = c.args in
    let i = c.loop-i.i in
    let h : i < a.n = c.loop-i-test.true in
    let come = id_keys a.handed.now a.m in
    let v : c.kept_source.result ≡ kept_source come i (id_in_row a.ids.now i) = c.kept_source.ensures ∙ ap (kept_source come i) c.id_in_row.ensures in
    let w = kept_sources come i (ids_from a.ids.now i a.n) in
    let y = kept_sources come (i + 1) (ids_from a.ids.now (i + 1) a.n) in
    let t : w ≡ (c.kept_source.result ∷ []) ++ y = kept_turn come a.ids.now i a.n h ∙ ap (λ (x : ℕ). (x ∷ []) ++ y) (sym v) in
    let m : length w ≡ a.n - i = length_kept come i (ids_from a.ids.now i a.n) ∙ length_keys _ _ _ _ in
    let q = c.requires.4 in
    lays_first i w (c.kept_source.result ∷ []) y c.loop-i.plan (i + 1) (set c.loop-i.plan i c.kept_source.result) _ t (omega arith) c.loop-i.invariant
    (set_lays c.loop-i.plan i c.kept_source.result (omega arith))

pub returns : goal.returns
returns c = let a = c.args in
    let e = kept_end (id_keys a.handed.now a.m) a.ids.now c.loop-i.i a.n c.loop-i-test.false in
    sym (laid_nothing c.loop-i.i c.loop-i.plan) ∙ ap (λ (w : List ℕ). laid c.loop-i.i w c.loop-i.plan) (sym e) ∙ c.loop-i.invariant
