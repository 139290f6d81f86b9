-- `plan::plan_new` meets its contract. The invariant: with the numbers still to come laid at the count, the plan is what it is to be.
-- Assumes nothing.
use mathlib.Core.Path.{◌≡◌, sym, ap, ◌∙◌}
use mathlib.Core.List.{List, [], ◌∷◌, ◌++◌}
use Prim.Native.Nat.{ℕ, ◌+◌, ◌-◌, ◌*◌, ◌≤◌}
use native.Mathlib.Omega.{arith}
use lib.ListN.{length, set}
use Rattle.std.specs.Prelude.{not}
use Rattle.std.specs.Option.{is_some}
use Rattle.laws.specs.Placed.{laid}
use Rattle.laws.proofs.Placing.{laid_nothing, lays_first}
use Rattle.store.specs.Tables.{id_width, most_elements, id_in_row, id_keys}
use Rattle.store.specs.declared.element.Key.{Key}
use Rattle.enter.specs.Plan.{place_of, is_among, new_sources}
use Rattle.enter.proofs.Planning.{ids_from, ids_start, length_keys, length_new, found_is, set_lays, new_held, new_turn, new_end}
use Rattle.enter.proofs.plan.plan_new.Goals as goal
use Rattle.enter.proofs.plan.plan_new.Goals.{After-find_id, then-is_none, else-is_none}

pub loop-j-init : goal.loop-j-init
loop-j-init c = let a = c.args in
    let e = ids_start a.handed.now a.m in
    (omega arith, rw e, rw e)

-- the id of row j, looked up
found : (c : After-find_id)
    → let a = c.args in
    c.find_id.result ≡ place_of (id_in_row a.handed.now c.loop-j.j) (id_keys a.ids.now a.n)
found c =
    let a = c.args in
    c.find_id.ensures ∙ ap (λ (k : Key). place_of k (id_keys a.ids.now a.n)) c.id_in_row.ensures

pub loop-j-preserved : goal.loop-j-preserved
loop-j-preserved c = let a = c.args in
    let j = c.loop-j.j in
    let p = c.loop-j.count in
    let there = id_keys a.ids.now a.n in
    let f = found (goal.at.loop-j-preserved c).After-find_id in
    let among : is_among (id_in_row a.handed.now j) there ≡ not c.is_none.result = sym (found_is (id_in_row a.handed.now j) there) ∙ ap is_some (sym f) ∙ c.is_none.ensures in
    let i = c.loop-j.invariant in
    elim c.if-is_none.branch [
      | then-is_none w ↦
          let w₀ = new_sources there j (ids_from a.handed.now j a.m) in
          let y = new_sources there (j + 1) (ids_from a.handed.now (j + 1) a.m) in
          let t : w₀ ≡ ((most_elements + j) ∷ []) ++ y = new_turn a.ids.now a.n a.handed.now j a.m c.loop-j-test.true (among ∙ ap not w.if-is_none.true) in
          let b = ap length t in
          let m = length_new there j (ids_from a.handed.now j a.m) in
          let g = length_keys a.handed.now (j * id_width) id_width (a.m - j) in
          let r = c.requires.4 in
          let long = c.loop-j.auto.plan in
          let o : p + length w₀ ≤ length c.loop-j.plan = omega arith in
          rw (w.plan-is, w.count-is)
          (omega arith, omega arith, lays_first p w₀ ((most_elements + j) ∷ []) y c.loop-j.plan (p + 1) (set c.loop-j.plan p (most_elements + j)) _ t o i.2 (set_lays c.loop-j.plan p (most_elements + j) (omega arith)))
      | else-is_none w ↦
          let e = new_held a.ids.now a.n a.handed.now j a.m c.loop-j-test.true (among ∙ ap not w.if-is_none.false) in
          rw (w.plan-is, w.count-is) (omega arith, rw e at i.1, rw e at i.2)
    ]

pub returns : goal.returns
returns c = let a = c.args in
    let e = new_end (id_keys a.ids.now a.n) a.handed.now c.loop-j.j a.m c.loop-j-test.false in
    let f = ap length e in
    let g = c.loop-j.invariant.1 in
    (omega arith, sym (laid_nothing c.loop-j.count c.loop-j.plan) ∙ ap (λ (w : List ℕ). laid c.loop-j.count w c.loop-j.plan) (sym e) ∙ c.loop-j.invariant.2)
