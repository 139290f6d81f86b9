-- `plan::plan_new` meets its contract. The invariant: with the numbers still to come laid at the count, the plan is what it is to be.
-- Assumes nothing.
use mathlib.Core.Path.{◌≡◌}
use Prim.Native.Nat.{◌+◌, ◌≤◌}
use lib.ListN.{length}
use Rattle.laws.specs.Placed.{laid}
use Rattle.store.specs.Tables.{id_keys}
use Rattle.enter.specs.Plan.{new_sources}
use Rattle.enter.proofs.Planning.{ids_from}
use Rattle.enter.proofs.plan.plan_new.Given as goal

abbrev pub invariant-loop-j : goal.invariant-loop-j
invariant-loop-j l = (l.count ≤ l.n + l.j)
    × (l.count + length (new_sources (id_keys l.ids l.n) l.j (ids_from l.handed l.j l.m)) ≡ l.n + length (new_sources (id_keys l.ids l.n) 0 (id_keys l.handed l.m)))
    × (laid l.count (new_sources (id_keys l.ids l.n) l.j (ids_from l.handed l.j l.m)) l.plan ≡ laid l.n (new_sources (id_keys l.ids l.n) 0 (id_keys l.handed l.m)) l.initial.plan)
