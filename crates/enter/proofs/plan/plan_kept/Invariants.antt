-- `plan::plan_kept` meets its contract. The invariant: with the numbers still to come laid at i, the plan is what it is to be.
-- Assumes nothing.
use mathlib.Core.Path.{◌≡◌}
use mathlib.Core.List.{◌++◌}
use lib.ListN.{drop}
use Rattle.laws.specs.Placed.{laid}
use Rattle.store.specs.Tables.{id_keys}
use Rattle.enter.specs.Plan.{kept_sources}
use Rattle.enter.proofs.Planning.{ids_from}
use Rattle.enter.proofs.plan.plan_kept.Given as goal

abbrev pub invariant-loop-i : goal.invariant-loop-i
invariant-loop-i l = laid l.i (kept_sources (id_keys l.handed l.m) l.i (ids_from l.ids l.i l.n)) l.plan ≡ kept_sources (id_keys l.handed l.m) 0 (id_keys l.ids l.n) ++ drop l.n l.initial.plan
