-- `plan::kept_source` meets its contract.
-- Assumes nothing.
use mathlib.Core.Path.{◌≡◌, sym, ◌∙◌}
use mathlib.Core.Bool.{true}
use Prim.Native.Nat.{◌<◌}
use native.Mathlib.Omega.{arith}
use lib.ListN.{length}
use Rattle.store.specs.Tables.{id_width, most_elements, id_keys}
use Rattle.enter.specs.Plan.{place_among, is_among, kept_source}
use Rattle.enter.proofs.Planning.{length_keys, found_there, found_not}
use Rattle.enter.proofs.plan.kept_source.Goals as goal
use Rattle.enter.proofs.plan.kept_source.Goals.{In-Some}

-- it was found among those that come
module _ (c : In-Some) where
  found : (is_among c.args.k (id_keys c.args.handed.now c.args.m) ≡ true) × (place_among c.args.k (id_keys c.args.handed.now c.args.m) ≡ c.in-Some.j)
      × (c.in-Some.j < length (id_keys c.args.handed.now c.args.m))
  found = found_there c.args.k (id_keys c.args.handed.now c.args.m) c.in-Some.j (sym c.find_id.ensures ∙ c.in-Some.is)

  inside : c.in-Some.j < most_elements
  inside = omega (arith, found.2, length_keys c.args.handed.now 0 id_width c.args.m, c.requires.1)

pub overflow_add-result : goal.overflow_add-result
overflow_add-result c = let l = inside (goal.at.overflow_add-result c).In-Some in omega arith

pub overflow_cast-result : goal.overflow_cast-result
overflow_cast-result c = let l = inside (goal.at.overflow_cast-result c).In-Some in omega arith

pub returns-in-Some : goal.returns-in-Some
unfolding kept_source
returns-in-Some c = let f = found (goal.at.returns-in-Some c).In-Some in rw (f.0, f.1)

pub returns-in-None : goal.returns-in-None
unfolding kept_source
returns-in-None c = let a = c.args in rw (found_not a.k (id_keys a.handed.now a.m) (sym c.find_id.ensures ∙ c.in-None.is))
