-- `plan::find_id` meets its contract. The invariant: the id stands so many places behind row i as it does among the ids from there on.
-- Assumes nothing.
use mathlib.Core.Path.{◌≡◌}
use Prim.Native.Nat.{◌+◌}
use Rattle.store.specs.Tables.{id_keys}
use Rattle.enter.specs.Plan.{place_among}
use Rattle.enter.proofs.Planning.{ids_from}
use Rattle.enter.proofs.plan.find_id.Given as goal

abbrev pub invariant-loop-i : goal.invariant-loop-i
invariant-loop-i l = place_among l.k (id_keys l.ids l.n) ≡ l.i + place_among l.k (ids_from l.ids l.i l.n)
