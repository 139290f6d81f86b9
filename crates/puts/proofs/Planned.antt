-- What was planned by the ids is what the definition says: the numbers of the plan stand for the elements of the new store.
-- Assumes nothing.
use mathlib.Core.Path.{◌≡◌, refl, ap, ◌∙◌}
use mathlib.Core.List.{List, [], ◌∷◌, map}
use Prim.Native.Nat.{ℕ, zero, suc, ◌+◌, ◌≤◌}
use native.Mathlib.Omega.{arith}
use lib.ListN.{length}
use lib.Dec.{ltb}
use Rattle.laws.proofs.Cases.{by_bool}
use Rattle.talk.specs.declared.range.Range.{Range}
use Rattle.store.specs.Element.{key_of}
use Rattle.store.specs.Tables.{most_elements, id_keys, id_in_row, element_in_row, elements_in_rows, elements_in}
use Rattle.enter.specs.Entering.{Kept, enter}
use Rattle.enter.specs.Package.{kept_in, joined}
use Rattle.enter.specs.Plan.{sources}
use Rattle.enter.proofs.Planned.{from_row, source_of}
use Rattle.enter.proofs.Planned as planned
use Rattle.puts.specs.NewStore.{entering, entering_from, ranges_of}
use Rattle.puts.specs.Plan.{Sides, source_serial, source_bytes, planned_bytes, planned_ranges}

module _ (a : Sides) where
  -- ---- the elements by their rows: those that stay, and those that enter

  abbrev stay : ℕ → Kept
  stay i = kept_in a.store (element_in_row a.rows a.ids i)

  abbrev comes : ℕ → Kept
  comes j = entering a.request (key_of a.guid (a.highest + 1 + j)) (element_in_row a.handed_rows a.handed_ids j)

  stay_ids : (i : ℕ) → (stay i).id ≡ id_in_row a.ids i
  unfolding kept_in element_in_row
  stay_ids i = refl

  come_ids : (j : ℕ) → (comes j).id ≡ id_in_row a.handed_ids j
  unfolding entering element_in_row
  come_ids j = refl

  stay_rows : (i n : ℕ) → from_row stay i n ≡ map (kept_in a.store) (elements_in_rows a.rows a.ids i n)
  unfolding from_row elements_in_rows
  stay_rows i zero = refl
  stay_rows i (suc n) = rw (stay_rows (suc i) n)

  come_rows : (j m : ℕ) → from_row comes j m ≡ entering_from a.request a.guid (a.highest + 1 + j) (elements_in_rows a.handed_rows a.handed_ids j m)
  unfolding from_row entering_from elements_in_rows
  come_rows j zero = refl
  come_rows j (suc m) = let e : a.highest + 1 + suc j ≡ suc (a.highest + 1 + j) = omega arith in rw (come_rows (suc j) m, e)

  -- ---- what a number of the plan stands for

  source_bytes_lem : (source : ℕ) → (source_of stay comes source).bytes ≡ source_bytes a source
  unfolding source_of source_bytes kept_in entering
  source_bytes_lem source = by_bool (ltb source most_elements) (λ e. rw e) (λ e. rw e)

  source_serial_lem : (source : ℕ) → (source_of stay comes source).serial ≡ source_serial a.rows a.ids a.guid a.highest source
  unfolding source_of source_serial kept_in entering
  source_serial_lem source = by_bool (ltb source most_elements) (λ e. rw e) (λ e. rw e)

  bytes_joined : (plan : List ℕ) → planned_bytes a plan ≡ joined (map (source_of stay comes) plan)
  unfolding planned_bytes joined
  bytes_joined [] = refl
  bytes_joined (x ∷ plan) = rw (source_bytes_lem x, bytes_joined plan)

  ranges_joined : (plan : List ℕ) (r : List Range) → planned_ranges a.rows a.ids a.guid a.highest r plan ≡ ranges_of r (map (source_of stay comes) plan)
  unfolding planned_ranges ranges_of
  ranges_joined [] r = refl
  ranges_joined (x ∷ plan) r = rw (source_serial_lem x) (ranges_joined plan _)

  -- ---- the whole

  module _ (n m : ℕ) (few : n ≤ most_elements) where
    abbrev new : List Kept
    new = enter (map (kept_in a.store) (elements_in a.rows a.ids n)) (entering_from a.request a.guid (a.highest + 1) (elements_in a.handed_rows a.handed_ids m))

    both : enter (from_row stay 0 n) (from_row comes 0 m) ≡ new
    both = let e : a.highest + 1 + 0 ≡ a.highest + 1 = omega arith in rw (stay_rows 0 n, come_rows 0 m, e)

    pub plan_is : map (source_of stay comes) (sources (id_keys a.ids n) (id_keys a.handed_ids m)) ≡ new
    plan_is = planned.plan_is a.ids a.handed_ids stay comes stay_ids come_ids n m few ∙ both

    pub plan_bytes : planned_bytes a (sources (id_keys a.ids n) (id_keys a.handed_ids m)) ≡ joined new
    plan_bytes = bytes_joined (sources (id_keys a.ids n) (id_keys a.handed_ids m)) ∙ ap joined plan_is

    pub plan_ranges : (r : List Range) → planned_ranges a.rows a.ids a.guid a.highest r (sources (id_keys a.ids n) (id_keys a.handed_ids m)) ≡ ranges_of r new
    plan_ranges r = ranges_joined (sources (id_keys a.ids n) (id_keys a.handed_ids m)) r ∙ ap (ranges_of r) plan_is

    pub plan_count : length (sources (id_keys a.ids n) (id_keys a.handed_ids m)) ≡ length new
    plan_count = planned.plan_count a.ids a.handed_ids stay comes stay_ids come_ids n m few ∙ ap length both
