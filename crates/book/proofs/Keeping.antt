-- What was read of a book and of an answer, and what was planned for them, is what the definition of the new book speaks of.
-- Assumes nothing.
use mathlib.Core.Path.{◌≡◌, refl, sym, ap, ◌∙◌}
use mathlib.Core.List.{List, [], ◌∷◌, ◌++◌, map, append-nil}
use Prim.Native.Nat.{ℕ, zero, suc, ◌+◌, ◌-◌, ◌≤◌, ◌<◌}
use native.Mathlib.Omega.{arith}
use lib.ListN.{length, take}
use lib.Seq.{take_at}
use lib.Dec.{ltb}
use Rattle.laws.proofs.Cases.{by_bool}
use Rattle.talk.specs.Each.{Each}
use Rattle.store.specs.Store.{store_walk}
use Rattle.store.specs.Tables.{id_width, most_elements, id_keys, id_in_row, element_in_row, elements_in_rows}
use Rattle.store.specs.Written.{framed}
use Rattle.store.specs.declared.element.Element.{Element}
use Rattle.store.proofs.Elements.{rows_up_to}
use Rattle.enter.specs.Entering.{Kept, enter}
use Rattle.enter.specs.Package.{kept_in, joined, packed}
use Rattle.enter.specs.Plan.{sources}
use Rattle.enter.proofs.Planned.{from_row, source_of, each_front, each_source}
use Rattle.enter.proofs.Planned as planned
use Rattle.enter.proofs.Planning.{length_keys}
use Rattle.client.specs.Read.{package_in}
use Rattle.book.specs.Keep.{kept_elements}
use Rattle.book.specs.Plan.{ReadRows, sides, source_bytes, planned_bytes, RowFits, SourceFits, Planning}

-- ---- the elements of some bytes by their rows

module _ (s rows ids : List ℕ) where
  abbrev row : ℕ → Kept
  row i = kept_in s (element_in_row rows ids i)

  row_ids : (i : ℕ) → (row i).id ≡ id_in_row ids i
  unfolding kept_in element_in_row
  row_ids i = refl

  rows_are : (i n : ℕ) → from_row row i n ≡ map (kept_in s) (elements_in_rows rows ids i n)
  unfolding from_row elements_in_rows
  rows_are i zero = refl
  rows_are i (suc n) = rw (rows_are (suc i) n)

  row_fits : (n : ℕ) (elements : List Element) → ReadRows s rows ids n elements → (i : ℕ) → i < n → RowFits s rows ids i
  row_fits n elements h i l = record { stands = rows_up_to h.stand (i + 1) (omega arith); within = h.within i l; short = h.short }

module _ (b rows ids w came_rows came_ids : List ℕ) (n m : ℕ) (h : ReadRows b rows ids n (store_walk b).elements) (g : ReadRows w came_rows came_ids m (package_in w).elements) where
  abbrev numbers : List ℕ
  numbers = sources (id_keys ids n) (id_keys came_ids m)

  abbrev chosen : ℕ → Kept
  chosen = source_of (row b rows ids) (row w came_rows came_ids)

  both : enter (from_row (row b rows ids) 0 n) (from_row (row w came_rows came_ids) 0 m) ≡ kept_elements b w
  unfolding kept_elements
  both = rw (rows_are b rows ids 0 n, rows_are w came_rows came_ids 0 m, h.held, g.held)

  bytes_are : (source : ℕ) → (chosen source).bytes ≡ source_bytes (sides b rows ids w came_rows came_ids) source
  unfolding source_of source_bytes kept_in
  bytes_are source = by_bool (ltb source most_elements) (λ e. rw e) (λ e. rw e)

  joined_are : (plan : List ℕ) → planned_bytes (sides b rows ids w came_rows came_ids) plan ≡ joined (map chosen plan)
  unfolding planned_bytes joined
  joined_are [] = refl
  joined_are (x ∷ plan) = rw (bytes_are x, joined_are plan)

  pub planned_count : length (sources (id_keys ids n) (id_keys came_ids m)) ≡ length (kept_elements b w)
  planned_count = planned.plan_count ids came_ids (row b rows ids) (row w came_rows came_ids) (row_ids b rows ids) (row_ids w came_rows came_ids) n m h.most ∙ ap length both

  pub planned_book : framed (planned_bytes (sides b rows ids w came_rows came_ids) (sources (id_keys ids n) (id_keys came_ids m))) ≡ packed (kept_elements b w)
  unfolding packed
  planned_book =
      ap framed
      (joined_are numbers
      ∙ ap joined (planned.plan_is ids came_ids (row b rows ids) (row w came_rows came_ids) (row_ids b rows ids) (row_ids w came_rows came_ids) n m h.most ∙ both))

  -- ---- each number of the plan stands for an element

  there_fit : (i : ℕ) → i < n → SourceFits b rows ids w came_rows came_ids i
  there_fit i l =
      let f = h.most in
      record { there = λ v. row_fits b rows ids n (store_walk b).elements h i l; came = λ v. absurd (omega arith) }

  came_fit : (j : ℕ) → j < m → SourceFits b rows ids w came_rows came_ids (most_elements + j)
  came_fit j l =
      let e : most_elements + j - most_elements ≡ j = omega arith in
      record { there = λ v. absurd (omega arith); came = λ v. rw e (row_fits w came_rows came_ids m (package_in w).elements g j l) }

  all_fit : Each (SourceFits b rows ids w came_rows came_ids) numbers
  all_fit = each_source (SourceFits b rows ids w came_rows came_ids) n m (id_keys ids n) (id_keys came_ids m) (length_keys ids 0 id_width n) (length_keys came_ids 0 id_width m) there_fit came_fit

  -- the plan, at the front of its table
  pub plan_taken : (plan t : List ℕ) (count : ℕ) → count ≡ length (sources (id_keys ids n) (id_keys came_ids m)) → plan ≡ sources (id_keys ids n) (id_keys came_ids m) ++ t
      → take count plan ≡ sources (id_keys ids n) (id_keys came_ids m)
  plan_taken plan t count e f = rw f (take_at numbers t count (sym e))

  pub plan_made : (plan t : List ℕ) (count : ℕ) → count ≡ length (sources (id_keys ids n) (id_keys came_ids m)) → plan ≡ sources (id_keys ids n) (id_keys came_ids m) ++ t → count ≤ most_elements
      → Planning b rows ids w came_rows came_ids (take count plan)
  plan_made plan t count e f l =
      rw (plan_taken plan t count e f)
      (record {
        few = omega arith;
        fits = λ k i. rw (← append-nil numbers) (each_front (SourceFits b rows ids w came_rows came_ids) numbers [] k i all_fit);
      })
