-- Rows that stand for groups. A page takes of an element its serial number and its length alone, so that what is decided of rows, each with its
-- group's serial number and the sum of its group, is decided of the groups; and such rows can be weighed by the table of sums.
-- Assumes nothing.
use mathlib.Core.Path.{◌≡◌, refl, sym, ap, subst, ◌∙◌, fun_ext}
use mathlib.Core.List.{List, [], ◌∷◌, map}
use Prim.Native.Nat.{ℕ, ◌+◌, ◌≤◌, ◌<◌}
use native.Mathlib.Omega.{arith}
use lib.ListN.{length, take, replicate, length-map}
use Rattle.std.specs.Prelude.{Ok, Err}
use Rattle.talk.specs.Each.{Each}
use Rattle.talk.specs.Ranges.{insert}
use Rattle.talk.specs.declared.range.Range.{Range}
use Rattle.talk.proofs.Things.{each_so}
use Rattle.store.specs.Held.{serial_range, ranges_with}
use Rattle.store.specs.Tables.{RowsStand, most_elements}
use Rattle.store.specs.declared.element.Element.{Element}
use Rattle.store.proofs.Elements.{rows_up_to}
use Rattle.order.specs.Groups.{stored_length}
use Rattle.order.specs.Links.{bare, summed_row}
use Rattle.order.specs.Queue.{chosen, marking}
use Rattle.order.specs.Rearranged.{Rearranged}
use Rattle.order.proofs.Rearranged.{rearranged_back}
use Rattle.order.proofs.Marking.{marked_rearranged}
use Rattle.pages.specs.Decision.{Measure, decision}
use Rattle.pages.specs.Tables.{table_measure, Carries, DecidesPage, ToSum}
use Rattle.pages.specs.Weighed.{sum_column, length_place, weighed, weighed_in, weighed_rows, WeighsRow, Weighs}
use Rattle.pages.specs.declared.page.Bounds.{Bounds}
use Rattle.pages.specs.Results.Decided.{Decided}
use Rattle.pages.proofs.Lumps.{take_map}

-- ---- of an element a page takes its serial number and its length

stored_bare : (xs : List Element) → stored_length (map bare xs) ≡ stored_length xs
unfolding stored_length
stored_bare [] = refl
stored_bare (x ∷ xs) = ap (λ (n : ℕ). x.length + n) (stored_bare xs)

ranges_bare : (xs : List Element) (l : List Range) → ranges_with l (map bare xs) ≡ ranges_with l xs
unfolding ranges_with serial_range
ranges_bare [] l = refl
ranges_bare (x ∷ xs) l = ranges_bare xs (insert (serial_range x) l)

module _ (xs ys : List Element) (e : map bare xs ≡ map bare ys) where
  same_first : (j : ℕ) → map bare (take j xs) ≡ map bare (take j ys)
  same_first j = sym (take_map bare j xs) ∙ ap (take j) e ∙ take_map bare j ys

  same_stored : (j : ℕ) → stored_length (take j xs) ≡ stored_length (take j ys)
  same_stored j = sym (stored_bare (take j xs)) ∙ ap stored_length (same_first j) ∙ stored_bare (take j ys)

  same_ranges : (l : List Range) (j : ℕ) → ranges_with l (take j xs) ≡ ranges_with l (take j ys)
  same_ranges l j = sym (ranges_bare (take j xs) l) ∙ ap (ranges_with l) (same_first j) ∙ ranges_bare (take j ys) l

  same_length : length xs ≡ length ys
  same_length = sym (length-map xs bare) ∙ ap length e ∙ length-map ys bare

  same_whole : (fixed : ℕ) (l : List Range) (j : ℕ) → (table_measure fixed l xs).whole j ≡ (table_measure fixed l ys).whole j
  same_whole fixed l j = rw (same_stored j, same_ranges l j)

  same_measure : (fixed : ℕ) (l : List Range) → table_measure fixed l xs ≡ table_measure fixed l ys
  same_measure fixed l =
      let stored = fun_ext same_stored in
      let ranges = fun_ext (λ (j : ℕ). ap length (same_ranges l j)) in
      let whole = fun_ext (same_whole fixed l) in
      λ i. record { stored = stored i; ranges = ranges i; whole = whole i }

  same_carries : (l : List Range) (r : Decided) (t : List ℕ) → Carries xs l r t → Carries ys l r t
  same_carries l (Ok x) t h = h ∙ same_ranges l x.count
  same_carries l (Err e) t h = tt

  pub same_decided : (l : List Range) (b : Bounds) (r : Decided) (t : List ℕ) → DecidesPage xs l b r t → DecidesPage ys l b r t
  same_decided l b r t h =
      let first = h.0 ∙ ap (λ (m : Measure). decision b.most b.limit b.room m (length xs)) (same_measure b.fixed l) ∙ ap (decision b.most b.limit b.room (table_measure b.fixed l ys)) same_length in
      (first, same_carries l r t h.1)

  -- and so of what is asked of lengths
  each_bare : (P : ℕ → Type 0) (zs : List Element) → Each (λ (x : Element). P x.length) zs → Each (λ (x : Element). P x.length) (map bare zs)
  each_bare P [] h = tt
  each_bare P (z ∷ zs) h = (h.0, each_bare P zs h.1)

  bare_each : (P : ℕ → Type 0) (zs : List Element) → Each (λ (x : Element). P x.length) (map bare zs) → Each (λ (x : Element). P x.length) zs
  bare_each P [] h = tt
  bare_each P (z ∷ zs) h = (h.0, bare_each P zs h.1)

  pub same_lengths : (P : ℕ → Type 0) → Each (λ (x : Element). P x.length) ys → Each (λ (x : Element). P x.length) xs
  same_lengths P h = bare_each P xs (subst (Each (λ (x : Element). P x.length)) (sym e) (each_bare P ys h))

-- ---- rows weighed by the table of sums

module _ (rows ids sums : List ℕ) where
  sum_place : (i : ℕ) → length_place sum_column i ≡ i
  sum_place i = omega arith

  pub summed : (places : List ℕ) → map (weighed rows ids sums sum_column) places ≡ map (summed_row rows ids sums) places
  unfolding weighed
  summed [] = refl
  summed (i ∷ places) = rw (sum_place i, summed places)

  sum_inside : (n : ℕ) → RowsStand rows ids n → n ≤ length sums → (i : ℕ) → i < n → WeighsRow rows ids sums sum_column i
  sum_inside n stand room i h = (rows_up_to stand (i + 1) (omega arith), rw (sum_place i) (omega arith))

  module _ {n : ℕ} {earliest : List ℕ} {wanted : ℕ} {t : List ℕ} {count most : ℕ} (s : ToSum rows ids n sums earliest wanted t count most) where
    pub sums_weigh : Weighs rows ids sums sum_column earliest wanted
    sums_weigh =
        record {
          long = s.long;
          within = each_so (λ (i : ℕ). i < n) (λ (i : ℕ). WeighsRow rows ids sums sum_column i) (take wanted earliest) (sum_inside n s.stand s.sums_long) s.inside;
        }

    pub sums_column : (i : ℕ) → i < n → length_place sum_column i < length sums
    sums_column i h = (sum_inside n s.stand s.sums_long i h).1

    -- marked by their queue they are the same rows in the store's order
    pub sums_rearranged : {marks : List ℕ} → marks ≡ marking (take wanted earliest) (replicate most_elements 0)
        → Rearranged (chosen (weighed_rows rows ids sums sum_column n) marks) (weighed_in rows ids sums sum_column wanted earliest)
    sums_rearranged e =
        rw e (rearranged_back (marked_rearranged (weighed rows ids sums sum_column) n most_elements s.few (take wanted earliest) s.inside s.apart))
