-- A queue is the order: the elements in rows at its positions are those that the flags choose, ordered. Its positions are of rows that
-- stand in the tables, and no more than these.
-- Assumes nothing.
use mathlib.Core.Path.{◌≡◌, refl, sym, ap, ◌∙◌}
use mathlib.Core.List.{List, [], ◌∷◌, ◌++◌, append-nil, map-append}
use Prim.Native.Nat.{ℕ, zero, suc, ◌+◌, ◌≤◌, ◌<◌}
use native.Mathlib.Omega.{arith}
use lib.ListN.{length, take, drop, get_or, replicate, length-append, length-map}
use lib.Seq.{take_at, take-append-le}
use lib.Dec.{eqb}
use Rattle.laws.specs.Placed.{laid, Lays}
use Rattle.laws.proofs.Cases.{by_bool}
use Rattle.talk.specs.Each.{Each}
use Rattle.talk.specs.Wanted.{keep}
use Rattle.talk.proofs.Things.{each_first}
use Rattle.store.specs.Tables.{RowsStand, most_elements, element_in_row, elements_in_rows, elements_in}
use Rattle.store.specs.declared.element.Element.{Element}
use Rattle.store.proofs.Elements.{rows_up_to, length_elements}
use Rattle.order.specs.Order.{rank_of, of_rank, ordered}
use Rattle.order.specs.Queue.{chosen, places_of, places_from, ranks, queue_of, elements_at, Queued}
use Rattle.order.proofs.Rearranged.{each_append}
use Rattle.order.proofs.Ordering.{length_ordered}

-- ---- those that are chosen

pub length_chosen : (xs : List Element) (flags : List ℕ) → length (chosen xs flags) ≤ length xs
unfolding chosen
length_chosen [] flags = omega arith
length_chosen (x ∷ xs) [] = omega arith
length_chosen (x ∷ xs) (b ∷ flags) = let h = length_chosen xs flags in by_bool (eqb b 0) (λ e. rw e (omega arith)) (λ e. rw e (omega arith))

-- where every flag is 1, all
pub chosen_all : (xs : List Element) (n : ℕ) → length xs ≤ n → chosen xs (replicate n 1) ≡ xs
unfolding chosen
chosen_all [] n h = refl
chosen_all (x ∷ xs) zero h = absurd (omega arith)
chosen_all (x ∷ xs) (suc n) h = ap (λ (l : List Element). x ∷ l) (chosen_all xs n (omega arith))

-- ---- the elements at the positions

module _ (rows ids : List ℕ) where
  pub at_append : (a b : List ℕ) → elements_at rows ids (a ++ b) ≡ elements_at rows ids a ++ elements_at rows ids b
  at_append a b = map-append (λ (i : ℕ). element_in_row rows ids i) a b

  pub length_at : (a : List ℕ) → length (elements_at rows ids a) ≡ length a
  length_at a = length-map a (λ (i : ℕ). element_in_row rows ids i)

  rank_at : (r i n : ℕ) (flags : List ℕ) → elements_at rows ids (places_of r i (elements_in_rows rows ids i n) flags) ≡ of_rank r (chosen (elements_in_rows rows ids i n) flags)
  unfolding places_of elements_in_rows chosen keep
  rank_at r i zero flags = refl
  rank_at r i (suc n) [] = refl
  rank_at r i (suc n) (b ∷ flags) =
      by_bool (eqb b 0)
      (λ e. rw e (rank_at r (suc i) n flags))
      (λ e.
      rw e
      (by_bool (eqb (rank_of (element_in_row rows ids i)) r)
      (λ f. rw f (ap (λ (l : List Element). element_in_row rows ids i ∷ l) (rank_at r (suc i) n flags)))
      (λ f. rw f (rank_at r (suc i) n flags))))

  pub queue_ordered : (n : ℕ) (flags : List ℕ) → elements_at rows ids (queue_of (elements_in rows ids n) flags) ≡ ordered (chosen (elements_in rows ids n) flags)
  unfolding places_from ordered
  queue_ordered n flags =
      let xs = elements_in rows ids n in
      simp at_append
      (rw (rank_at 1 0 n flags, rank_at 2 0 n flags, rank_at 3 0 n flags, rank_at 4 0 n flags, rank_at 5 0 n flags)
      (ap (λ (l : List Element). of_rank 1 (chosen xs flags) ++ (of_rank 2 (chosen xs flags) ++ (of_rank 3 (chosen xs flags) ++ (of_rank 4 (chosen xs flags) ++ l)))) (append-nil (of_rank 5 (chosen xs flags)))))

  -- ---- how many they are

  pub length_queue : (n : ℕ) (flags : List ℕ) → length (queue_of (elements_in rows ids n) flags) ≡ length (chosen (elements_in rows ids n) flags)
  length_queue n flags =
      sym (length_at (queue_of (elements_in rows ids n) flags)) ∙ ap length (queue_ordered n flags) ∙ length_ordered (chosen (elements_in rows ids n) flags)

  pub queue_most : (n : ℕ) (flags : List ℕ) → length (queue_of (elements_in rows ids n) flags) ≤ n
  queue_most n flags =
      let a = length_queue n flags in
      let b = length_chosen (elements_in rows ids n) flags in
      let d = length_elements rows ids 0 n in
      omega arith

  -- ---- each of a row that stands there

  places_within : (P : ℕ → Type 0) (r i n : ℕ) (flags : List ℕ) → ((j : ℕ) → j < i + n → P j) → Each P (places_of r i (elements_in_rows rows ids i n) flags)
  unfolding places_of elements_in_rows
  places_within P r i zero flags h = tt
  places_within P r i (suc n) [] h = tt
  places_within P r i (suc n) (b ∷ flags) h =
      let rest = places_within P r (suc i) n flags (λ j l. h j (omega arith)) in
      by_bool (eqb b 0)
      (λ e. rw e rest)
      (λ e. rw e (by_bool (eqb (rank_of (element_in_row rows ids i)) r) (λ f. rw f (h i (omega arith), rest)) (λ f. rw f rest)))

  from_within : (P : ℕ → Type 0) (k r n : ℕ) (flags : List ℕ) → ((j : ℕ) → j < n → P j) → Each P (places_from k r (elements_in rows ids n) flags)
  unfolding places_from
  from_within P zero r n flags h = tt
  from_within P (suc k) r n flags h =
      each_append P (places_of r 0 (elements_in rows ids n) flags) (places_from k (suc r) (elements_in rows ids n) flags)
      (places_within P r 0 n flags (λ j l. h j (omega arith)))
      (from_within P k (suc r) n flags h)

at_each : (P : Element → Type 0) (rows ids l : List ℕ) → Each (λ (j : ℕ). P (element_in_row rows ids j)) l → Each P (elements_at rows ids l)
at_each P rows ids [] h = tt
at_each P rows ids (j ∷ l) h = (h.0, at_each P rows ids l h.1)

-- ---- one position of a queue

pub each_get : (P : ℕ → Type 0) (l : List ℕ) (k : ℕ) → k < length l → Each P l → P (get_or l k 0)
each_get P [] k h e = absurd (omega arith)
each_get P (x ∷ l) zero h e = e.0
each_get P (x ∷ l) (suc k) h e = each_get P l k (omega arith) e.1

-- ---- as it stands at the front of a table

module _ (rows ids : List ℕ) (n : ℕ) (flags queue : List ℕ) (w : ℕ) (queue' : List ℕ) (l : Lays 0 (queue_of (elements_in rows ids n) flags) queue w queue') where
  pub queue_taken : take w queue' ≡ queue_of (elements_in rows ids n) flags
  queue_taken = let e : length (queue_of (elements_in rows ids n) flags) ≡ w = omega (arith, l.0) in ap (take w) l.1 ∙ take_at (queue_of (elements_in rows ids n) flags) _ w e

  pub queue_elements : elements_at rows ids (take w queue') ≡ ordered (chosen (elements_in rows ids n) flags)
  queue_elements = ap (elements_at rows ids) queue_taken ∙ queue_ordered rows ids n flags

  -- what holds of the element of each row holds of those that are queued
  pub queue_each : (P : Element → Type 0) → ((j : ℕ) → j < n → P (element_in_row rows ids j)) → Each P (elements_at rows ids (take w queue'))
  queue_each P h =
      rw queue_taken
      (at_each P rows ids (queue_of (elements_in rows ids n) flags) (from_within rows ids (λ (j : ℕ). P (element_in_row rows ids j)) ranks 1 n flags h))

  -- each position is of one of the n rows
  pub queue_within : Each (λ (j : ℕ). j < n) (take w queue')
  queue_within = rw queue_taken (from_within rows ids (λ (j : ℕ). j < n) ranks 1 n flags (λ j k. k))

  pub queue_stands : RowsStand rows ids n → Queued rows ids queue' w
  queue_stands h =
      let q = queue_of (elements_in rows ids n) flags in
      let a = l.0 in
      let b : length queue' ≡ length (q ++ drop (0 + length q) queue) = ap length l.1 in
      record {
        long = omega (arith, length-append q (drop (0 + length q) queue));
        within = rw queue_taken (from_within rows ids (λ (j : ℕ). RowsStand rows ids (j + 1)) ranks 1 n flags (λ j k. rows_up_to h (j + 1) (omega arith)));
      }

-- where all are chosen, it is the order of all
pub all_queued : (rows ids : List ℕ) (n : ℕ) (queue : List ℕ) (w : ℕ) (queue' : List ℕ) → n ≤ most_elements
    → Lays 0 (queue_of (elements_in rows ids n) (replicate most_elements 1)) queue w queue'
    → (w ≡ n) × (elements_at rows ids (take w queue') ≡ ordered (elements_in rows ids n))
all_queued rows ids n queue w queue' h l =
    let e = length_elements rows ids 0 n in
    let c : chosen (elements_in rows ids n) (replicate most_elements 1) ≡ elements_in rows ids n = chosen_all (elements_in rows ids n) most_elements (omega arith) in
    let m = length_queue rows ids n (replicate most_elements 1) in
    let a = l.0 in
    let b = ap length c in
    (omega arith, queue_elements rows ids n (replicate most_elements 1) queue w queue' l ∙ ap ordered c)

-- ---- its first positions

pub at_take : (rows ids : List ℕ) (k : ℕ) (q : List ℕ) → elements_at rows ids (take k q) ≡ take k (elements_at rows ids q)
at_take rows ids zero q = refl
at_take rows ids (suc k) [] = refl
at_take rows ids (suc k) (i ∷ q) = ap (λ (l : List Element). element_in_row rows ids i ∷ l) (at_take rows ids k q)

module _ (rows ids : List ℕ) (n : ℕ) (flags queue queue' : List ℕ) (v : queue' ≡ laid 0 (queue_of (elements_in rows ids n) flags) queue) (k : ℕ)
    (most : k ≤ length (ordered (chosen (elements_in rows ids n) flags))) where
  short_of : k ≤ length (queue_of (elements_in rows ids n) flags)
  short_of =
      let a = length_queue rows ids n flags in
      let b = length_ordered (chosen (elements_in rows ids n) flags) in
      omega arith

  first_taken : take k queue' ≡ take k (queue_of (elements_in rows ids n) flags)
  first_taken = ap (take k) v ∙ take-append-le k (queue_of (elements_in rows ids n) flags) _ short_of

  pub queue_first : elements_at rows ids (take k queue') ≡ take k (ordered (chosen (elements_in rows ids n) flags))
  queue_first = ap (elements_at rows ids) first_taken ∙ at_take rows ids k (queue_of (elements_in rows ids n) flags) ∙ ap (take k) (queue_ordered rows ids n flags)

  pub queue_part : RowsStand rows ids n → Queued rows ids queue' k
  queue_part h =
      let q = queue_of (elements_in rows ids n) flags in
      let b : length queue' ≡ length (q ++ drop (0 + length q) queue) = ap length v in
      let d = short_of in
      record {
        long = omega (arith, length-append q (drop (0 + length q) queue));
        within = rw first_taken (each_first (λ (j : ℕ). RowsStand rows ids (j + 1)) k q (from_within rows ids (λ (j : ℕ). RowsStand rows ids (j + 1)) ranks 1 n flags (λ j l. rows_up_to h (j + 1) (omega arith))));
      }
