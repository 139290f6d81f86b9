-- Rows marked by a queue of their positions: those whose flags are set then are those of the queue, each as often, in the store's order.
-- Assumes nothing.
use mathlib.Core.Path.{◌≡◌, refl, sym, ap, subst, ◌∙◌}
use mathlib.Core.List.{List, [], ◌∷◌, ◌++◌, map}
use Prim.Native.Nat.{ℕ, zero, suc, ◌+◌, ◌≤◌, ◌<◌}
use native.Mathlib.Numerals.{add-one}
use native.Mathlib.Omega.{arith}
use lib.ListN.{length, take, drop, get_or, set, replicate, length-set, length-replicate, get_or-replicate, drop_of_length-le, length-take}
use lib.Seq.{take-suc, get_or-set_other}
use Rattle.std.proofs.lemmas.List.{set_comm}
use lib.Dec.{eqb}
use Rattle.laws.proofs.Cases.{by_bool, by_eq}
use Rattle.talk.specs.Each.{Each}
use Rattle.store.specs.declared.element.Element.{Element}
use Rattle.order.specs.Queue.{chosen, marking, positions_from}
use Rattle.order.specs.Rearranged.{Inserted, here, there, Rearranged, nothing, one_more, Pairs}

pub length_marking : (places flags : List ℕ) → length (marking places flags) ≡ length flags
unfolding marking
length_marking [] flags = refl
length_marking (i ∷ places) flags = length-set (marking places flags) i 1 ∙ length_marking places flags

-- a row that is not among them keeps its flag
marking_other : (places flags : List ℕ) (i : ℕ) → Each (λ (j : ℕ). i ≡ j → ⊥) places → get_or (marking places flags) i 0 ≡ get_or flags i 0
unfolding marking
marking_other [] flags i h = refl
marking_other (j ∷ places) flags i h = get_or-set_other (marking places flags) j i 1 0 h.0 ∙ marking_other places flags i h.1

-- ---- one more at a turn

-- from the last on, none is marked yet
pub marking_start : (queue flags : List ℕ) (n : ℕ) → flags ≡ marking (drop n (take n queue)) flags
unfolding marking
marking_start queue flags n = let l : length (take n queue) ≤ n = omega (arith, length-take n queue) in rw (drop_of_length-le (take n queue) l)

-- in whichever order two flags are set
set_either : (flags : List ℕ) (i j : ℕ) → set (set flags i 1) j 1 ≡ set (set flags j 1) i 1
set_either flags i j = by_eq i j (λ e. rw e) (λ d. set_comm flags i j 1 1 d)

marking_last : (places flags : List ℕ) (i : ℕ) → marking (places ++ (i ∷ [])) flags ≡ set (marking places flags) i 1
unfolding marking
marking_last [] flags i = refl
marking_last (j ∷ places) flags i = ap (λ (l : List ℕ). set l j 1) (marking_last places flags i) ∙ set_either (marking places flags) i j

pub marking_more : (places flags : List ℕ) (k : ℕ) → k < length places → set (marking (take k places) flags) (get_or places k 0) 1 ≡ marking (take (k + 1) places) flags
marking_more places flags k h = rw (add-one, take-suc places k 0 h) (sym (marking_last (take k places) flags (get_or places k 0)))

-- ---- those that are chosen then

module _ (f : ℕ → Element) where
  -- one flag more is one element more
  chosen_more : (s n : ℕ) (flags : List ℕ) (i : ℕ) → i < n → i < length flags → get_or flags i 0 ≡ 0
      → Inserted (f (s + i)) (chosen (map f (positions_from s n)) flags) (chosen (map f (positions_from s n)) (set flags i 1))
  unfolding chosen positions_from
  chosen_more s zero flags i h l z = absurd (omega arith)
  chosen_more s (suc n) [] i h l z = absurd (omega arith)
  chosen_more s (suc n) (b ∷ flags) zero h l z = let e : s + 0 ≡ s = omega arith in rw (e, z) (here _)
  chosen_more s (suc n) (b ∷ flags) (suc i) h l z =
      let e : s + suc i ≡ suc s + i = omega arith in
      let r = chosen_more (suc s) n flags i (omega arith) (omega arith) z in
      by_bool (eqb b 0) (λ t. rw (e, t) r) (λ t. rw (e, t) (there (f s) r))

  chosen_none : (xs : List Element) (n : ℕ) → chosen xs (replicate n 0) ≡ []
  unfolding chosen
  chosen_none [] n = refl
  chosen_none (x ∷ xs) zero = refl
  chosen_none (x ∷ xs) (suc n) = chosen_none xs n

  -- where no two positions are the same, and no flag was set
  pub marked_rearranged : (n m : ℕ) → n ≤ m → (places : List ℕ) → Each (λ (i : ℕ). i < n) places → Pairs (λ (i j : ℕ). i ≡ j → ⊥) places
      → Rearranged (map f places) (chosen (map f (positions_from 0 n)) (marking places (replicate m 0)))
  unfolding marking
  marked_rearranged n m l [] h p = rw (chosen_none (map f (positions_from 0 n)) m) nothing
  marked_rearranged n m l (i ∷ places) h p =
      let flags = marking places (replicate m 0) in
      let inside = h.0 in
      let z : get_or flags i 0 ≡ 0 = marking_other places (replicate m 0) i p.0 ∙ get_or-replicate {A = ℕ} m i 0 0 (omega arith) in
      let long : i < length flags = omega (arith, length_marking places (replicate m 0), length-replicate {A = ℕ} m 0) in
      let e : 0 + i ≡ i = omega arith in
      one_more (marked_rearranged n m l places h.1 p.1)
      (subst (λ (k : ℕ). Inserted (f k) (chosen (map f (positions_from 0 n)) flags) (chosen (map f (positions_from 0 n)) (set flags i 1))) e
      (chosen_more 0 n flags i inside long z))
