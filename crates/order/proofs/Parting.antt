-- Rows that are put into the parts of their ranks, one more at a turn: what a part holds, with what is still to come, is what it is to
-- hold.
-- Assumes nothing.
use mathlib.Core.Path.{◌≡◌, sym, ap, ◌∙◌}
use mathlib.Core.List.{List, [], ◌∷◌, ◌++◌, append_assoc, append-nil}
use Prim.Native.Nat.{ℕ, suc, ◌+◌, ◌-◌, ◌*◌, ◌≤◌, ◌<◌}
use native.Mathlib.Omega.{arith}
use native.Mathlib.Numerals.{add-one}
use lib.ListN.{length, take, drop, get_or, set, length-set, length-drop}
use lib.Seq.{drop-cons, take-set-le, take-suc-set, drop-set-add, drop-set-lt, get_or-set_same, get_or-set_other, length-take-le}
use lib.Dec.{eqb}
use borrow.Author.Tests.{eq-eqb, ne_eqb}
use Rattle.laws.specs.Pick.{pick}
use Rattle.laws.proofs.Cases.{by_eq, by_lt}
use Rattle.store.specs.Tables.{most_elements, element_in_row, elements_in_rows, elements_in}
use Rattle.store.proofs.Elements.{elements_turn, elements_end}
use Rattle.order.specs.Order.{rank_of}
use Rattle.order.specs.Queue.{places_of, ranks, part_length, part_at, PartsStand, Parted}

-- ---- the positions still to come

abbrev places_behind : List ℕ → List ℕ → ℕ → List ℕ → ℕ → ℕ → List ℕ
places_behind rows ids n flags r i = places_of r i (elements_in_rows rows ids i (n - i)) (drop i flags)

module _ (rows ids : List ℕ) (n : ℕ) (flags : List ℕ) (i : ℕ) (h : i < n) (g : i < length flags) (r : ℕ) where
  places_turn : places_behind rows ids n flags r i
      ≡ pick (eqb (get_or flags i 0) 0) (places_behind rows ids n flags r (i + 1))
      (pick (eqb (rank_of (element_in_row rows ids i)) r) (i ∷ places_behind rows ids n flags r (i + 1)) (places_behind rows ids n flags r (i + 1)))
  unfolding places_of
  places_turn = rw (elements_turn rows ids i n h, drop-cons flags i 0 g, add-one i)

-- ---- one part, where a position is put into this one or into another

part_more : (parts : List ℕ) (r k v : ℕ) → r < ranks → k < part_length → length parts ≡ ranks * part_length
    → part_at (set parts (r * part_length + k) v) r (k + 1) ≡ part_at parts r k ++ (v ∷ [])
part_more parts r k v a b l =
    let m : k < length (drop (r * part_length) parts) = omega (arith, length-drop (r * part_length) parts) in
    rw (drop-set-add (r * part_length) parts k v, add-one k) (take-suc-set (drop (r * part_length) parts) k v m)

part_other : (parts : List ℕ) (r s k v m : ℕ) → (r ≡ s → ⊥) → k < part_length → m ≤ part_length → part_at (set parts (s * part_length + k) v) r m ≡ part_at parts r m
part_other parts r s k v m d b e =
    by_lt r s
    (λ l.
    let at : s * part_length + k ≡ r * part_length + (s * part_length + k - r * part_length) = omega arith in
    let far : m ≤ s * part_length + k - r * part_length = omega arith in
    rw (at, drop-set-add (r * part_length) parts (s * part_length + k - r * part_length) v) (take-set-le m (drop (r * part_length) parts) (s * part_length + k - r * part_length) v far))
    (λ l. let n : s * part_length + k < r * part_length = absurd_or l in ap (take m) (drop-set-lt (r * part_length) parts (s * part_length + k) v n))
  where
    absurd_or : s ≤ r → s * part_length + k < r * part_length
    absurd_or l = by_eq r s (λ q. absurd (d q)) (λ q. omega arith)

-- ---- the turns

pub record Parting (rows ids : List ℕ) (n : ℕ) (flags parts counts : List ℕ) (i : ℕ) : Type 0 where
  pub stand : PartsStand parts counts
  pub inside : i ≤ n
  pub counted : (r : ℕ) → r < ranks → get_or counts r 0 ≤ i
  pub held : (r : ℕ) → r < ranks → part_at parts r (get_or counts r 0) ++ places_behind rows ids n flags (suc r) i ≡ places_of (suc r) 0 (elements_in rows ids n) flags

module _ (rows ids : List ℕ) (n : ℕ) (flags : List ℕ) where
  pub parting_start : (parts counts : List ℕ) → PartsStand parts counts → ((r : ℕ) → r < ranks → get_or counts r 0 ≡ 0) → Parting rows ids n flags parts counts 0
  parting_start parts counts s z =
      let e : n - 0 ≡ n = omega arith in
      record {
        stand = s;
        inside = omega arith;
        counted = λ r l. let y = z r l in omega arith;
        held = λ r l. rw (z r l, e);
      }

  module _ {parts counts : List ℕ} {i : ℕ} (p : Parting rows ids n flags parts counts i) (h : i < n) (g : i < length flags) where
    pub parting_passed : get_or flags i 0 ≡ 0 → Parting rows ids n flags parts counts (i + 1)
    parting_passed e =
        record {
          stand = p.stand;
          inside = omega arith;
          counted = λ r l. let y = p.counted r l in omega arith;
          held = λ r l. ap (λ (t : List ℕ). part_at parts r (get_or counts r 0) ++ t) (sym (places_turn rows ids n flags i h g (suc r) ∙ rw (eq-eqb (get_or flags i 0) 0 e))) ∙ p.held r l;
        }

    module _ (few : n ≤ most_elements) (chosen : get_or flags i 0 ≡ 0 → ⊥) (s : ℕ) (l : s < ranks) (rank : rank_of (element_in_row rows ids i) ≡ suc s) where
      here_next : places_behind rows ids n flags (suc s) i ≡ i ∷ places_behind rows ids n flags (suc s) (i + 1)
      here_next = places_turn rows ids n flags i h g (suc s) ∙ rw (ne_eqb (get_or flags i 0) 0 chosen, eq-eqb (rank_of (element_in_row rows ids i)) (suc s) rank)

      there_next : (r : ℕ) → (r ≡ s → ⊥) → places_behind rows ids n flags (suc r) i ≡ places_behind rows ids n flags (suc r) (i + 1)
      there_next r d =
          let f : rank_of (element_in_row rows ids i) ≡ suc r → ⊥ = λ q. d (omega arith) in
          places_turn rows ids n flags i h g (suc r) ∙ rw (ne_eqb (get_or flags i 0) 0 chosen, ne_eqb (rank_of (element_in_row rows ids i)) (suc r) f)

      pub parting_put : {parts' counts' : List ℕ} → parts' ≡ set parts (s * part_length + get_or counts s 0) i → counts' ≡ set counts s (get_or counts s 0 + 1)
          → Parting rows ids n flags parts' counts' (i + 1)
      parting_put {parts'} {counts'} a b =
          let k = get_or counts s 0 in
          let below : k ≤ i = p.counted s l in
          let long : s < length counts = let y = p.stand.counts_long in omega arith in
          let same : get_or counts' s 0 ≡ k + 1 = ap (λ (t : List ℕ). get_or t s 0) b ∙ get_or-set_same counts s (k + 1) 0 long in
          let other : (r : ℕ) → (r ≡ s → ⊥) → get_or counts' r 0 ≡ get_or counts r 0 = λ r d. ap (λ (t : List ℕ). get_or t r 0) b ∙ get_or-set_other counts s r (k + 1) 0 d in
          record {
            stand = record {
              parts_long = ap length a ∙ length-set parts (s * part_length + k) i ∙ p.stand.parts_long;
              counts_long = ap length b ∙ length-set counts s (k + 1) ∙ p.stand.counts_long;
            };
            inside = omega arith;
            counted = λ r q. by_eq r s
                (λ e. rw (e, same) (omega arith))
                (λ d. let y = p.counted r q in rw (other r d) (omega arith));
            held = λ r q. by_eq r s
                (λ e. rw (e, same, a, part_more parts s k i l (omega arith) p.stand.parts_long) (append_assoc (part_at parts s k) (i ∷ []) (places_behind rows ids n flags (suc s) (i + 1)) ∙ ap (λ (t : List ℕ). part_at parts s k ++ t) (sym here_next) ∙ p.held s l))
                (λ d. let y = p.counted r q in rw (other r d, a, part_other parts r s k i (get_or counts r 0) d (omega arith) (omega arith), ← there_next r d) (p.held r q));
          }

  pub parting_end : {parts counts : List ℕ} {i : ℕ} → n ≤ most_elements → n ≤ i → Parting rows ids n flags parts counts i → Parted (elements_in rows ids n) flags parts counts
  unfolding places_of
  parting_end {parts} {counts} {i} few e p r l =
      let y = p.counted r l in
      let w = p.inside in
      let z = p.stand.parts_long in
      let none : places_behind rows ids n flags (suc r) i ≡ [] = rw (elements_end rows ids i n e) in
      let q : part_at parts r (get_or counts r 0) ≡ places_of (suc r) 0 (elements_in rows ids n) flags = sym (append-nil (part_at parts r (get_or counts r 0))) ∙ ap (λ (t : List ℕ). part_at parts r (get_or counts r 0) ++ t) (sym none) ∙ p.held r l in
      (sym (length-take-le (get_or counts r 0) (drop (r * part_length) parts) (omega (arith, length-drop (r * part_length) parts))) ∙ ap length q, q)
