-- Membership: the test says what is held; after an insertion a pair is held exactly if it was before or lies in the range.
-- Assumes nothing.
use mathlib.Core.Path.{◌≡◌, refl, sym}
use mathlib.Core.Bool.{Bool, true, false}
use mathlib.Core.Logic.{◌⊎◌, inl, inr, ⊎_elim, ⊎_map}
use mathlib.Core.List.{List, [], ◌∷◌}
use Prim.Native.Nat.{ℕ, ◌≤◌, ◌<◌}
use native.Mathlib.Omega.{arith}
use borrow.Author.Tests.{lt-leb, le-leb, eq-eqb, ne_eqb}
use Rattle.laws.specs.Pick.{pick}
use Rattle.laws.proofs.Cases.{impossible}
use Rattle.talk.specs.declared.range.Range.{Range}
use Rattle.talk.specs.Ranges.{range, within, holds, is_before, joined, absorb, insert, Before, upper_less, lower_less, apart, BeforeAll, Normal}
use Rattle.talk.proofs.Order.{NotBefore, upper_more, lower_more, meets, Tri, lt, eq, gt, tri, by_before, Meet, meet}
use Rattle.talk.proofs.Insertion.{insert_none, insert_past, insert_here, absorb_none, absorb_stop, absorb_join, NoneBefore, none_before, none_before_join}

-- n under the GUID a, b lies in x
pub record In (x : Range) (a b n : ℕ) : Type 0 where
  pub same_upper : x.upper ≡ a
  pub same_lower : x.lower ≡ b
  pub above : x.from ≤ n
  pub below : n ≤ x.to

-- .. in a range of the list
unfoldable pub Has : List Range → ℕ → ℕ → ℕ → Type 0
Has [] a b n = ⊥
Has (x ∷ xs) a b n = In x a b n ⊎ Has xs a b n

-- ---- two ranges that meet, and their join

-- the join holds what the two hold
join_in : {r x : Range} {a b n : ℕ} → Meet r x → In (joined r x) a b n → In r a b n ⊎ In x a b n
unfolding joined
join_in {r} {x} {a} {b} {n} m i = low (tri n r.from)
  where
    high : r.from ≤ n → Tri n r.to → In r a b n ⊎ In x a b n
    high h (lt k) = inl (record { same_upper = i.same_upper; same_lower = i.same_lower; above = h; below = omega arith })
    high h (eq k) = inl (record { same_upper = i.same_upper; same_lower = i.same_lower; above = h; below = omega arith })
    high h (gt k) = inr (record { same_upper = omega arith; same_lower = omega arith; above = omega arith; below = omega arith })

    low : Tri n r.from → In r a b n ⊎ In x a b n
    low (lt h) = inr (record { same_upper = omega arith; same_lower = omega arith; above = omega arith; below = omega arith })
    low (eq h) = high (omega arith) (tri n r.to)
    low (gt h) = high (omega arith) (tri n r.to)

in_join : {r x : Range} {a b n : ℕ} → Meet r x → In r a b n ⊎ In x a b n → In (joined r x) a b n
unfolding joined
in_join m (inl i) = record { same_upper = i.same_upper; same_lower = i.same_lower; above = omega arith; below = omega arith }
in_join m (inr i) = record { same_upper = omega arith; same_lower = omega arith; above = omega arith; below = omega arith }

-- ---- insertion

has_absorb : {a b n : ℕ} (r : Range) (l : List Range) → Normal l → NoneBefore l r → Has (absorb r l) a b n → In r a b n ⊎ Has l a b n
unfolding Normal BeforeAll NoneBefore Has
has_absorb r [] o nb h = rw absorb_none at h
has_absorb r (x ∷ xs) o nb h =
    by_before r x
    (λ b e. rw (absorb_stop r x xs e) at h)
    (λ m e. ⊎_elim (λ i. ⊎_map (λ j. j) inl (join_in (meet nb.0 m) i)) (λ k. inr (inr k))
    (has_absorb (joined r x) xs o.2 (none_before_join xs (meet nb.0 m) o.1 o.2) (rw (absorb_join r x xs e) at h)))

absorb_has : {a b n : ℕ} (r : Range) (l : List Range) → Normal l → NoneBefore l r → In r a b n ⊎ Has l a b n → Has (absorb r l) a b n
unfolding Normal BeforeAll NoneBefore Has
absorb_has r [] o nb h = rw absorb_none h
absorb_has r (x ∷ xs) o nb h =
    by_before r x
    (λ b e. rw (absorb_stop r x xs e) h)
    (λ m e. rw (absorb_join r x xs e)
    (absorb_has (joined r x) xs o.2 (none_before_join xs (meet nb.0 m) o.1 o.2)
    (⊎_elim (λ i. inl (in_join (meet nb.0 m) (inl i))) (λ k. ⊎_map (λ i. in_join (meet nb.0 m) (inr i)) (λ j. j) k) h)))

-- what the new list holds, the range or the old list held
pub has_insert : {a b n : ℕ} (r : Range) (l : List Range) → Normal l → Has (insert r l) a b n → In r a b n ⊎ Has l a b n
unfolding Normal BeforeAll NoneBefore Has
has_insert r [] o h = rw (insert_none, absorb_none) at h
has_insert r (x ∷ xs) o h =
    by_before x r
    (λ b e. ⊎_elim (λ i. inr (inl i)) (λ k. ⊎_map (λ i. i) inr (has_insert r xs o.2 k)) (rw (insert_past r x xs e) at h))
    (λ m e. has_absorb r (x ∷ xs) o (m, none_before xs m o.1 o.2) (rw (insert_here r x xs e) at h))

-- .. and the other way round
pub insert_has : {a b n : ℕ} (r : Range) (l : List Range) → Normal l → In r a b n ⊎ Has l a b n → Has (insert r l) a b n
unfolding Normal BeforeAll NoneBefore Has
insert_has r [] o h = rw (insert_none, absorb_none) h
insert_has r (x ∷ xs) o h =
    by_before x r
    (λ b e. rw (insert_past r x xs e)
    (⊎_elim (λ i. inr (insert_has r xs o.2 (inl i))) (λ k. ⊎_map (λ i. i) (λ j. insert_has r xs o.2 (inr j)) k) h))
    (λ m e. rw (insert_here r x xs e) (absorb_has r (x ∷ xs) o (m, none_before xs m o.1 o.2) h))

-- ---- the test says what is held

data InView (x : Range) (a b n : ℕ) : Type 0 where
  in_yes : In x a b n → within x a b n ≡ true → InView x a b n
  in_no : (In x a b n → ⊥) → within x a b n ≡ false → InView x a b n

module _ (x : Range) (a b n : ℕ) where
  other_upper : (x.upper ≡ a → ⊥) → InView x a b n
  unfolding within
  other_upper h = in_no (λ i. h i.same_upper) (simp (ne_eqb x.upper a h))

  other_lower : x.upper ≡ a → (x.lower ≡ b → ⊥) → InView x a b n
  unfolding within
  other_lower e h = in_no (λ i. h i.same_lower) (simp (eq-eqb x.upper a e, ne_eqb x.lower b h))

  below_from : x.upper ≡ a → x.lower ≡ b → n < x.from → InView x a b n
  unfolding within
  below_from e f h = in_no (λ i. omega arith) (simp (eq-eqb x.upper a e, eq-eqb x.lower b f, lt-leb x.from n h))

  above_to : x.upper ≡ a → x.lower ≡ b → x.from ≤ n → x.to < n → InView x a b n
  unfolding within
  above_to e f h k = in_no (λ i. omega arith) (simp (eq-eqb x.upper a e, eq-eqb x.lower b f, le-leb x.from n h, lt-leb n x.to k))

  inside : x.upper ≡ a → x.lower ≡ b → x.from ≤ n → n ≤ x.to → InView x a b n
  unfolding within
  inside e f h k =
      in_yes (record { same_upper = e; same_lower = f; above = h; below = k })
      (simp (eq-eqb x.upper a e, eq-eqb x.lower b f, le-leb x.from n h, le-leb n x.to k))

  in_to : x.upper ≡ a → x.lower ≡ b → x.from ≤ n → Tri n x.to → InView x a b n
  in_to e f h (lt k) = inside e f h (omega arith)
  in_to e f h (eq k) = inside e f h (omega arith)
  in_to e f h (gt k) = above_to e f h k

  in_from : x.upper ≡ a → x.lower ≡ b → Tri n x.from → InView x a b n
  in_from e f (lt k) = below_from e f k
  in_from e f (eq k) = in_to e f (omega arith) (tri n x.to)
  in_from e f (gt k) = in_to e f (omega arith) (tri n x.to)

  in_lower : x.upper ≡ a → Tri x.lower b → InView x a b n
  in_lower e (lt k) = other_lower e (λ f. omega arith)
  in_lower e (eq f) = in_from e f (tri n x.from)
  in_lower e (gt k) = other_lower e (λ f. omega arith)

  in_upper : Tri x.upper a → InView x a b n
  in_upper (lt k) = other_upper (λ f. omega arith)
  in_upper (eq e) = in_lower e (tri x.lower b)
  in_upper (gt k) = other_upper (λ f. omega arith)

in_elim : {x : Range} {a b n : ℕ} {C : Type 0} → (In x a b n → within x a b n ≡ true → C) → ((In x a b n → ⊥) → within x a b n ≡ false → C) → InView x a b n → C
in_elim f g (in_yes i e) = f i e
in_elim f g (in_no i e) = g i e

-- by cases: the pair lies in x, or not
pub by_within : (x : Range) (a b n : ℕ) {C : Type 0} → (In x a b n → within x a b n ≡ true → C) → ((In x a b n → ⊥) → within x a b n ≡ false → C) → C
by_within x a b n f g = in_elim f g (in_upper x a b n (tri x.upper a))

pub has_test : (l : List Range) (a b n : ℕ) → holds l a b n ≡ true → Has l a b n
unfolding holds Has
has_test [] a b n h = absurd (let z : ◌≡◌ {A = ℕ} 0 1 = cc in omega arith)
has_test (x ∷ xs) a b n h = by_within x a b n (λ i e. inl i) (λ m e. inr (has_test xs a b n (rw e at h)))

pub test_has : (l : List Range) (a b n : ℕ) → Has l a b n → holds l a b n ≡ true
unfolding holds Has
test_has [] a b n h = absurd h
test_has (x ∷ xs) a b n h =
    by_within x a b n (λ i e. rw e) (λ m e. rw e (test_has xs a b n (⊎_elim (λ i. absurd (m i)) (λ k. k) h)))

-- ---- in one equation of tests

same_test : (p q : Bool) → (p ≡ true → q ≡ true) → (q ≡ true → p ≡ true) → p ≡ q
same_test true q f g = sym (f refl)
same_test false true f g = g refl
same_test false false f g = refl

-- held after the insertion: in the range, or held before
pub holds_insert : (r : Range) (l : List Range) (a b n : ℕ) → Normal l → holds (insert r l) a b n ≡ pick (within r a b n) true (holds l a b n)
unfolding holds Has
holds_insert r l a b n o =
    same_test (holds (insert r l) a b n) (holds (r ∷ l) a b n)
    (λ h. test_has (r ∷ l) a b n (has_insert r l o (has_test (insert r l) a b n h)))
    (λ h. test_has (insert r l) a b n (insert_has r l o (has_test (r ∷ l) a b n h)))

-- ---- one pair, and the order of ranges

-- a range wholly before the pair does not hold it
pub before_outside : (y : Range) (a b n : ℕ) → is_before y (range a b n n) ≡ true → within y a b n ≡ false
before_outside y a b n e =
    by_before y (range a b n n) (λ p _. by_within y a b n (λ i _. absurd (not_in p i)) (λ _ q. q)) (λ _ f. impossible (cc))
  where
    not_in : Before y (range a b n n) → In y a b n → ⊥
    not_in (upper_less h) i = omega arith
    not_in (lower_less f h) i = omega arith
    not_in (apart f g h) i = omega arith

-- behind a range that is not before the pair, none holds it
pub later_outside : (y z : Range) (a b n : ℕ) → is_before y (range a b n n) ≡ false → Before y z → within z a b n ≡ false
later_outside y z a b n e o =
    by_before y (range a b n n) (λ _ f. impossible (cc)) (λ p _. by_within z a b n (λ i _. absurd (not_in o p i)) (λ _ q. q))
  where
    not_in : Before y z → NotBefore y (range a b n n) → In z a b n → ⊥
    not_in (upper_less h) (upper_more k) i = omega arith
    not_in (upper_less h) (lower_more f k) i = omega arith
    not_in (upper_less h) (meets f g k) i = omega arith
    not_in (lower_less d h) (upper_more k) i = omega arith
    not_in (lower_less d h) (lower_more f k) i = omega arith
    not_in (lower_less d h) (meets f g k) i = omega arith
    not_in (apart c d h) (upper_more k) i = omega arith
    not_in (apart c d h) (lower_more f k) i = omega arith
    not_in (apart c d h) (meets f g k) i = omega arith
