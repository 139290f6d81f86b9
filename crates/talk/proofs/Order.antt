-- The order of ranges: the test decides it, two ranges of which neither lies before the other meet, and it goes along.
-- Assumes nothing.
use mathlib.Core.Path.{◌≡◌, refl, ◌∙◌}
use mathlib.Core.Bool.{true, false}
use Prim.Native.Nat.{ℕ, zero, suc, ◌+◌, ◌≤◌, ◌<◌}
use native.Mathlib.Omega.{arith}
use lib.Dec.{ltb}
use borrow.Author.Tests.{lt-ltb, le-ltb}
use Rattle.talk.specs.declared.range.Range.{Range}
use Rattle.talk.specs.Ranges.{range, is_before, joined, Before, upper_less, lower_less, apart}

-- ---- records equal field by field

pub same_range : (x y : Range) → x.upper ≡ y.upper → x.lower ≡ y.lower → x.from ≡ y.from → x.to ≡ y.to → x ≡ y
same_range x y e f g h =
    let m : range x.upper x.lower x.from x.to ≡ range y.upper y.lower y.from y.to = cc in m

-- ---- the test, case by case

module _ (a b : Range) where
  pub before_upper : a.upper < b.upper → is_before a b ≡ true
  unfolding is_before
  before_upper h = simp (lt-ltb _ _ h)

  pub after_upper : b.upper < a.upper → is_before a b ≡ false
  unfolding is_before
  after_upper h =
      let k : b.upper ≤ a.upper = omega arith in
      simp (le-ltb _ _ k, lt-ltb _ _ h)

  pub before_lower : a.upper ≡ b.upper → a.lower < b.lower → is_before a b ≡ true
  unfolding is_before
  before_lower e h =
      let k : b.upper ≤ a.upper = omega arith in
      let k' : a.upper ≤ b.upper = omega arith in
      simp (le-ltb _ _ k, le-ltb _ _ k', lt-ltb _ _ h)

  pub after_lower : a.upper ≡ b.upper → b.lower < a.lower → is_before a b ≡ false
  unfolding is_before
  after_lower e h =
      let k : b.upper ≤ a.upper = omega arith in
      let k' : a.upper ≤ b.upper = omega arith in
      let l : b.lower ≤ a.lower = omega arith in
      simp (le-ltb _ _ k, le-ltb _ _ k', le-ltb _ _ l, lt-ltb _ _ h)

  pub before_numbers : a.upper ≡ b.upper → a.lower ≡ b.lower → is_before a b ≡ ltb (a.to + 1) b.from
  unfolding is_before
  before_numbers e f =
      let k : b.upper ≤ a.upper = omega arith in
      let k' : a.upper ≤ b.upper = omega arith in
      let l : b.lower ≤ a.lower = omega arith in
      let l' : a.lower ≤ b.lower = omega arith in
      simp (le-ltb _ _ k, le-ltb _ _ k', le-ltb _ _ l, le-ltb _ _ l')

  -- the next number is not past what follows
  pub touching_not_before : a.upper ≡ b.upper → a.lower ≡ b.lower → b.from ≤ a.to + 1 → is_before a b ≡ false
  touching_not_before e f h = before_numbers e f ∙ le-ltb (a.to + 1) b.from h

-- ---- before, or not

pub data NotBefore (x y : Range) : Type 0 where
  upper_more : y.upper < x.upper → NotBefore x y
  lower_more : x.upper ≡ y.upper → y.lower < x.lower → NotBefore x y
  meets : x.upper ≡ y.upper → x.lower ≡ y.lower → y.from ≤ x.to + 1 → NotBefore x y

pub data Tri (m n : ℕ) : Type 0 where
  lt : m < n → Tri m n
  eq : m ≡ n → Tri m n
  gt : n < m → Tri m n

pub tri : (m n : ℕ) → Tri m n
tri zero zero = eq refl
tri zero (suc n) = lt (omega arith)
tri (suc m) zero = gt (omega arith)
tri (suc m) (suc n) = up (tri m n)
  where
    up : Tri m n → Tri (suc m) (suc n)
    up (lt h) = lt (omega arith)
    up (eq e) = eq (omega arith)
    up (gt h) = gt (omega arith)

data View (x y : Range) : Type 0 where
  yes : Before x y → is_before x y ≡ true → View x y
  no : NotBefore x y → is_before x y ≡ false → View x y

view_numbers : (x y : Range) → x.upper ≡ y.upper → x.lower ≡ y.lower → Tri (x.to + 1) y.from → View x y
view_numbers x y e f (lt h) = yes (apart e f h) (before_numbers x y e f ∙ lt-ltb (x.to + 1) y.from h)
view_numbers x y e f (eq h) = no (meets e f (omega arith)) (before_numbers x y e f ∙ le-ltb (x.to + 1) y.from (omega arith))
view_numbers x y e f (gt h) = no (meets e f (omega arith)) (before_numbers x y e f ∙ le-ltb (x.to + 1) y.from (omega arith))

view_lower : (x y : Range) → x.upper ≡ y.upper → Tri x.lower y.lower → View x y
view_lower x y e (lt h) = yes (lower_less e h) (before_lower x y e h)
view_lower x y e (eq f) = view_numbers x y e f (tri (x.to + 1) y.from)
view_lower x y e (gt h) = no (lower_more e h) (after_lower x y e h)

view_upper : (x y : Range) → Tri x.upper y.upper → View x y
view_upper x y (lt h) = yes (upper_less h) (before_upper x y h)
view_upper x y (eq e) = view_lower x y e (tri x.lower y.lower)
view_upper x y (gt h) = no (upper_more h) (after_upper x y h)

view_elim : {x y : Range} {C : Type 0} → (Before x y → is_before x y ≡ true → C) → (NotBefore x y → is_before x y ≡ false → C) → View x y → C
view_elim f g (yes b e) = f b e
view_elim f g (no m e) = g m e

-- by cases: x before y, or not
pub by_before : (x y : Range) {C : Type 0} → (Before x y → is_before x y ≡ true → C) → (NotBefore x y → is_before x y ≡ false → C) → C
by_before x y f g = view_elim f g (view_upper x y (tri x.upper y.upper))

-- not both
pub before_or_not : {x y : Range} → Before x y → NotBefore x y → ⊥
before_or_not (upper_less h) (upper_more k) = omega arith
before_or_not (upper_less h) (lower_more e k) = omega arith
before_or_not (upper_less h) (meets e f k) = omega arith
before_or_not (lower_less e h) (upper_more k) = omega arith
before_or_not (lower_less e h) (lower_more f k) = omega arith
before_or_not (lower_less e h) (meets f g k) = omega arith
before_or_not (apart e f h) (upper_more k) = omega arith
before_or_not (apart e f h) (lower_more g k) = omega arith
before_or_not (apart e f h) (meets g i k) = omega arith

-- ---- two ranges that touch or overlap

pub record Meet (r x : Range) : Type 0 where
  pub same_upper : r.upper ≡ x.upper
  pub same_lower : r.lower ≡ x.lower
  pub left : r.from ≤ x.to + 1
  pub right : x.from ≤ r.to + 1

pub meet : {r x : Range} → NotBefore x r → NotBefore r x → Meet r x
meet (upper_more h) (upper_more k) = absurd (omega arith)
meet (upper_more h) (lower_more e k) = absurd (omega arith)
meet (upper_more h) (meets e f k) = absurd (omega arith)
meet (lower_more e h) (upper_more k) = absurd (omega arith)
meet (lower_more e h) (lower_more f k) = absurd (omega arith)
meet (lower_more e h) (meets f g k) = absurd (omega arith)
meet (meets e f h) (upper_more k) = absurd (omega arith)
meet (meets e f h) (lower_more g k) = absurd (omega arith)
meet (meets e f h) (meets g k l) = record { same_upper = g; same_lower = k; left = h; right = l }

-- ---- the order goes along

pub before_trans : {r x y : Range} → Before r x → x.from ≤ x.to → Before x y → Before r y
before_trans (upper_less h) v (upper_less k) = upper_less (omega arith)
before_trans (upper_less h) v (lower_less e k) = upper_less (omega arith)
before_trans (upper_less h) v (apart e f k) = upper_less (omega arith)
before_trans (lower_less e h) v (upper_less k) = upper_less (omega arith)
before_trans (lower_less e h) v (lower_less f k) = lower_less (omega arith) (omega arith)
before_trans (lower_less e h) v (apart f g k) = lower_less (omega arith) (omega arith)
before_trans (apart e f h) v (upper_less k) = upper_less (omega arith)
before_trans (apart e f h) v (lower_less g k) = lower_less (omega arith) (omega arith)
before_trans (apart e f h) v (apart g i k) = apart (omega arith) (omega arith) (omega arith)

-- what lies behind a range that is not before r is not before r either
pub not_before_later : {x r y : Range} → NotBefore x r → Before x y → y.from ≤ y.to → NotBefore y r
not_before_later (upper_more h) (upper_less k) v = upper_more (omega arith)
not_before_later (upper_more h) (lower_less e k) v = upper_more (omega arith)
not_before_later (upper_more h) (apart e f k) v = upper_more (omega arith)
not_before_later (lower_more e h) (upper_less k) v = upper_more (omega arith)
not_before_later (lower_more e h) (lower_less f k) v = lower_more (omega arith) (omega arith)
not_before_later (lower_more e h) (apart f g k) v = lower_more (omega arith) (omega arith)
not_before_later (meets e f h) (upper_less k) v = upper_more (omega arith)
not_before_later (meets e f h) (lower_less g k) v = lower_more (omega arith) (omega arith)
not_before_later (meets e f h) (apart g i k) v = meets (omega arith) (omega arith) (omega arith)

pub not_before_join : {r x y : Range} → Meet r x → Before x y → y.from ≤ y.to → NotBefore y (joined r x)
unfolding joined
not_before_join m (upper_less k) v = upper_more (omega arith)
not_before_join m (lower_less e k) v = lower_more (omega arith) (omega arith)
not_before_join m (apart e f k) v = meets (omega arith) (omega arith) (omega arith)

pub before_join : {x r y : Range} → Before x r → Before x y → Meet r y → Before x (joined r y)
unfolding joined
before_join (upper_less h) k m = upper_less h
before_join (lower_less e h) k m = lower_less e h
before_join (apart e f h) (upper_less k) m = absurd (omega arith)
before_join (apart e f h) (lower_less g k) m = absurd (omega arith)
before_join (apart e f h) (apart g i k) m = apart e f (omega arith)

pub join_some : (r x : Range) → r.from ≤ r.to → (joined r x).from ≤ (joined r x).to
unfolding joined
join_some r x v = omega arith
