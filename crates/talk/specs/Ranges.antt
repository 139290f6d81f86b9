-- Knowledge as a list of ranges. "As a set it holds pairs of GUID and number." Its list is "ordered by the GUID's sixteen
-- bytes, then by from; ranges that touch or overlap are joined. Nothing follows 2^64-1." A GUID stands here as two numbers
-- whose order is that of its sixteen bytes.
-- Assumes nothing.
use Rattle.std.specs.Prelude.{◌≡◌, Bool, true, false, List, [], ◌∷◌, ℕ, ◌+◌, ◌^◌, ◌≤◌, ◌<◌, min, max, ltb, leb, eqb}
use Rattle.laws.specs.Pick.{pick}
use Rattle.talk.specs.declared.range.Range.{Range}

abbrev pub range : ℕ → ℕ → ℕ → ℕ → Range
range u l a b = record { upper = u; lower = l; from = a; to = b }

-- ---- what is known

-- the pair of the GUID u, l and the number n lies in x, "both ends known"
unfoldable pub within : Range → ℕ → ℕ → ℕ → Bool
within x u l n = pick (eqb x.upper u) (pick (eqb x.lower l) (pick (leb x.from n) (leb n x.to) false) false) false

-- .. in a range of the list
unfoldable pub holds : List Range → ℕ → ℕ → ℕ → Bool
holds [] u l n = false
holds (x ∷ xs) u l n = pick (within x u l n) true (holds xs u l n)

-- ---- a range put into a list

-- a lies wholly before b, and does not touch it. The sum is not cut to 64 bits: behind 2^64-1 it is no number's from
unfoldable pub is_before : Range → Range → Bool
is_before a b =
    pick (ltb a.upper b.upper) true
    (pick (ltb b.upper a.upper) false
    (pick (ltb a.lower b.lower) true
    (pick (ltb b.lower a.lower) false
    (ltb (a.to + 1) b.from))))

-- two that touch or overlap, as one
unfoldable pub joined : Range → Range → Range
joined a b = record { upper = a.upper; lower = a.lower; from = min a.from b.from; to = max a.to b.to }

-- r in front of a list none of whose ranges lies before it: joined with each that it meets
unfoldable pub absorb : Range → List Range → List Range
absorb r [] = r ∷ []
absorb r (x ∷ xs) = pick (is_before r x) (r ∷ x ∷ xs) (absorb (joined r x) xs)

-- r in its place
unfoldable pub insert : Range → List Range → List Range
insert r [] = r ∷ []
insert r (x ∷ xs) = pick (is_before x r) (x ∷ insert r xs) (absorb r (x ∷ xs))

-- ---- the normal form

-- x lies wholly before y, and does not touch it
pub data Before (x y : Range) : Type 0 where
  upper_less : x.upper < y.upper → Before x y
  lower_less : x.upper ≡ y.upper → x.lower < y.lower → Before x y
  apart : x.upper ≡ y.upper → x.lower ≡ y.lower → x.to + 1 < y.from → Before x y

unfoldable pub BeforeAll : Range → List Range → Type 0
BeforeAll x [] = Unit {0}
BeforeAll x (y ∷ ys) = Before x y × BeforeAll x ys

-- each range holds a number, and lies wholly before all behind it, touching none
unfoldable pub Normal : List Range → Type 0
Normal [] = Unit {0}
Normal (x ∷ xs) = (x.from ≤ x.to) × BeforeAll x xs × Normal xs

-- ---- numbers of 64 bits

abbrev pub RangeFits : Range → Type 0
RangeFits x = (x.upper < 2 ^ 64) × (x.lower < 2 ^ 64) × (x.from < 2 ^ 64) × (x.to < 2 ^ 64)

unfoldable pub AllFit : List Range → Type 0
AllFit [] = Unit {0}
AllFit (x ∷ xs) = RangeFits x × AllFit xs
