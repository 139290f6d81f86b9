-- The working table of ranges: what a row is as numbers, the ranges that stand in a table, and what adding one answers.
-- Assumes nothing.
use Rattle.std.specs.Prelude.{◌≡◌, true, false, ℕ, zero, suc, ◌+◌, ◌-◌, ◌*◌, ◌≤◌, ◌<◌, List, [], ◌∷◌, ◌++◌, length, drop, get_or, leb}
use Rattle.laws.specs.Pick.{pick}
use Rattle.numbers.specs.Refusals.{Told, gives}
use Rattle.talk.specs.Ranges.{is_before, absorb, Normal}
use Rattle.talk.specs.declared.range.Range.{Range}
use Rattle.ranges.specs.Results.Added.{Added, Full, Rows}
use Rattle.ranges.specs.declared.Gathered.{Gathered}

-- how many numbers a row has: the range's GUID as two, from, to
abbrev pub range_width : ℕ
range_width = 4

-- row k
abbrev pub range_at : List ℕ → ℕ → Range
range_at t k =
    record {
      upper = get_or t (k * range_width) 0;
      lower = get_or t (k * range_width + 1) 0;
      from = get_or t (k * range_width + 2) 0;
      to = get_or t (k * range_width + 3) 0;
    }

-- n rows from row k on
unfoldable pub ranges_at : List ℕ → ℕ → ℕ → List Range
ranges_at t k zero = []
ranges_at t k (suc n) = range_at t k ∷ ranges_at t (suc k) n

-- the first n rows stand in the table, and are in normal form
abbrev pub RangesStand : List ℕ → ℕ → Type 0
RangesStand t n = (n * range_width ≤ length t) × Normal (ranges_at t 0 n)

abbrev pub range_numbers : Range → List ℕ
range_numbers x = x.upper ∷ x.lower ∷ x.from ∷ x.to ∷ []

-- the numbers of each range, one behind the other
unfoldable pub numbers_of : List Range → List ℕ
numbers_of [] = []
numbers_of (x ∷ xs) = range_numbers x ++ numbers_of xs

-- row i is the first of `count` that does not lie wholly before x
pub record FirstNotBefore (t : List ℕ) (count : ℕ) (x : Range) (i : ℕ) : Type 0 where
  pub most : i ≤ count
  pub before : (j : ℕ) → j < i → is_before (range_at t j) x ≡ true
  pub stop : i < count → is_before (range_at t i) x ≡ false

-- x joined with the rows from i on that it meets, and the first row that it does not meet
abbrev pub Gathers : List ℕ → ℕ → ℕ → Range → Gathered → Type 0
Gathers t count i x r =
    (i ≤ r.next) × (r.next ≤ count) × (absorb x (ranges_at t i (count - i)) ≡ r.range ∷ ranges_at t r.next (count - r.next))

-- the rows of a list, and behind them the table's own numbers
abbrev pub laid_ranges : List Range → List ℕ → List ℕ
laid_ranges l t = numbers_of l ++ drop (length l * range_width) t

-- what is answered where the rows are to be these, and what the table then holds: without room it is as it was
abbrev pub added_to : List ℕ → List Range → Added
added_to t l = pick (leb (length l * range_width) (length t)) (Rows (length l)) Full

abbrev pub laid_in : List ℕ → List Range → List ℕ
laid_in t l = pick (leb (length l * range_width) (length t)) (laid_ranges l t) t

-- the number of rows then; nothing where there is no room
abbrev pub tell_added : Added → Told
tell_added (Rows n) = gives (n ∷ [])
tell_added Full = gives []
