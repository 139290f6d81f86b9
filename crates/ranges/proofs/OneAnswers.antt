-- The calls on the table of ranges determine their answers: what is told is known by what tells it, and any two answers allowed are equal.
-- Assumes nothing.
use mathlib.Core.Path.{◌≡◌, refl, sym, ap, ◌∙◌}
use mathlib.Core.Bool.{true, false}
use mathlib.Core.List.{List, ◌∷◌}
use Prim.Native.Nat.{ℕ, ◌-◌, ◌<◌}
use native.Mathlib.Omega.{arith}
use lib.ListN.{length}
use Rattle.laws.proofs.Cases.{impossible}
use Rattle.laws.proofs.OneAnswer.{Telling}
use Rattle.numbers.proofs.OneAnswers.{values_of}
use Rattle.talk.specs.declared.range.Range.{Range}
use Rattle.ranges.specs.RangeTable.{ranges_at, added_to, laid_in, tell_added, FirstNotBefore, Gathers}
use Rattle.ranges.specs.Results.Added.{Added}
use Rattle.ranges.specs.Results.Added as added
use Rattle.ranges.specs.declared.Gathered.{Gathered}
use Rattle.ranges.proofs.RangeRows.{length_rows}

pub added_telling : Telling tell_added
added_telling (added.Rows n) (added.Rows m) e = let v = values_of _ _ e in cc
added_telling (added.Rows n) added.Full e = let v = values_of _ _ e in impossible (cc)
added_telling added.Full (added.Rows m) e = let v = values_of _ _ e in impossible (cc)
added_telling added.Full added.Full e = refl

-- what adding a range answers, and the table at its exit
pub add_range_one : (t : List ℕ) (l : List Range) (r q : Added) (x y : List ℕ) → (r ≡ added_to t l) × (x ≡ laid_in t l) → (q ≡ added_to t l) × (y ≡ laid_in t l)
    → (r ≡ q) × (x ≡ y)
add_range_one t l r q x y a b = (a.0 ∙ sym b.0, a.1 ∙ sym b.1)

-- how many rows lie before a range
pub rows_before_one : (t : List ℕ) (count : ℕ) (x : Range) (i j : ℕ) → FirstNotBefore t count x i → FirstNotBefore t count x j → i ≡ j
rows_before_one t count x i j f g = omega (arith, not_less i j f g, not_less j i g f)
  where
    not_less : (i j : ℕ) → FirstNotBefore t count x i → FirstNotBefore t count x j → ¬ (i < j)
    not_less i j f g h =
        let m = g.most in
        let e : true ≡ false = sym (g.before i h) ∙ f.stop (omega arith) in
        impossible (cc)

abbrev gathered : Range → ℕ → Gathered
gathered x n = record { range = x; next = n }

same_gathered : {x y : Range} {n m : ℕ} → x ≡ y → n ≡ m → gathered x n ≡ gathered y m
same_gathered a b = cc

-- a range joined with the rows that it meets, and the first row behind them: so many are left, and they are counted
pub gather_one : (t : List ℕ) (count i : ℕ) (x : Range) (r q : Gathered) → Gathers t count i x r → Gathers t count i x q → r ≡ q
gather_one t count i x r q a b =
    let l : r.range ∷ ranges_at t r.next (count - r.next) ≡ q.range ∷ ranges_at t q.next (count - q.next) = sym a.2 ∙ b.2 in
    let n = ap length l in
    let e : r.next ≡ q.next = omega (arith, a.1, b.1, length_rows t r.next (count - r.next), length_rows t q.next (count - q.next)) in
    same_gathered (cc) e
