-- The search among rows in normal form: the rows before a range come first, and only the first row that does not lie before a
-- pair can hold it.
-- Assumes nothing.
use mathlib.Core.Path.{◌≡◌, refl}
use mathlib.Core.Bool.{Bool, true, false}
use mathlib.Core.List.{List}
use Prim.Native.Nat.{ℕ, zero, suc, ◌+◌, ◌≤◌, ◌<◌}
use native.Mathlib.Nat.{zero-add}
use native.Mathlib.Omega.{arith}
use Rattle.laws.specs.Pick.{pick}
use Rattle.laws.proofs.Cases.{by_lt, by_eq, impossible}
use Rattle.talk.specs.Ranges.{range, is_before, within, holds, Before, BeforeAll, Normal}
use Rattle.talk.specs.declared.range.Range.{Range}
use Rattle.talk.proofs.Order.{by_before, before_or_not, before_trans}
use Rattle.talk.proofs.Membership.{before_outside, later_outside}
use Rattle.ranges.specs.RangeTable.{range_at, ranges_at, FirstNotBefore}

-- ---- rows in normal form, row by row

rows_behind : (t : List ℕ) (x : Range) (k n j : ℕ) → BeforeAll x (ranges_at t k n) → j < n → Before x (range_at t (k + j))
unfolding ranges_at BeforeAll
rows_behind t x k zero j a l = absurd (omega arith)
rows_behind t x k (suc n) zero a l = let z : k + 0 ≡ k = omega arith in rw z a.0
rows_behind t x k (suc n) (suc j) a l =
    let z : k + suc j ≡ suc k + j = omega arith in
    rw z (rows_behind t x (suc k) n j a.1 (omega arith))

some_from : (t : List ℕ) (k n j : ℕ) → Normal (ranges_at t k n) → j < n → (range_at t (k + j)).from ≤ (range_at t (k + j)).to
unfolding ranges_at Normal
some_from t k zero j o l = absurd (omega arith)
some_from t k (suc n) zero o l = let z : k + 0 ≡ k = omega arith in rw z o.0
some_from t k (suc n) (suc j) o l =
    let z : k + suc j ≡ suc k + j = omega arith in
    rw z (some_from t (suc k) n j o.2 (omega arith))

ordered_from : (t : List ℕ) (k n i j : ℕ) → Normal (ranges_at t k n) → i < j → j < n → Before (range_at t (k + i)) (range_at t (k + j))
unfolding ranges_at Normal
ordered_from t k zero i j o h l = absurd (omega arith)
ordered_from t k (suc n) i zero o h l = absurd (omega arith)
ordered_from t k (suc n) zero (suc j) o h l =
    let z : k + 0 ≡ k = omega arith in
    let y : k + suc j ≡ suc k + j = omega arith in
    rw (z, y) (rows_behind t (range_at t k) (suc k) n j o.1 (omega arith))
ordered_from t k (suc n) (suc i) (suc j) o h l =
    let x : k + suc i ≡ suc k + i = omega arith in
    let y : k + suc j ≡ suc k + j = omega arith in
    rw (x, y) (ordered_from t (suc k) n i j o.2 (omega arith) (omega arith))

-- ---- rows that do not hold a pair

none_hold : (t : List ℕ) (a b n k m : ℕ) → ((j : ℕ) → j < m → within (range_at t (k + j)) a b n ≡ false) → holds (ranges_at t k m) a b n ≡ false
unfolding ranges_at holds
none_hold t a b n k zero g = refl
none_hold t a b n k (suc m) g =
    let z : k + 0 ≡ k = omega arith in
    let e : within (range_at t k) a b n ≡ false = rw z at (g 0 (omega arith)) in
    rw e (none_hold t a b n (suc k) m (λ j l. let q : suc k + j ≡ k + suc j = omega arith in rw q (g (suc j) (omega arith))))

or_false : (w : Bool) → pick w true false ≡ w
or_false true = refl
or_false false = refl

-- all but row i
one_holds : (t : List ℕ) (a b n i k m : ℕ) → i < m → ((j : ℕ) → j < m → (j ≡ i → ⊥) → within (range_at t (k + j)) a b n ≡ false)
    → holds (ranges_at t k m) a b n ≡ within (range_at t (k + i)) a b n
unfolding ranges_at holds
one_holds t a b n i k zero l g = absurd (omega arith)
one_holds t a b n zero k (suc m) l g =
    let z : k + 0 ≡ k = omega arith in
    let e : holds (ranges_at t (suc k) m) a b n ≡ false =
    none_hold t a b n (suc k) m (λ j h. let q : suc k + j ≡ k + suc j = omega arith in rw q (g (suc j) (omega arith) (λ d. omega arith))) in
    rw (e, z) (or_false (within (range_at t k) a b n))
one_holds t a b n (suc i) k (suc m) l g =
    let z : k + 0 ≡ k = omega arith in
    let y : k + suc i ≡ suc k + i = omega arith in
    let e : within (range_at t k) a b n ≡ false = rw z at (g 0 (omega arith) (λ d. omega arith)) in
    rw (e, y)
    (one_holds t a b n i (suc k) m (omega arith)
    (λ j h d. let q : suc k + j ≡ k + suc j = omega arith in rw q (g (suc j) (omega arith) (λ f. d (omega arith)))))

ne_lt : (i j : ℕ) → (j ≡ i → ⊥) → i ≤ j → i < j
ne_lt i j d h = by_lt i j (λ l. l) (λ l. absurd (d (omega arith)))

module _ (t : List ℕ) (count : ℕ) (o : Normal (ranges_at t 0 count)) where
  row_some : (j : ℕ) → j < count → (range_at t j).from ≤ (range_at t j).to
  row_some j l = rw (zero-add j) at (some_from t 0 count j o l)

  row_order : (i j : ℕ) → i < j → j < count → Before (range_at t i) (range_at t j)
  row_order i j h l = rw (zero-add i, zero-add j) at (ordered_from t 0 count i j o h l)

  -- ---- halving

  -- the rows up to one that lies before x lie before it
  pub all_before : (x : Range) (m : ℕ) → m < count → is_before (range_at t m) x ≡ true → (j : ℕ) → j < m + 1 → is_before (range_at t j) x ≡ true
  all_before x m l e j h =
      by_eq j m (λ q. rw q e)
      (λ q.
      by_before (range_at t m) x
      (λ b _. by_before (range_at t j) x (λ _ f. f) (λ n _. absurd (before_or_not (before_trans (row_order j m (omega arith) l) (row_some m l) b) n)))
      (λ _ f. impossible (cc)))

  -- ---- one pair

  -- none holds it where all lie before it
  pub no_row_holds : (a b n i : ℕ) → FirstNotBefore t count (range a b n n) i → i ≡ count → holds (ranges_at t 0 count) a b n ≡ false
  no_row_holds a b n i f e = none_hold t a b n 0 count (λ j l. rw (zero-add j) (before_outside (range_at t j) a b n (f.before j (omega arith))))

  -- and else only the first that does not
  pub one_row_holds : (a b n i : ℕ) → FirstNotBefore t count (range a b n n) i → i < count → holds (ranges_at t 0 count) a b n ≡ within (range_at t i) a b n
  one_row_holds a b n i f l =
      rw (zero-add i) at
      (one_holds t a b n i 0 count l
      (λ j h d.
      rw (zero-add j) (by_lt j i (λ q. before_outside (range_at t j) a b n (f.before j q))
      (λ q. later_outside (range_at t i) (range_at t j) a b n (f.stop l) (row_order i j (ne_lt i j d q) h)))))
