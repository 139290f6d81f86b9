-- The rows of the working table of ranges: one more or fewer, those before a range, those that it meets, and what stands in
-- the table after a row is written.
-- Assumes nothing.
use mathlib.Core.Path.{◌≡◌, refl, sym, ap, ◌∙◌}
use mathlib.Core.Bool.{true, false}
use mathlib.Core.List.{List, [], ◌∷◌, ◌++◌, append_assoc}
use Prim.Native.Nat.{ℕ, zero, suc, ◌+◌, ◌-◌, ◌*◌, ◌/◌, ◌≤◌, ◌<◌}
use native.Mathlib.Nat.{zero-add}
use native.Mathlib.Omega.{arith}
use native.Mathlib.Numerals.{add-one}
use lib.ListN.{length, take, drop, get_or, length-append, length-drop, take-append-drop}
use lib.Seq.{drop-cons, drop-drop, take_at, drop_at, get_or-drop, length-take-le, paste}
use Rattle.std.proofs.lemmas.List.{take-take, take-append-le}
use borrow.Author.Tests.{le-leb, lt-leb}
use Rattle.laws.proofs.Cases.{impossible}
use Rattle.talk.specs.Ranges.{is_before, joined, absorb, insert}
use Rattle.talk.specs.declared.range.Range.{Range}
use Rattle.talk.proofs.Order.{same_range}
use Rattle.talk.proofs.Insertion.{insert_none, insert_past, insert_here, absorb_none, absorb_stop, absorb_join}
use Rattle.ranges.specs.RangeTable.{range_at, ranges_at, range_numbers, numbers_of, laid_ranges, added_to, laid_in, FirstNotBefore}
use Rattle.ranges.specs.Results.Added.{Full, Rows}

-- the first of the rows from k up to count
pub rows_step : (t : List ℕ) (k count : ℕ) → k < count → ranges_at t k (count - k) ≡ range_at t k ∷ ranges_at t (k + 1) (count - (k + 1))
unfolding ranges_at
rows_step t k count h =
    let e : count - k ≡ suc (count - (k + 1)) = omega arith in
    rw (e, add-one k)

pub rows_none : (t : List ℕ) (k count : ℕ) → count ≤ k → ranges_at t k (count - k) ≡ []
unfolding ranges_at
rows_none t k count h =
    let e : count - k ≡ 0 = omega arith in
    rw e

-- one row more at the end
rows_snoc : (t : List ℕ) (k n : ℕ) → ranges_at t k (suc n) ≡ ranges_at t k n ++ (range_at t (k + n) ∷ [])
unfolding ranges_at
rows_snoc t k zero =
    let e : k + zero ≡ k = omega arith in
    rw e
rows_snoc t k (suc n) =
    let e : k + suc n ≡ suc k + n = omega arith in
    rw e (ap (λ (l : List Range). range_at t k ∷ l) (rows_snoc t (suc k) n))

pub rows_more : (t : List ℕ) (n : ℕ) → ranges_at t 0 (n + 1) ≡ ranges_at t 0 n ++ (range_at t n ∷ [])
rows_more t n =
    let e : 0 + n ≡ n = omega arith in
    rw (add-one n) (rw e at (rows_snoc t 0 n))

pub length_rows : (t : List ℕ) (k n : ℕ) → length (ranges_at t k n) ≡ n
unfolding ranges_at
length_rows t k zero = refl
length_rows t k (suc n) = ap suc (length_rows t (suc k) n)

-- ---- the rows before a range

-- the rows from k on, of which the first m lie before x and the next, if there is one, does not
insert_split : (t : List ℕ) (x : Range) (m k n : ℕ) → m ≤ n → ((j : ℕ) → j < m → is_before (range_at t (k + j)) x ≡ true)
    → (m < n → is_before (range_at t (k + m)) x ≡ false) → insert x (ranges_at t k n) ≡ ranges_at t k m ++ absorb x (ranges_at t (k + m) (n - m))
unfolding ranges_at
insert_split t x zero k zero h b e = insert_none x
insert_split t x zero k (suc n) h b e =
    let z : k + 0 ≡ k = omega arith in
    let y : suc n - 0 ≡ suc n = omega arith in
    let f : is_before (range_at t k) x ≡ false = rw z at (e (omega arith)) in
    rw (z, y) (insert_here x (range_at t k) (ranges_at t (suc k) n) f)
insert_split t x (suc m) k zero h b e = absurd (omega arith)
insert_split t x (suc m) k (suc n) h b e =
    let z : k + 0 ≡ k = omega arith in
    let w : k + suc m ≡ suc k + m = omega arith in
    let y : suc n - suc m ≡ n - m = omega arith in
    let f : is_before (range_at t k) x ≡ true = rw z at (b 0 (omega arith)) in
    let i = insert_split t x m (suc k) n (omega arith)
    (λ j l. let q : suc k + j ≡ k + suc j = omega arith in rw q (b (suc j) (omega arith))) (λ l. rw (← w) (e (omega arith))) in
    rw (w, y) (insert_past x (range_at t k) (ranges_at t (suc k) n) f ∙ ap (λ (l : List Range). range_at t k ∷ l) i)

pub insert_at : (t : List ℕ) (count : ℕ) (x : Range) (i : ℕ) → FirstNotBefore t count x i
    → insert x (ranges_at t 0 count) ≡ ranges_at t 0 i ++ absorb x (ranges_at t i (count - i))
insert_at t count x i f =
    rw (zero-add i) at (insert_split t x i 0 count f.most (λ j l. rw (zero-add j) (f.before j l)) (λ l. rw (zero-add i) (f.stop l)))

-- ---- the turns of `gather`

module _ (t : List ℕ) (count : ℕ) (y : Range) (j : ℕ) (w : List Range) (inv : w ≡ absorb y (ranges_at t j (count - j))) where
  pub gather_turn : j < count → is_before y (range_at t j) ≡ false → w ≡ absorb (joined y (range_at t j)) (ranges_at t (j + 1) (count - (j + 1)))
  gather_turn h e = inv ∙ ap (absorb y) (rows_step t j count h) ∙ absorb_join y (range_at t j) (ranges_at t (j + 1) (count - (j + 1))) e

  pub gather_stop : j < count → is_before y (range_at t j) ≡ true → w ≡ y ∷ ranges_at t j (count - j)
  gather_stop h e =
      inv
      ∙ ap (absorb y) (rows_step t j count h)
      ∙ absorb_stop y (range_at t j) (ranges_at t (j + 1) (count - (j + 1))) e
      ∙ ap (λ (l : List Range). y ∷ l) (sym (rows_step t j count h))

  pub gather_end : count ≤ j → w ≡ y ∷ ranges_at t j (count - j)
  gather_end h = inv ∙ ap (absorb y) (rows_none t j count h) ∙ absorb_none y ∙ ap (λ (l : List Range). y ∷ l) (sym (rows_none t j count h))

-- ---- the numbers of the rows

pub numbers_append : (a b : List Range) → numbers_of (a ++ b) ≡ numbers_of a ++ numbers_of b
unfolding numbers_of
numbers_append [] b = refl
numbers_append (x ∷ a) b = ap (λ (l : List ℕ). x.upper ∷ x.lower ∷ x.from ∷ x.to ∷ l) (numbers_append a b)

pub length_numbers : (a : List Range) → length (numbers_of a) ≡ length a * 4
unfolding numbers_of
length_numbers [] = refl
length_numbers (x ∷ a) =
    let ih : length (numbers_of a) ≡ length a * 4 = length_numbers a in
    omega arith

drop4 : (t : List ℕ) (i : ℕ) → i + 4 ≤ length t
    → drop i t ≡ get_or t i 0 ∷ get_or t (i + 1) 0 ∷ get_or t (i + 2) 0 ∷ get_or t (i + 3) 0 ∷ drop (i + 4) t
drop4 t i h =
    let e1 : i + 1 ≡ suc i = omega arith in
    let e2 : i + 2 ≡ suc (suc i) = omega arith in
    let e3 : i + 3 ≡ suc (suc (suc i)) = omega arith in
    let e4 : i + 4 ≡ suc (suc (suc (suc i))) = omega arith in
    let h0 : i < length t = omega arith in
    let h1 : suc i < length t = omega arith in
    let h2 : suc (suc i) < length t = omega arith in
    let h3 : suc (suc (suc i)) < length t = omega arith in
    rw (e1, e2, e3, e4)
    (drop-cons t i 0 h0
    ∙ ap (λ (l : List ℕ). get_or t i 0 ∷ l)
    (drop-cons t (suc i) 0 h1
    ∙ ap (λ (l : List ℕ). get_or t (suc i) 0 ∷ l)
    (drop-cons t (suc (suc i)) 0 h2 ∙ ap (λ (l : List ℕ). get_or t (suc (suc i)) 0 ∷ l) (drop-cons t (suc (suc (suc i))) 0 h3))))

-- the numbers of n rows from row k are those of the table
pub numbers_rows : (t : List ℕ) (k n : ℕ) → k * 4 + n * 4 ≤ length t → numbers_of (ranges_at t k n) ≡ take (n * 4) (drop (k * 4) t)
unfolding numbers_of ranges_at
numbers_rows t k zero h = refl
numbers_rows t k (suc n) h =
    let e : suc n * 4 ≡ suc (suc (suc (suc (n * 4)))) = omega arith in
    let f : k * 4 + 4 ≡ suc k * 4 = omega arith in
    rw (e, drop4 t (k * 4) (omega arith))
    (ap (λ (l : List ℕ). get_or t (k * 4) 0 ∷ get_or t (k * 4 + 1) 0 ∷ get_or t (k * 4 + 2) 0 ∷ get_or t (k * 4 + 3) 0 ∷ l)
    (numbers_rows t (suc k) n (omega arith) ∙ ap (λ (m : ℕ). take (n * 4) (drop m t)) (sym f)))

-- a row past what was written is as it was
pub row_kept : (t t₀ : List ℕ) (k n : ℕ) → k ≤ n → drop (k * 4) t ≡ drop (k * 4) t₀ → range_at t n ≡ range_at t₀ n
row_kept t t₀ k n h e =
    let at : (m : ℕ) → k * 4 ≤ m → get_or t m 0 ≡ get_or t₀ m 0 = λ m p.
    let f : k * 4 + (m - k * 4) ≡ m = omega arith in
    rw f at (sym (get_or-drop (k * 4) t (m - k * 4) 0) ∙ ap (λ (l : List ℕ). get_or l (m - k * 4) 0) e ∙ get_or-drop (k * 4) t₀ (m - k * 4) 0) in
    rw (at (n * 4) (omega arith), at (n * 4 + 1) (omega arith), at (n * 4 + 2) (omega arith), at (n * 4 + 3) (omega arith))

-- ---- `shift`

-- one row put over another: the rows behind it stand
pub put_over : (t t' : List ℕ) (i j count : ℕ) (x : Range) → j ≡ i + 1 → j ≤ count → count * 4 ≤ length t → t' ≡ take (i * 4) t ++ (range_numbers x ++ drop (i * 4 + 4) t)
    → t' ≡ take (i * 4) t ++ (numbers_of (x ∷ ranges_at t j (count - j)) ++ drop (i * 4 + 4 + (count - j) * 4) t)
unfolding numbers_of
put_over t t' i j count x e h f put =
    let m = (count - j) * 4 in
    let k : i * 4 + 4 ≡ j * 4 = omega arith in
    let behind : numbers_of (ranges_at t j (count - j)) ++ drop (j * 4 + m) t ≡ drop (j * 4) t =
    ap (λ (l : List ℕ). l ++ drop (j * 4 + m) t) (numbers_rows t j (count - j) (omega arith))
    ∙ ap (λ (l : List ℕ). take m (drop (j * 4) t) ++ l) (sym (drop-drop m (j * 4) t))
    ∙ take-append-drop m (drop (j * 4) t) in
    let p : t' ≡ take (i * 4) t ++ (range_numbers x ++ drop (j * 4) t) = rw k at put in
    rw k (p ∙ ap (λ (l : List ℕ). take (i * 4) t ++ (range_numbers x ++ l)) (sym behind))

-- the rows from j on copied behind row i, whose numbers are p, and row i written before them
pub put_before : (t s t' : List ℕ) (i j count p m : ℕ) (x : Range) → j ≤ count → count * 4 ≤ length t → p + m ≤ length t → p ≡ i * 4 + 4 → m ≡ (count - j) * 4
    → s ≡ paste t p (drop (j * 4) t) m → t' ≡ take (i * 4) s ++ (range_numbers x ++ drop (i * 4 + 4) s)
    → t' ≡ take (i * 4) t ++ (numbers_of (x ∷ ranges_at t j (count - j)) ++ drop (i * 4 + 4 + (count - j) * 4) t)
unfolding numbers_of
put_before t s t' i j count p m x f h room e g copied put =
    let rows = take m (drop (j * 4) t) in
    let split : s ≡ take p t ++ (rows ++ drop (p + m) t) = copied ∙ append_assoc (take p t) rows (drop (p + m) t) in
    let long : length (take p t) ≡ p = length-take-le p t (omega arith) in
    let before : take (i * 4) s ≡ take (i * 4) t =
    ap (take (i * 4)) split ∙ take-append-le (i * 4) (take p t) _ (omega arith) ∙ take-take (i * 4) p t (omega arith) in
    let behind : drop p s ≡ rows ++ drop (p + m) t = ap (drop p) split ∙ drop_at (take p t) _ p long in
    rw (numbers_rows t j (count - j) (omega arith), ← g, ← e) (rw (← e, before, behind) at put)

-- ---- what `add_range` answers

module _ (t : List ℕ) (count i j : ℕ) (y : Range) (w : List Range) (e : w ≡ ranges_at t 0 i ++ (y ∷ ranges_at t j (count - j))) where
  new_length : length w ≡ i + 1 + (count - j)
  new_length = omega (arith, ap length e, length-append (ranges_at t 0 i) (y ∷ ranges_at t j (count - j)), length_rows t 0 i, length_rows t j (count - j))

  pub add_full : length t / 4 < i + 1 + (count - j) → (Full ≡ added_to t w) × (t ≡ laid_in t w)
  add_full h =
      let k : length t < length w * 4 = omega (arith, new_length) in
      (simp (lt-leb _ _ k), simp (lt-leb _ _ k))

  pub add_done : (t' : List ℕ) → i + 1 + (count - j) ≤ length t / 4
      → t' ≡ take (i * 4) t ++ (numbers_of (y ∷ ranges_at t j (count - j)) ++ drop (i * 4 + 4 + (count - j) * 4) t)
      → (Rows (i + 1 + (count - j)) ≡ added_to t w) × (t' ≡ laid_in t w)
  add_done t' h d =
      let k : length w * 4 ≤ length t = omega (arith, new_length) in
      let n : i * 4 + 4 + (count - j) * 4 ≡ length w * 4 = omega (arith, new_length) in
      let f : numbers_of w ≡ take (i * 4) t ++ numbers_of (y ∷ ranges_at t j (count - j)) =
      ap numbers_of e
      ∙ numbers_append (ranges_at t 0 i) (y ∷ ranges_at t j (count - j))
      ∙ ap (λ (l : List ℕ). l ++ numbers_of (y ∷ ranges_at t j (count - j))) (numbers_rows t 0 i (omega arith)) in (
        simp (le-leb _ _ k) (ap Rows (sym new_length)),
        simp (le-leb _ _ k)
            (d
            ∙ sym (append_assoc (take (i * 4) t) (numbers_of (y ∷ ranges_at t j (count - j))) (drop (i * 4 + 4 + (count - j) * 4) t))
            ∙ ap (λ (l : List ℕ). l ++ drop (i * 4 + 4 + (count - j) * 4) t) (sym f)
            ∙ ap (λ (m : ℕ). numbers_of w ++ drop m t) n),
      )

-- ---- what stands in a table at whose front rows were laid

pub numbers_inj : (a b : List Range) → numbers_of a ≡ numbers_of b → a ≡ b
unfolding numbers_of
numbers_inj [] [] e = refl
numbers_inj [] (y ∷ b) e = impossible (cc)
numbers_inj (x ∷ a) [] e = impossible (cc)
numbers_inj (x ∷ a) (y ∷ b) e =
    let h : x ≡ y = same_range x y (cc) (cc) (cc) (cc) in
    let t : a ≡ b = numbers_inj a b (cc) in
    cc

-- the rows that were laid
pub laid_rows_lem : (l : List Range) (t : List ℕ) → ranges_at (numbers_of l ++ t) 0 (length l) ≡ l
laid_rows_lem l t =
    let z : 0 * 4 + length l * 4 ≤ length (numbers_of l ++ t) = omega (arith, length-append (numbers_of l) t, length_numbers l) in
    numbers_inj _ _ (numbers_rows (numbers_of l ++ t) 0 (length l) z ∙ take_at (numbers_of l) t (length l * 4) (length_numbers l))

-- its own rows laid over a table leave it as it was
pub laid_same : (t : List ℕ) (n : ℕ) → n * 4 ≤ length t → laid_ranges (ranges_at t 0 n) t ≡ t
laid_same t n h =
    rw (length_rows t 0 n, numbers_rows t 0 n (omega arith)) (take-append-drop (n * 4) t)

pub length_laid : (l : List Range) (t : List ℕ) → length l * 4 ≤ length t → length (laid_ranges l t) ≡ length t
length_laid l t h = omega (arith, length-append (numbers_of l) (drop (length l * 4) t), length_numbers l, length-drop (length l * 4) t)
