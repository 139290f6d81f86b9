-- The price of one serial number more, and the working table of ranges with it: how many bytes rows take, part by part, and what
-- stands in the table once elements were taken.
-- Assumes nothing.
use mathlib.Core.Path.{◌≡◌, sym, ap, ◌∙◌}
use mathlib.Core.List.{List, [], ◌∷◌, ◌++◌}
use Prim.Native.Nat.{ℕ, zero, suc, ◌+◌, ◌-◌, ◌*◌, ◌≤◌}
use native.Mathlib.Omega.{arith}
use lib.ListN.{length, take, drop, length-append}
use lib.Seq.{drop_at}
use borrow.Author.Tests.{le-leb}
use Rattle.talk.specs.Ranges.{absorb, insert}
use Rattle.talk.specs.declared.range.Range.{Range}
use Rattle.ranges.specs.RangeTable.{FirstNotBefore, range_at, ranges_at, numbers_of, laid_ranges, laid_in}
use Rattle.store.specs.KnowledgeWritten.{range_bytes, ranges_bytes}
use Rattle.store.specs.Held.{serial_range, ranges_with}
use Rattle.store.specs.declared.element.Element.{Element}
use Rattle.ranges.proofs.OneAnswers.{rows_before_one}
use Rattle.ranges.proofs.RangeRows.{insert_at, length_rows, add_done, laid_rows_lem}
use Rattle.store.proofs.KnowledgeLengths.{data_most, range_is}
use Rattle.pages.specs.Tables.{laid_with, laid_all, Priced}
use Rattle.pages.specs.declared.price.Price.{Price}

-- ---- how many bytes rows take

bytes_two : (a b : List Range) → length (ranges_bytes (a ++ b)) ≡ length (ranges_bytes a) + length (ranges_bytes b)
unfolding ranges_bytes
bytes_two [] b = omega arith
bytes_two (x ∷ a) b = omega (arith, length-append (range_bytes x) (ranges_bytes (a ++ b)), length-append (range_bytes x) (ranges_bytes a), bytes_two a b)

bytes_front : (x : Range) (l : List Range) → length (ranges_bytes (x ∷ l)) ≡ length (range_bytes x) + length (ranges_bytes l)
unfolding ranges_bytes
bytes_front x l = length-append (range_bytes x) (ranges_bytes l)

pub bytes_most : (l : List Range) → length (ranges_bytes l) ≤ 36 * length l
unfolding ranges_bytes
bytes_most [] = omega arith
bytes_most (x ∷ l) = omega (arith, length-append (range_bytes x) (ranges_bytes l), bytes_most l, range_is x, data_most x)

rows_two : (t : List ℕ) (k a b : ℕ) → ranges_at t k (a + b) ≡ ranges_at t k a ++ ranges_at t (k + a) b
unfolding ranges_at
rows_two t k zero b =
    let e : zero + b ≡ b = omega arith in
    let f : k + zero ≡ k = omega arith in
    rw (e, f)
rows_two t k (suc a) b =
    let e : suc a + b ≡ suc (a + b) = omega arith in
    let f : k + suc a ≡ suc k + a = omega arith in
    rw (e, f) (ap (λ (l : List Range). range_at t k ∷ l) (rows_two t (suc k) a b))

bytes_split : (t : List ℕ) (k i n : ℕ) → k ≤ i → i ≤ n
    → length (ranges_bytes (ranges_at t k (n - k))) ≡ length (ranges_bytes (ranges_at t k (i - k))) + length (ranges_bytes (ranges_at t i (n - i)))
bytes_split t k i n h g =
    let e : n - k ≡ (i - k) + (n - i) = omega arith in
    let f : k + (i - k) ≡ i = omega arith in
    rw (e, rows_two t k (i - k) (n - i), f) (bytes_two (ranges_at t k (i - k)) (ranges_at t i (n - i)))

-- the first rows, those from `at` up to `next`, and the others
pub bytes_parts : (t : List ℕ) (at next count : ℕ) → at ≤ next → next ≤ count
    → length (ranges_bytes (ranges_at t 0 count)) ≡ length (ranges_bytes (ranges_at t 0 at)) + (length (ranges_bytes (ranges_at t at (next - at))) + length (ranges_bytes (ranges_at t next (count - next))))
bytes_parts t at next count h g =
    let e : count - 0 ≡ count = omega arith in
    let f : at - 0 ≡ at = omega arith in
    let a = rw (e, f) at (bytes_split t 0 at count (omega arith) (omega arith)) in
    omega (arith, a, bytes_split t at next count h g)

pub rows_most : (t : List ℕ) (count : ℕ) → length (ranges_bytes (ranges_at t 0 count)) ≤ 36 * count
rows_most t count = rw (length_rows t 0 count) at (bytes_most (ranges_at t 0 count))

-- ---- the price of one more

pub price_law : (t : List ℕ) (count : ℕ) (x : Range) (p : Price) → FirstNotBefore t count x p.at → p.at ≤ p.next → p.next ≤ count
    → absorb x (ranges_at t p.at (count - p.at)) ≡ p.range ∷ ranges_at t p.next (count - p.next)
    → p.ranges ≡ p.at + 1 + (count - p.next)
    → p.spelled ≡ length (ranges_bytes (ranges_at t 0 count)) - length (ranges_bytes (ranges_at t p.at (p.next - p.at))) + length (range_bytes p.range)
    → Priced t count x p
price_law t count x p place h k meets ranges spelled =
    let f : insert x (ranges_at t 0 count) ≡ ranges_at t 0 p.at ++ (p.range ∷ ranges_at t p.next (count - p.next)) =
    insert_at t count x p.at place ∙ ap (λ (l : List Range). ranges_at t 0 p.at ++ l) meets in
    record {
      place = place;
      first = h;
      within = k;
      spread = ranges;
      form = f;
      counted = omega (arith, ap length f, length-append (ranges_at t 0 p.at) (p.range ∷ ranges_at t p.next (count - p.next)), length_rows t 0 p.at, length_rows t p.next (count - p.next));
      priced = omega (arith, ap (λ (l : List Range). length (ranges_bytes l)) f, bytes_two (ranges_at t 0 p.at) (p.range ∷ ranges_at t p.next (count - p.next)), bytes_front p.range (ranges_at t p.next (count - p.next)), bytes_parts t p.at p.next count h k);
    }

-- there is one price

abbrev price : ℕ → ℕ → Range → ℕ → ℕ → Price
price at next range ranges spelled = record { at = at; next = next; range = range; ranges = ranges; spelled = spelled }

same_price : {at at' next next' ranges ranges' spelled spelled' : ℕ} {x x' : Range} → at ≡ at' → next ≡ next' → x ≡ x' → ranges ≡ ranges' → spelled ≡ spelled'
    → price at next x ranges spelled ≡ price at' next' x' ranges' spelled'
same_price a b c d e = cc

pub priced_one : (t : List ℕ) (count : ℕ) (x : Range) (p q : Price) → Priced t count x p → Priced t count x q → p ≡ q
priced_one t count x p q f g =
    let a : p.at ≡ q.at = rows_before_one t count x p.at q.at f.place g.place in
    let l : p.range ∷ ranges_at t p.next (count - p.next) ≡ q.range ∷ ranges_at t q.next (count - q.next) =
    sym (drop_at (ranges_at t 0 p.at) _ p.at (length_rows t 0 p.at))
    ∙ ap (drop p.at) (sym f.form ∙ g.form)
    ∙ ap (λ (i : ℕ). drop i (ranges_at t 0 q.at ++ (q.range ∷ ranges_at t q.next (count - q.next)))) a
    ∙ drop_at (ranges_at t 0 q.at) _ q.at (length_rows t 0 q.at) in
    let n = ap length l in
    let b : p.next ≡ q.next = omega (arith, f.within, g.within, length_rows t p.next (count - p.next), length_rows t q.next (count - q.next)) in
    same_price a b (cc) (f.counted ∙ sym g.counted) (f.priced ∙ sym g.priced)

-- ---- the table with one more

pub laid_law : (t t' : List ℕ) (count : ℕ) (x : Range) (p : Price) → Priced t count x p → p.ranges * 4 ≤ length t
    → t' ≡ take (p.at * 4) t ++ (numbers_of (p.range ∷ ranges_at t p.next (count - p.next)) ++ drop (p.at * 4 + 4 + (count - p.next) * 4) t)
    → t' ≡ laid_ranges (insert x (ranges_at t 0 count)) t
laid_law t t' count x p q h d =
    let k : length (insert x (ranges_at t 0 count)) * 4 ≤ length t = omega (arith, q.counted) in
    let e : t' ≡ laid_in t (insert x (ranges_at t 0 count)) =
    (add_done t count p.at p.next p.range (insert x (ranges_at t 0 count)) q.form t' (omega (arith, q.spread)) d).1 in
    e ∙ simp (le-leb _ _ k)

-- ---- the table after elements were taken: its rows hold the ranges

pub rows_laid : (xs : List Element) (l : List Range) (t : List ℕ) → ranges_at t 0 (length l) ≡ l
    → ranges_at (laid_all xs l t) 0 (length (ranges_with l xs)) ≡ ranges_with l xs
unfolding laid_all ranges_with
rows_laid [] l t h = h
rows_laid (x ∷ xs) l t h =
    let l' = insert (serial_range x) l in
    rows_laid xs l' (laid_with x l t) (laid_rows_lem l' (drop (length l' * 4) t))
