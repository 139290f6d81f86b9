-- The rows of the working table of ranges copied as rows of the lent table, one more at a turn.
-- Assumes nothing.
use mathlib.Core.Path.{◌≡◌, refl, ap, ◌∙◌}
use mathlib.Core.List.{List, [], ◌∷◌, ◌++◌}
use Prim.Native.Nat.{ℕ, ◌+◌, ◌*◌}
use native.Mathlib.Omega.{arith}
use lib.ListN.{length, take, drop}
use lib.Seq.{drop-drop}
use Rattle.laws.proofs.Placing.{laid_behind}
use Rattle.talk.specs.declared.range.Range.{Range}
use Rattle.ranges.specs.RangeTable.{range_at, ranges_at}
use Rattle.ranges.proofs.RangeRows.{rows_more, length_rows}
use Rattle.pages.specs.Answer.{range_row, range_rows}

rows_append : (a b : List Range) → range_rows (a ++ b) ≡ range_rows a ++ range_rows b
unfolding range_rows
rows_append [] b = refl
rows_append (x ∷ a) b = ap (λ (l : List ℕ). range_row x ++ l) (rows_append a b)

pub length_range_rows : (l : List Range) → length (range_rows l) ≡ length l * 4
unfolding range_rows
length_range_rows [] = refl
length_range_rows (x ∷ l) = let e = length_range_rows l in omega arith

-- what stands in the lent table: k rows, and behind them its own numbers
abbrev pub copied : List ℕ → ℕ → List ℕ → List ℕ
copied t k to = range_rows (ranges_at t 0 k) ++ drop (k * 4) to

pub copied_none : (t to : List ℕ) → to ≡ copied t 0 to
unfolding range_rows ranges_at
copied_none t to = refl

pub copied_more : (t to₀ to to' : List ℕ) (k : ℕ) (x : Range) → to ≡ copied t k to₀ → x ≡ range_at t k
    → to' ≡ take (k * 4) to ++ (range_row x ++ drop (k * 4 + 4) to)
    → to' ≡ copied t (k + 1) to₀
unfolding range_rows
copied_more t to₀ to to' k x e f g =
    let w = range_rows (ranges_at t 0 k) in
    let l : length w ≡ k * 4 = length_range_rows (ranges_at t 0 k) ∙ ap (λ (m : ℕ). m * 4) (length_rows t 0 k) in
    let n : k * 4 + 4 ≡ (k + 1) * 4 = omega arith in
    let m : range_rows (ranges_at t 0 (k + 1)) ≡ w ++ range_row (range_at t k) = ap range_rows (rows_more t k) ∙ rows_append (ranges_at t 0 k) (range_at t k ∷ []) in
    let p : to' ≡ take (k * 4) (copied t k to₀) ++ (range_row (range_at t k) ++ drop 4 (drop (k * 4) (copied t k to₀))) = rw (drop-drop 4 (k * 4) (copied t k to₀)) (rw (f, e) at g) in
    let q : w ++ range_row (range_at t k) ++ drop 4 (drop (k * 4) to₀) ≡ copied t (k + 1) to₀ = rw (m, drop-drop 4 (k * 4) to₀, n) in
    p ∙ laid_behind w (range_row (range_at t k)) (drop (k * 4) to₀) (k * 4) 4 l ∙ q
