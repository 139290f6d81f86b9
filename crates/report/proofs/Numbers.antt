-- The report: numbers written one behind the other.
-- Assumes nothing.
use mathlib.Core.Path.{◌≡◌, refl, sym, ap, ◌∙◌}
use mathlib.Core.List.{List, [], ◌∷◌, ◌++◌, append_assoc, append-nil}
use Prim.Native.Nat.{ℕ, ◌+◌, ◌*◌, ◌/◌, ◌≤◌, ◌<◌}
use native.Mathlib.Numerals.{add-one}
use native.Mathlib.Omega.{arith}
use lib.ListN.{length, take, get_or, length-append}
use lib.Seq.{take-suc, length-take-le}
use Rattle.laws.specs.Bytes.{bytes}
use Rattle.laws.specs.Placed.{placed, Lays}
use Rattle.laws.proofs.Numbers.{length_bytes}
use Rattle.laws.proofs.Placing.{lays_then, placed_fits, placed_short}
use Rattle.report.specs.Report.{numbers_bytes}

-- ---- numbers, one behind the other

pub length_numbers : (l : List ℕ) → length (numbers_bytes l) ≡ length l * 8
unfolding numbers_bytes
length_numbers [] = refl
length_numbers (x ∷ xs) =
    length-append (bytes 8 x) (numbers_bytes xs) ∙ (let a = length_bytes 8 x in let b = length_numbers xs in omega arith)

numbers_append : (a b : List ℕ) → numbers_bytes (a ++ b) ≡ numbers_bytes a ++ numbers_bytes b
unfolding numbers_bytes
numbers_append [] b = refl
numbers_append (x ∷ a) b = ap (λ (w : List ℕ). bytes 8 x ++ w) (numbers_append a b) ∙ sym (append_assoc (bytes 8 x) (numbers_bytes a) (numbers_bytes b))

numbers_one : (x : ℕ) → numbers_bytes (x ∷ []) ≡ bytes 8 x
unfolding numbers_bytes
numbers_one x = append-nil (bytes 8 x)

numbers_more : (l : List ℕ) (i : ℕ) → i < length l → numbers_bytes (take (i + 1) l) ≡ numbers_bytes (take i l) ++ bytes 8 (get_or l i 0)
numbers_more l i h =
    rw (add-one, take-suc l i 0 h) (numbers_append (take i l) (get_or l i 0 ∷ []) ∙ rw (numbers_one (get_or l i 0)))

-- one number more, where the first i were laid at the front
pub numbers_then : (l s : List ℕ) (i p : ℕ) (d : List ℕ) (q : ℕ) (e : List ℕ) → i < length l → length l * 8 ≤ length s → Lays 0 (numbers_bytes (take i l)) s p d
    → Lays p (bytes 8 (get_or l i 0)) d q e → Lays 0 (numbers_bytes (take (i + 1) l)) s q e
numbers_then l s i p d q e h g a b =
    rw (numbers_more l i h)
    (lays_then 0 (numbers_bytes (take i l)) (bytes 8 (get_or l i 0)) s p d q e
    (let m = length_numbers (take i l) in let n = length_bytes 8 (get_or l i 0) in let k = length-take-le i l (omega arith) in omega arith) a b)

-- a report that is too short for all of them is left alone
pub numbers_short : (l s : List ℕ) → length s / 8 < length l → placed (numbers_bytes l) s ≡ s
numbers_short l s h = placed_short (numbers_bytes l) s (let m = length_numbers l in omega arith)

-- all of them at the front
pub numbers_placed : (l s : List ℕ) (p : ℕ) (d : List ℕ) → length l * 8 ≤ length s → Lays 0 (numbers_bytes l) s p d → d ≡ placed (numbers_bytes l) s
numbers_placed l s p d h e =
    let m = length_numbers l in
    let n : 0 + length (numbers_bytes l) ≡ length (numbers_bytes l) = omega arith in
    e.1 ∙ rw n (sym (placed_fits (numbers_bytes l) s (omega arith)))
