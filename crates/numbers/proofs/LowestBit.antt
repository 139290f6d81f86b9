-- The lowest set bit tells the form: a number with the bits of form k reads as form k, and a number is what its lowest set bit
-- marks. Each law is over the width.
-- Assumes nothing.
use mathlib.Core.Path.{◌≡◌, refl, ap, ◌∙◌}
use Prim.Native.Nat.{ℕ, zero, suc, ◌+◌, ◌*◌, ◌/◌, ◌%◌, ◌^◌, ◌<◌, suc-le-suc}
use native.Mathlib.Nat.{pow-suc, pow-succ', zero-lt-suc, mul_assoc, add-mul, div-div-eq-div-mul}
use native.Mathlib.Numerals.{add-one}
use native.Mathlib.Omega.{arith}
use lib.Arith.{digits_div}
use lib.Count.{count_trailing_zeros, under, trailing_of_zero}
use lib.Pow.{pow-lt, mod-mod-pow, field}
use Rattle.laws.proofs.Cases.{by_eq}
use Rattle.numbers.specs.Compact.{with_form}

under_lt : (d t f : ℕ) → (d ≡ 0 → t < f) → under d t < suc f
under_lt zero t f h = suc-le-suc (h refl)
under_lt (suc d) t f h = zero-lt-suc f

-- a number of f bits that is not 0 has a set bit
pub zeros_lt : (f b : ℕ) → b < 2 ^ f → (b ≡ 0 → ⊥) → count_trailing_zeros f b < f
unfolding count_trailing_zeros
zeros_lt zero b h n = absurd (n (omega arith))
zeros_lt (suc f) b h n =
    let p : b < 2 ^ f * 2 = rw pow-suc at h in
    under_lt (b % 2) (count_trailing_zeros f (b / 2)) f (λ e. zeros_lt f (b / 2) (omega arith) (λ z. n (omega arith)))

-- and one with a set bit is not 0
pub zeros_not_zero : (f b : ℕ) → count_trailing_zeros f b < f → b ≡ 0 → ⊥
zeros_not_zero f b h e = let z : count_trailing_zeros f b ≡ f = ap (count_trailing_zeros f) e ∙ trailing_of_zero f in omega arith

-- only the low bits count
pub zeros_mod : (f x : ℕ) → count_trailing_zeros f (x % 2 ^ f) ≡ count_trailing_zeros f x
unfolding count_trailing_zeros
zeros_mod zero x = refl
zeros_mod (suc f) x =
    let a : x % 2 ^ suc f % 2 ≡ x % 2 = rw add-one at (mod-mod-pow x f 1) in
    let b : x % 2 ^ suc f / 2 ≡ x / 2 % 2 ^ f = rw add-one at (field x f 1) in
    rw (a, b, zeros_mod f (x / 2))

pub with_form_suc : (k v : ℕ) → with_form (suc k) v ≡ with_form k v * 2
unfolding with_form
with_form_suc k v = rw (add-one, add-one, pow-suc 2 (suc k), pow-suc 2 k, add-mul, mul_assoc v (2 ^ k * 2) 2)

with_form_zero : (v : ℕ) → with_form 0 v ≡ v * 2 + 1
unfolding with_form
with_form_zero v = refl

pub with_form_value : (k v : ℕ) → with_form k v / 2 ^ (k + 1) ≡ v
unfolding with_form
with_form_value k v = digits_div v (pow-lt (omega arith))

pub zeros_with_form : (f k v : ℕ) → k < f → count_trailing_zeros f (with_form k v) ≡ k
unfolding count_trailing_zeros
zeros_with_form zero k v h = absurd (omega arith)
zeros_with_form (suc f) zero v h =
    let e : with_form 0 v % 2 ≡ 1 = rw with_form_zero (omega arith) in
    rw e
zeros_with_form (suc f) (suc k) v h =
    let a : with_form k v * 2 % 2 ≡ 0 = omega arith in
    let b : with_form k v * 2 / 2 ≡ with_form k v = omega arith in
    rw (with_form_suc, a, b) (ap suc (zeros_with_form f k v (omega arith)))

pub zeros_low : (f x : ℕ) → count_trailing_zeros f x < f → x ≡ with_form (count_trailing_zeros f x) (x / 2 ^ (count_trailing_zeros f x + 1))
unfolding count_trailing_zeros
zeros_low zero x h = absurd (omega arith)
zeros_low (suc f) x h =
    by_eq (x % 2) 0
    (λ e.
    let t = count_trailing_zeros f (x / 2) in
    let h' : suc t < suc f = rw e at h in
    let r : x / 2 ≡ with_form t (x / 2 / 2 ^ (t + 1)) = zeros_low f (x / 2) (omega arith) in
    let q : x / 2 ^ (suc t + 1) ≡ x / 2 / 2 ^ (t + 1) = rw (add-one, add-one, pow-succ' 2 (suc t), div-div-eq-div-mul) in
    rw (e, q, with_form_suc, ← r) (omega arith))
    (λ n. let o : x % 2 ≡ 1 = omega arith in rw (o, with_form_zero) (omega arith))
