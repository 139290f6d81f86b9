-- The compact forms, each law over the form k: how long it is, which values it has, how the code reads and counts it, and what
-- it writes for it.
-- Assumes nothing.
use mathlib.Core.Path.{◌≡◌, refl, ap, ◌∙◌}
use mathlib.Core.List.{List, [], ◌∷◌, ◌++◌}
use Prim.Native.Nat.{ℕ, zero, suc, ◌+◌, ◌-◌, ◌*◌, ◌/◌, ◌%◌, ◌^◌, ◌≤◌, ◌<◌, suc-le-suc}
use native.Mathlib.Nat.{pow-suc, pow-le-pow_right, one-le-pow, zero-lt-suc, add-zero, mul-suc, mul-mul-mul_comm, div-lt_iff_lt-mul}
use native.Mathlib.Numerals.{add-one}
use native.Mathlib.Omega.{arith}
use lib.ListN.{length, take, drop, set, length-take}
use lib.Arith.{digits_div, digits_mod, digits_lt}
use lib.Dec.{lit<}
use lib.Pow.{pow-lt, pow-add, pow_pos}
use borrow.Author.Tests.{eq-eqb, ne_eqb, lt-ltb, le-ltb}
use Rattle.laws.specs.Bytes.{AllBytes, le, bytes}
use Rattle.laws.proofs.Cases.{by_lt, by_eq}
use Rattle.laws.proofs.Numbers.{shl_one, length_bytes, le_lt, le_split, take_bytes, drop_bytes}
use Rattle.numbers.specs.Compact.{size_of, compact_value, form_from, form_of, with_form, compact_bytes}

-- ---- how long a form is

pub size_long : (k : ℕ) → k ≡ 7 → size_of k ≡ 9
unfolding size_of
size_long k e = simp (eq-eqb k 7 e)

pub size_short : (k : ℕ) → (k ≡ 7 → ⊥) → size_of k ≡ k + 1
unfolding size_of
size_short k n = simp (ne_eqb k 7 n)

pub size_le : (k : ℕ) → k ≤ 7 → size_of k ≤ 9
size_le k h = by_eq k 7 (λ e. rw (size_long k e) (omega arith)) (λ n. rw (size_short k n) (omega arith))

pub size_over : (k : ℕ) → k + 1 ≤ size_of k
size_over k = by_eq k 7 (λ e. rw (size_long k e) (omega arith)) (λ n. rw (size_short k n) (omega arith))

pub size_pos : (k : ℕ) → 0 < size_of k
size_pos k = omega (arith, size_over k)

-- ---- the value in a form

-- 256 is 128 twice, to any power
pow_bytes : (k : ℕ) → 256 ^ k ≡ 128 ^ k * 2 ^ k
pow_bytes zero = refl
pow_bytes (suc k) = rw (pow-suc 256 k, pow-suc 128 k, pow-suc 2 k, pow_bytes k) (mul-mul-mul_comm (128 ^ k) (2 ^ k) 128 2)

-- the number of a short form is below the next form's least value
pub value_lt : (k : ℕ) (s : List ℕ) → AllBytes s → (k ≡ 7 → ⊥) → compact_value k s < 128 ^ suc k
unfolding compact_value
value_lt k s b n =
    let p : le (take (k + 1) s) < 256 ^ (k + 1) = le_lt (k + 1) (take (k + 1) s) (simp length-take (omega arith)) (take_bytes (k + 1) s b) in
    let q : 256 ^ (k + 1) ≡ 128 ^ suc k * 2 ^ (k + 1) = rw (pow_bytes (k + 1), add-one) in
    rw (size_short k n) ((div-lt_iff_lt-mul (pow_pos (k + 1))).1 (omega arith))

-- what any form holds fits 64 bits
pub value_fits : (k : ℕ) (s : List ℕ) → AllBytes s → k < 8 → compact_value k s < 2 ^ 64
unfolding compact_value size_of
value_fits k s b h =
    by_eq k 7
    (λ e.
    let l : le (take 9 s) < 256 ^ 9 = le_lt 9 (take 9 s) (simp length-take (omega arith)) (take_bytes 9 s b) in
    rw e (omega (arith, l)))
    (λ n.
    let m : 128 ^ suc k ≤ 128 ^ 7 = pow-le-pow_right {n = 128} (lit< tt) {i = suc k} {j = 7} (omega arith) in
    omega (arith, value_lt k s b n, m))

-- the number of k + 1 bytes without its low bits, and over it the ninth, as the code computes it
long_parts : (s : List ℕ) → AllBytes s → le (take 8 s) / 2 ^ 8 + (le (take 1 (drop 8 s)) * 2 ^ 56) % 2 ^ 64 ≡ compact_value 7 s
unfolding compact_value size_of
long_parts s b =
    let ninth : le (take 1 (drop 8 s)) < 256 ^ 1 =
    le_lt 1 (take 1 (drop 8 s)) (simp length-take (omega arith)) (take_bytes 1 (drop 8 s) (drop_bytes 8 s b)) in
    omega (arith, ninth, le_split 8 1 s)

pub value_parts : (k n : ℕ) (s : List ℕ) → AllBytes s → k ≤ 7 → n ≡ size_of k
    → le (take (k + 1) s) / 2 ^ (k + 1) + (le (take (n - (k + 1)) (drop (k + 1) s)) * 2 ^ 56) % 2 ^ 64 ≡ compact_value k s
unfolding compact_value le
value_parts k n s b h z =
    by_eq k 7
    (λ e. let nine : n ≡ 9 = z ∙ size_long k e in rw (nine, e) (long_parts s b))
    (λ o.
    let none : n - (k + 1) ≡ 0 = omega (arith, size_short k o) in
    rw (none, size_short k o) (add-zero (le (take (k + 1) s) / 2 ^ (k + 1))))

-- ---- the form's least value, as the code computes it

pub pow_seven : (k : ℕ) → 2 ^ (7 * k) ≡ 128 ^ k
pow_seven zero = refl
pow_seven (suc k) = rw (mul-suc, pow-add, pow-suc 128 k, pow_seven k)

pub least_shl : (k : ℕ) → k ≤ 7 → (1 * 2 ^ (7 * k)) % 2 ^ 64 ≡ 128 ^ k
least_shl k h = shl_one (7 * k) (omega arith) ∙ pow_seven k

-- ---- the form of a value

-- by its bounds
pub form_is : (f k v : ℕ) → k ≤ f → (0 < k → 128 ^ k ≤ v) → (k < f → v < 128 ^ suc k) → form_from f v ≡ k
unfolding form_from
form_is zero zero v b lo hi = refl
form_is zero (suc k) v b lo hi = absurd (omega arith)
form_is (suc f) zero v b lo hi = simp (lt-ltb v 128 (hi (zero-lt-suc f)))
form_is (suc f) (suc k) v b lo hi =
    let l : 128 ^ k * 128 ≤ v = rw (pow-suc 128 k) at (lo (zero-lt-suc k)) in
    let p : 1 ≤ 128 ^ k = one-le-pow k 128 (lit< tt) in
    let g : 128 ≤ v = omega arith in
    simp (le-ltb v 128 g)
    (ap suc
    (form_is f k (v / 128) (omega arith) (λ z. omega arith)
    (λ z. let h : v < 128 ^ suc k * 128 = rw (pow-suc 128 (suc k)) at (hi (omega arith)) in omega arith)))

form_le : (f v : ℕ) → form_from f v ≤ f
unfolding form_from
form_le zero v = omega arith
form_le (suc f) v =
    by_lt v 128 (λ h. simp (lt-ltb v 128 h) (omega arith)) (λ h. simp (le-ltb v 128 h) (suc-le-suc (form_le f (v / 128))))

pub form_of_le : (v : ℕ) → form_of v ≤ 7
unfolding form_of
form_of_le v = form_le 7 v

-- below the last form, the form holds the value
form_most : (f v : ℕ) → form_from f v < f → v < 128 ^ suc (form_from f v)
unfolding form_from
form_most zero v h = absurd (omega arith)
form_most (suc f) v h =
    by_lt v 128 (λ l. simp (lt-ltb v 128 l) l)
    (λ l.
    let h' : suc (form_from f (v / 128)) < suc f = simp (le-ltb v 128 l) at h in
    let r : v / 128 < 128 ^ suc (form_from f (v / 128)) = form_most f (v / 128) (omega arith) in
    simp (le-ltb v 128 l) (rw (pow-suc 128 (suc (form_from f (v / 128)))) (omega arith)))

pub form_of_most : (v : ℕ) → form_of v < 7 → v < 128 ^ suc (form_of v)
unfolding form_of
form_of_most v h = form_most 7 v h

-- no lower form does
form_least : (f v : ℕ) → 0 < v → 128 ^ form_from f v ≤ v
unfolding form_from
form_least zero v h = h
form_least (suc f) v h =
    by_lt v 128 (λ l. simp (lt-ltb v 128 l) h)
    (λ l.
    let r : 128 ^ form_from f (v / 128) ≤ v / 128 = form_least f (v / 128) (omega arith) in
    simp (le-ltb v 128 l) (rw (pow-suc 128 (form_from f (v / 128))) (omega arith)))

pub form_of_least : (v : ℕ) → (v ≡ 0 → ⊥) → 128 ^ form_of v ≤ v
unfolding form_of
form_of_least v n = form_least 7 v (omega arith)

-- as the code counts it: one form further where 128 or more is left and the last form is not reached
pub form_more : (k rest : ℕ) → k < 7 → 128 ≤ rest → k + form_from (7 - k) rest ≡ (k + 1) + form_from (7 - (k + 1)) (rest / 128)
unfolding form_from
form_more k rest h l =
    let e : 7 - k ≡ suc (7 - (k + 1)) = omega arith in
    rw (e, le-ltb rest 128 l) (omega arith)

pub form_no_more : (f rest : ℕ) → rest < 128 → form_from f rest ≡ 0
unfolding form_from
form_no_more zero rest h = refl
form_no_more (suc f) rest h = rw (lt-ltb rest 128 h)

-- ---- the number that stands for a value

-- as the code computes it
pub with_form_shl : (k v : ℕ) → k < 64 → v * ((1 * 2 ^ k) % 2 ^ 64 * 2) + (1 * 2 ^ k) % 2 ^ 64 ≡ with_form k v
unfolding with_form
with_form_shl k v h = rw (shl_one k h, add-one, pow-suc 2 k)

-- of fewer than eight bytes, it fits the code's word
pub with_form_short : (k v : ℕ) → k ≤ 7 → (k ≡ 7 → ⊥) → with_form k v < 256 ^ size_of k → with_form k v < 256 ^ 7
with_form_short k v h n b =
    let p : with_form k v < 256 ^ (k + 1) = rw (size_short k n) at b in
    let q : 256 ^ (k + 1) ≤ 256 ^ 7 = pow-le-pow_right {n = 256} (lit< tt) {i = k + 1} {j = 7} (omega arith) in
    omega arith

-- the long form is a byte 128 and then the value
pub long_put : (d : List ℕ) (v : ℕ) → 9 ≤ length d
    → take 1 (set d 0 128) ++ (bytes 8 v ++ drop 8 (drop 1 (set d 0 128))) ≡ bytes 9 (with_form 7 v) ++ drop 9 d
unfolding bytes with_form
long_put [] v h = absurd (omega arith)
long_put (y ∷ d) v h = rw (digits_mod v {m = 256} {r = 128} (lit< tt), digits_div v {m = 256} {r = 128} (lit< tt))

-- the number of a value fits its form's bytes
pub with_form_lt : (v : ℕ) → v < 2 ^ 64 → with_form (form_of v) v < 256 ^ size_of (form_of v)
unfolding with_form
with_form_lt v h =
    let k = form_of v in
    by_eq k 7
    (λ e. rw (size_long k e, e) (omega arith))
    (λ n.
    let b : v < 128 ^ suc k = form_of_most v (omega (arith, form_of_le v)) in
    let p : 2 ^ k < 2 ^ (k + 1) = pow-lt (omega arith) in
    rw (size_short k n, pow_bytes (k + 1)) (digits_lt (rw add-one b) p))

-- ---- what is written

pub compact_is : (v : ℕ) → (v ≡ 0 → ⊥) → compact_bytes v ≡ bytes (size_of (form_of v)) (with_form (form_of v) v)
unfolding compact_bytes
compact_is v n = simp (ne_eqb v 0 n)

pub length_compact : (v : ℕ) → (v ≡ 0 → ⊥) → length (compact_bytes v) ≡ size_of (form_of v)
length_compact v n = ap length (compact_is v n) ∙ length_bytes (size_of (form_of v)) (with_form (form_of v) v)
