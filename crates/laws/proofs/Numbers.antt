-- Numbers and their bytes, over any width.
-- Assumes nothing.
use mathlib.Core.Path.{◌≡◌, refl, ap, ◌∙◌}
use mathlib.Core.List.{List, [], ◌∷◌, ◌++◌}
use Prim.Native.Nat.{ℕ, zero, suc, ◌+◌, ◌-◌, ◌*◌, ◌/◌, ◌%◌, ◌^◌, ◌≤◌, ◌<◌}
use native.Mathlib.Nat.{zero-add, suc-add, zero-mul, mul-one, one-mul, mul_assoc, pow-suc, pow-succ', one-le-pow, div-one, div-div-eq-div-mul}
use native.Mathlib.Numerals.{sub-one}
use native.Mathlib.Omega.{arith}
use lib.ListN.{length, get_or, take, drop, set}
use lib.Seq.{take-nil, drop-cons, get_or-drop}
use lib.Dec.{lit<}
use lib.Arith.{digits_div, digits_mod}
use lib.Pow.{shl_exact}
use Rattle.laws.specs.Bytes.{AllBytes, le, bytes}

-- ---- bytes

pub drop_bytes : (n : ℕ) (l : List ℕ) → AllBytes l → AllBytes (drop n l)
drop_bytes n l h i = rw get_or-drop (h (n + i))

pub take_bytes : (n : ℕ) (l : List ℕ) → AllBytes l → AllBytes (take n l)
take_bytes zero l h i = lit< tt
take_bytes (suc n) [] h i = lit< tt
take_bytes (suc n) (b ∷ l) h zero = h 0
take_bytes (suc n) (b ∷ l) h (suc i) = take_bytes n l (λ j. h (suc j)) i

pub bytes_bytes : (n x : ℕ) → AllBytes (bytes n x)
unfolding bytes
bytes_bytes zero x i = lit< tt
bytes_bytes (suc n) x zero = omega arith
bytes_bytes (suc n) x (suc i) = bytes_bytes n (x / 256) i

pub length_bytes : (n x : ℕ) → length (bytes n x) ≡ n
unfolding bytes
length_bytes zero x = refl
length_bytes (suc n) x = ap suc (length_bytes n (x / 256))

-- ---- there and back

-- a number of at most m bytes
pub le_lt : (m : ℕ) (l : List ℕ) → length l ≤ m → AllBytes l → le l < 256 ^ m
unfolding le
le_lt m [] h b = one-le-pow m 256 (lit< tt)
le_lt zero (x ∷ l) h b = absurd (omega arith)
le_lt (suc m) (x ∷ l) h b =
    let r : le l < 256 ^ m = le_lt m l (omega arith) (λ j. b (suc j)) in
    rw pow-suc (omega (arith, b 0))

-- the number of the first a bytes, and over it that of the m behind them
pub le_split : (a m : ℕ) (s : List ℕ) → le (take (a + m) s) ≡ le (take a s) + le (take m (drop a s)) * 256 ^ a
unfolding le
le_split zero m s = rw (zero-add m, zero-add, mul-one)
le_split (suc a) m [] = rw (suc-add a m, take-nil m, zero-mul)
le_split (suc a) m (b ∷ s) =
    let x = le (take m (drop a s)) in
    let p : x * 256 ^ suc a ≡ x * 256 ^ a * 256 = rw (pow-suc 256 a, mul_assoc) in
    rw (suc-add a m, le_split a m s, p) (omega arith)

pub le_bytes : (n x : ℕ) → x < 256 ^ n → le (bytes n x) ≡ x
unfolding le bytes
le_bytes zero x h = omega arith
le_bytes (suc n) x h =
    let p : x < 256 ^ n * 256 = rw pow-suc at h in
    rw (le_bytes n (x / 256) (omega arith)) (omega arith)

pub bytes_le : (l : List ℕ) → AllBytes l → bytes (length l) (le l) ≡ l
unfolding le bytes
bytes_le [] h = refl
bytes_le (b ∷ l) h =
    rw (digits_mod (le l) {m = 256} {r = b} (h 0), digits_div (le l) {m = 256} {r = b} (h 0), bytes_le l (λ i. h (suc i)))

-- ---- one byte more, below or above

pub le_step : (l : List ℕ) (i : ℕ) → 0 < i → i ≤ length l → le (drop (i - 1) l) ≡ le (drop i l) * 256 + get_or l (i - 1) 0
unfolding le
le_step l zero p h = absurd (omega arith)
le_step l (suc j) p h = simp sub-one (rw (drop-cons l j 0 h))

pub put_step : (i x : ℕ) (d : List ℕ) → i < length d
    → set (bytes i x ++ drop i d) i (x / 256 ^ i % 256) ≡ bytes (suc i) x ++ drop (suc i) d
unfolding bytes
put_step zero x [] h = absurd (omega arith)
put_step zero x (y ∷ d) h = rw div-one
put_step (suc i) x [] h = absurd (omega arith)
put_step (suc i) x (y ∷ d) h =
    rw (pow-succ' 256 i, ← div-div-eq-div-mul x 256 (256 ^ i))
    (ap (λ (l : List ℕ). x % 256 ∷ l) (put_step i (x / 256) d (omega arith)))

-- ---- the first byte

pub first_byte : (n x : ℕ) (t : List ℕ) → 0 < n → get_or (bytes n x ++ t) 0 0 ≡ x % 256
unfolding bytes
first_byte zero x t h = absurd (omega arith)
first_byte (suc n) x t h = refl

pub low_byte : (n : ℕ) (l : List ℕ) → AllBytes l → 0 < n → le (take n l) % 256 ≡ get_or l 0 0
unfolding le
low_byte zero l h p = absurd (omega arith)
low_byte (suc n) [] h p = refl
low_byte (suc n) (b ∷ l) h p = digits_mod (le (take n l)) (h 0)

-- `1 << k` of the code
pub shl_one : (k : ℕ) → k < 64 → (1 * 2 ^ k) % 2 ^ 64 ≡ 2 ^ k
shl_one k h = shl_exact 1 k 64 (lit< tt) (omega arith) ∙ one-mul (2 ^ k)
