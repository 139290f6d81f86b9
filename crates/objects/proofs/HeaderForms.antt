-- The form in which a header is written, and how many bytes it takes.
-- Assumes nothing.
use mathlib.Core.Path.{◌≡◌, ◌∙◌}
use mathlib.Core.Bool.{Bool, true, false}
use mathlib.Core.List.{◌++◌}
use Prim.Native.Nat.{ℕ, ◌+◌, ◌*◌, ◌^◌, ◌≤◌, ◌<◌}
use native.Mathlib.Omega.{arith}
use lib.ListN.{length, length-append}
use lib.Dec.{ltb}
use borrow.Author.Tests.{lt-ltb, le-ltb, ltb-true}
use Rattle.laws.specs.Pick.{pick}
use Rattle.laws.specs.Bytes.{bytes}
use Rattle.laws.proofs.Cases.{by_bool, by_lt, impossible}
use Rattle.laws.proofs.Numbers.{length_bytes}
use Rattle.numbers.specs.Compact.{compact_bytes}
use Rattle.objects.specs.Header.{escape, start_number, long_start, start_bytes, end_bytes}

-- ---- starts

-- 16 bits have room for the type and the length
abbrev pub short_start : ℕ → ℕ → Bool
short_start k n = pick (ltb k 64) (ltb n 128) false

pub short_bounds : (k n : ℕ) → short_start k n ≡ true → (k < 64) × (n < 128)
short_bounds k n e =
    by_lt k 64
    (λ h. (h, ltb-true n 128 (rw (lt-ltb k 64 h) at e)))
    (λ h. let x : false ≡ true = rw (le-ltb k 64 h) at e in impossible (cc))

long_length : (k n : ℕ) → 128 ≤ n → short_start k n ≡ false
long_length k n h = by_bool (ltb k 64) (λ e. rw (e, le-ltb n 128 h)) (λ e. rw e)

pub start_short : (k : ℕ) (c : Bool) (n : ℕ) → short_start k n ≡ true → start_bytes k c n ≡ bytes 2 (start_number 0 (2 ^ 6) c k n)
unfolding start_bytes
start_short k c n e = let b = short_bounds k n e in rw (lt-ltb k 64 b.0, lt-ltb n 128 b.1)

pub start_long : (k : ℕ) (c : Bool) (n : ℕ) → short_start k n ≡ false → start_bytes k c n ≡ long_start k c n
unfolding start_bytes
start_long k c n e = by_bool (ltb k 64) (λ a. rw (a, rw a at e)) (λ a. rw a)

-- the length stands in the header
pub long_own : (k : ℕ) (c : Bool) (n : ℕ) → n < escape → long_start k c n ≡ bytes 4 (start_number 2 (2 ^ 14) c k n)
unfolding long_start
long_own k c n h = rw (lt-ltb n escape h)

-- it stands behind the header
pub long_behind : (k : ℕ) (c : Bool) (n : ℕ) → escape ≤ n → long_start k c n ≡ bytes 4 (start_number 2 (2 ^ 14) c k escape) ++ compact_bytes n
unfolding long_start
long_behind k c n h = rw (le-ltb n escape h)

-- the three forms of a start, as they are written: 16 bits, 32 bits, and 32 bits with the true length behind
pub by_start : {P : Type 0} (k n : ℕ)
    → (short_start k n ≡ true → k < 64 → n < 128 → ((c : Bool) → start_bytes k c n ≡ bytes 2 (start_number 0 (2 ^ 6) c k n)) → P)
    → (short_start k n ≡ false → n < escape → ((c : Bool) → start_bytes k c n ≡ bytes 4 (start_number 2 (2 ^ 14) c k n)) → P)
    → (short_start k n ≡ false → escape ≤ n → ((c : Bool) → start_bytes k c n ≡ bytes 4 (start_number 2 (2 ^ 14) c k escape) ++ compact_bytes n) → P)
    → P
by_start k n short own behind =
    by_bool (short_start k n)
    (λ e. let b = short_bounds k n e in short e b.0 b.1 (λ c. start_short k c n e))
    (λ e.
    by_lt n escape
    (λ h. own e h (λ c. start_long k c n e ∙ long_own k c n h))
    (λ h. behind e h (λ c. start_long k c n e ∙ long_behind k c n h)))

-- ---- how long a start is, whatever its compound bit

pub length_short : (k : ℕ) (c : Bool) (n : ℕ) → short_start k n ≡ true → length (start_bytes k c n) ≡ 2
length_short k c n e = rw (start_short k c n e) (length_bytes 2 (start_number 0 (2 ^ 6) c k n))

pub length_own : (k : ℕ) (c : Bool) (n : ℕ) → short_start k n ≡ false → n < escape → length (start_bytes k c n) ≡ 4
length_own k c n e h = rw (start_long k c n e, long_own k c n h) (length_bytes 4 (start_number 2 (2 ^ 14) c k n))

pub length_behind : (k : ℕ) (c : Bool) (n : ℕ) → escape ≤ n → length (start_bytes k c n) ≡ 4 + length (compact_bytes n)
length_behind k c n h =
    let l : 128 ≤ n = omega arith in
    rw (start_long k c n (long_length k n l), long_behind k c n h) (simp (length-append, length_bytes))

-- ---- ends

pub end_short : (k : ℕ) → k < 64 → end_bytes k ≡ bytes 1 (1 + k * 4)
unfolding end_bytes
end_short k h = rw (lt-ltb k 64 h)

pub end_long : (k : ℕ) → 64 ≤ k → end_bytes k ≡ bytes 2 (3 + k * 4)
unfolding end_bytes
end_long k h = rw (le-ltb k 64 h)

pub length_end_short : (k : ℕ) → k < 64 → length (end_bytes k) ≡ 1
length_end_short k h = rw (end_short k h) (length_bytes 1 (1 + k * 4))

pub length_end_long : (k : ℕ) → 64 ≤ k → length (end_bytes k) ≡ 2
length_end_long k h = rw (end_long k h) (length_bytes 2 (3 + k * 4))
