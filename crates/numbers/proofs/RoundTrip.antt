-- Compact integers: what was written reads back without a mark, followed by anything; what is read without a mark is exactly what the
-- writer writes. Both over the form.
-- Assumes nothing.
use mathlib.Core.Path.{◌≡◌, refl, sym, ap, ◌∙◌}
use mathlib.Core.Logic.{◌≢◌}
use mathlib.Core.Bool.{Bool, true, false}
use mathlib.Core.List.{List, [], ◌∷◌, ◌++◌}
use Prim.Native.Nat.{ℕ, suc, ◌+◌, ◌/◌, ◌%◌, ◌^◌, ◌≤◌, ◌<◌}
use native.Mathlib.Nat.{one-le-pow}
use native.Mathlib.Omega.{arith}
use lib.ListN.{length, get_or, take, length-append}
use lib.Seq.{take_at, length-take-le}
use lib.Count.{count_trailing_zeros}
use lib.Dec.{lit<, ltb}
use borrow.Author.Tests.{eq-eqb, ne_eqb, lt-ltb, le-ltb, ltb-false}
use Rattle.laws.specs.Bytes.{AllBytes, le, bytes}
use Rattle.laws.proofs.Cases.{by_lt, by_eq, impossible}
use Rattle.laws.proofs.Numbers.{take_bytes, length_bytes, le_bytes, bytes_le, first_byte, low_byte}
use Rattle.numbers.specs.Refusals.{fault}
use Rattle.numbers.specs.Compact.{size_of, compact_value, read_form, read_compact, accepted, compact_for, form_of, with_form, compact_bytes}
use Rattle.numbers.specs.Results.Compact.{Compact, Refused, Value}
use Rattle.numbers.proofs.LowestBit.{zeros_lt, zeros_not_zero, zeros_mod, zeros_with_form, zeros_low, with_form_value}
use Rattle.numbers.proofs.Forms.{size_pos, form_is, form_of_le, form_of_least, with_form_lt, compact_is, length_compact, value_lt, value_fits}

-- ---- reading what was written

read_form_written : (k v : ℕ) (t : List ℕ) → with_form k v < 256 ^ size_of k
    → read_form k (bytes (size_of k) (with_form k v) ++ t) ≡ Value v (size_of k) (ltb v (128 ^ k))
unfolding read_form compact_value
read_form_written k v t b =
    let n = size_of k in
    let s = bytes n (with_form k v) ++ t in
    let h : n ≤ length s = rw (length-append, length_bytes) (omega arith) in
    let e : le (take n s) / 2 ^ (k + 1) ≡ v =
    rw (take_at (bytes n (with_form k v)) t n (length_bytes n (with_form k v)), le_bytes n (with_form k v) b) (with_form_value k v) in
    rw e (simp (le-ltb _ _ h))

zero_written : (t : List ℕ) → read_compact (compact_bytes 0 ++ t) ≡ Value 0 (length (compact_bytes 0)) false
unfolding read_compact compact_bytes
zero_written t = simp (ne_eqb (suc (length t)) 0 (omega arith))

pub read_written : (v : ℕ) → v < 2 ^ 64 → (t : List ℕ) → read_compact (compact_bytes v ++ t) ≡ Value v (length (compact_bytes v)) false
unfolding read_compact
read_written v h t =
    by_eq v 0
    (λ e. rw e (zero_written t))
    (λ n.
    let k = form_of v in
    let f : get_or (bytes (size_of k) (with_form k v) ++ t) 0 0 ≡ with_form k v % 2 ^ 8 = first_byte (size_of k) (with_form k v) t (size_pos k) in
    let z : count_trailing_zeros 8 (with_form k v % 2 ^ 8) ≡ k = zeros_mod 8 (with_form k v) ∙ zeros_with_form 8 k v (omega (arith, form_of_le v)) in
    let a : length (bytes (size_of k) (with_form k v) ++ t) ≢ 0 = rw (length-append, length_bytes) (omega (arith, size_pos k)) in
    let b : with_form k v % 2 ^ 8 ≢ 0 = zeros_not_zero 8 (with_form k v % 2 ^ 8) (omega (arith, z, form_of_le v)) in
    let r : read_form k (bytes (size_of k) (with_form k v) ++ t) ≡ Value v (size_of k) false =
    read_form_written k v t (with_form_lt v h) ∙ rw (le-ltb v (128 ^ k) (form_of_least v n)) in
    rw (length_compact v n, compact_is v n, f) (simp (ne_eqb _ _ a, ne_eqb _ _ b) (rw z r)))

-- whoever reads: what is written is never marked
pub written_unpadded : (padding : Bool) (v : ℕ) → v < 2 ^ 64 → (t : List ℕ)
    → compact_for padding (compact_bytes v ++ t) ≡ Value v (length (compact_bytes v)) false
unfolding compact_for
written_unpadded padding v h t = rw (read_written v h t)

-- ---- what is read is what is written for the value

pub value_read_fits : (s : List ℕ) (v n : ℕ) (padded : Bool) → AllBytes s → read_compact s ≡ Value v n padded → v < 2 ^ 64
unfolding read_compact read_form
value_read_fits s v n padded b e =
    by_eq (length s) 0
    (λ z. let x : Refused (fault 2) ≡ Value v n padded = rw (eq-eqb _ _ z) at e in impossible (cc))
    (λ z.
    by_eq (get_or s 0 0) 0
    (λ f. let x : Value 0 1 false ≡ Value v n padded = rw (ne_eqb _ _ z, eq-eqb _ _ f) at e in let q : 0 ≡ v = grind arith in rw (← q) (omega arith))
    (λ f.
    let k = count_trailing_zeros 8 (get_or s 0 0) in
    by_lt (length s) (size_of k)
    (λ l. let x : Refused (fault 2) ≡ Value v n padded = rw (ne_eqb _ _ z, ne_eqb _ _ f, lt-ltb _ _ l) at e in impossible (cc))
    (λ l.
    let x : Value (compact_value k s) (size_of k) (ltb (compact_value k s) (128 ^ k)) ≡ Value v n padded = rw (ne_eqb _ _ z, ne_eqb _ _ f, le-ltb _ _ l) at e in
    let q : compact_value k s ≡ v = grind arith in
    rw (← q) (value_fits k s b (zeros_lt 8 (get_or s 0 0) (b 0) f)))))

-- what a caller takes is what is there
pub accepted_value : (padding : Bool) (r : Compact) (v n : ℕ) (padded : Bool) → accepted padding r ≡ Value v n padded → r ≡ Value v n padded
accepted_value true (Value w m true) v n padded e = e
accepted_value false (Value w m true) v n padded e = impossible (cc)
accepted_value padding (Value w m false) v n padded e = e
accepted_value padding (Refused r) v n padded e = e

pub taken_fits : (padding : Bool) (s : List ℕ) (v n : ℕ) (padded : Bool) → AllBytes s → compact_for padding s ≡ Value v n padded → v < 2 ^ 64
unfolding compact_for
taken_fits padding s v n padded b e = value_read_fits s v n padded b (accepted_value padding (read_compact s) v n padded e)

value_written : (s : List ℕ) (k : ℕ) → AllBytes s → k ≡ count_trailing_zeros 8 (get_or s 0 0) → k < 8 → size_of k ≤ length s → 128 ^ k ≤ compact_value k s
    → take (size_of k) s ≡ compact_bytes (compact_value k s)
unfolding compact_value form_of
value_written s k b ek hk l m =
    let n = size_of k in
    let x = le (take n s) in
    let z : count_trailing_zeros 8 x ≡ k = sym (zeros_mod 8 x) ∙ ap (count_trailing_zeros 8) (low_byte n s b (size_pos k)) ∙ sym ek in
    let low : x ≡ with_form k (compact_value k s) = rw z at (zeros_low 8 x (rw z hk)) in
    let f : form_of (compact_value k s) ≡ k = form_is 7 k (compact_value k s) (omega arith) (λ p. m) (λ p. value_lt k s b (λ e. omega arith)) in
    let y : bytes n x ≡ take n s = rw (length-take-le n s l) at (bytes_le (take n s) (take_bytes n s b)) in
    rw (compact_is (compact_value k s) (λ e. omega (arith, one-le-pow k 128 (lit< tt))), f, ← low) (sym y)

form_read : (s : List ℕ) (k v n : ℕ) → AllBytes s → k ≡ count_trailing_zeros 8 (get_or s 0 0) → k < 8 → read_form k s ≡ Value v n false
    → take n s ≡ compact_bytes v
unfolding read_form
form_read s k v n b ek hk r =
    by_lt (length s) (size_of k)
    (λ l. let x : Refused (fault 2) ≡ Value v n false = rw (lt-ltb _ _ l) at r in impossible (cc))
    (λ l.
    let x : Value (compact_value k s) (size_of k) (ltb (compact_value k s) (128 ^ k)) ≡ Value v n false = rw (le-ltb _ _ l) at r in
    let ev : compact_value k s ≡ v = grind arith in
    let en : size_of k ≡ n = grind arith in
    let el : ltb (compact_value k s) (128 ^ k) ≡ false = grind arith in
    rw (← ev, ← en) (value_written s k b ek hk l (ltb-false _ _ el)))

bytes_written : (s : List ℕ) (v n : ℕ) → AllBytes s → read_compact s ≡ Value v n false → take n s ≡ compact_bytes v
unfolding read_compact compact_bytes
bytes_written [] v n b r = impossible (cc)
bytes_written (c ∷ s) v n b r =
    by_eq c 0
    (λ e.
    let x : Value 0 1 false ≡ Value v n false = simp (ne_eqb (suc (length s)) 0 (omega arith), eq-eqb c 0 e) at r in
    let ev : 0 ≡ v = grind arith in
    let en : 1 ≡ n = grind arith in
    rw (← ev, ← en, e))
    (λ z.
    let x : read_form (count_trailing_zeros 8 c) (c ∷ s) ≡ Value v n false = simp (ne_eqb (suc (length s)) 0 (omega arith), ne_eqb c 0 z) at r in
    form_read (c ∷ s) (count_trailing_zeros 8 c) v n b refl (zeros_lt 8 c (b 0) z) x)

pub written_read : (s : List ℕ) (v n : ℕ) → AllBytes s → read_compact s ≡ Value v n false → (take n s ≡ compact_bytes v) × (v < 2 ^ 64)
written_read s v n b r = (bytes_written s v n b r, value_read_fits s v n false b r)
