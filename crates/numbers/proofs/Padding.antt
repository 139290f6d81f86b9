-- Padded numbers: what has no mark is read the same by every caller, and so is all that is taken where padding is refused; a padded
-- number that is taken has the value of its shortest form; the mark tells just this, that the bytes are not those that are written.
-- That what is written is never marked stands in `RoundTrip`.
-- Assumes nothing.
use mathlib.Core.Path.{◌≡◌, sym, ap, ◌∙◌}
use mathlib.Core.Bool.{Bool, true, false}
use mathlib.Core.Logic.{◌≢◌}
use mathlib.Core.List.{List, ◌++◌}
use Prim.Native.Nat.{ℕ, ◌<◌, ◌≤◌, ◌^◌}
use native.Mathlib.Nat.{pow-le-pow_right}
use native.Mathlib.Omega.{arith}
use lib.ListN.{length, get_or, take, drop, take-append-drop}
use lib.Count.{count_trailing_zeros}
use lib.Dec.{lit<, ltb}
use borrow.Author.Tests.{eq-eqb, ne_eqb, lt-ltb, le-ltb, ltb-true}
use Rattle.laws.specs.Bytes.{AllBytes}
use Rattle.laws.proofs.Cases.{by_lt, by_eq, impossible}
use Rattle.numbers.specs.Refusals.{fault}
use Rattle.numbers.specs.Compact.{size_of, compact_value, read_form, read_compact, padding_refused, accepted, compact_for, form_of, compact_bytes}
use Rattle.numbers.specs.Results.Compact.{Refused, Value}
use Rattle.numbers.proofs.LowestBit.{zeros_lt}
use Rattle.numbers.proofs.Forms.{size_short, size_over, form_of_least, length_compact}
use Rattle.numbers.proofs.RoundTrip.{read_written, written_unpadded, accepted_value, value_read_fits, taken_fits, written_read}

-- what has no mark is read the same, whoever reads
pub unpadded_same : (padding other : Bool) (s : List ℕ) (v n : ℕ) → compact_for padding s ≡ Value v n false → compact_for other s ≡ Value v n false
unfolding compact_for
unpadded_same padding other s v n e = rw (accepted_value padding (read_compact s) v n false e)

-- ---- callers

-- `other` takes what `padding` takes, and reads it the same
abbrev pub Takes : Bool → Bool → Type 0
Takes padding other = (s : List ℕ) (v n : ℕ) (padded : Bool) → compact_for padding s ≡ Value v n padded → compact_for other s ≡ Value v n padded

pub takes_same : (padding : Bool) → Takes padding padding
takes_same padding s v n padded e = e

-- what is taken where padding is refused is taken by everyone
pub takes_refused : (other : Bool) → Takes padding_refused other
unfolding compact_for
takes_refused other s v n true e =
    let x = accepted_value padding_refused (read_compact s) v n true e in
    let y : Refused (fault 3) ≡ Value v n true = ap (accepted padding_refused) (sym x) ∙ e in
    impossible (cc)
takes_refused other s v n false e = unpadded_same padding_refused other s v n e

-- ---- the value and the mark

-- a number that is taken, padded or not, has the value of its shortest form
pub padded_value : (padding other : Bool) (s : List ℕ) (v n : ℕ) (padded : Bool) → AllBytes s → compact_for padding s ≡ Value v n padded
    → (t : List ℕ) → compact_for other (compact_bytes v ++ t) ≡ Value v (length (compact_bytes v)) false
padded_value padding other s v n padded b e t = written_unpadded other v (taken_fits padding s v n padded b e) t

-- the mark: the bytes are not those that are written for the value
pub marked_not_written : (s : List ℕ) (v n : ℕ) → AllBytes s → read_compact s ≡ Value v n true → take n s ≡ compact_bytes v → ⊥
marked_not_written s v n b e w =
    let x : read_compact (compact_bytes v ++ drop n s) ≡ Value v (length (compact_bytes v)) false =
    read_written v (value_read_fits s v n true b e) (drop n s) in
    let y : compact_bytes v ++ drop n s ≡ s = ap (λ (u : List ℕ). u ++ drop n s) (sym w) ∙ take-append-drop n s in
    let z : Value v n true ≡ Value v (length (compact_bytes v)) false = sym e ∙ ap read_compact (sym y) ∙ x in
    impossible (grind arith)

-- a value below a form's range is written in fewer bytes
form_shorter : (k v : ℕ) → k ≤ 7 → v ≢ 0 → v < 128 ^ k → length (compact_bytes v) < size_of k
form_shorter k v h z l =
    let j = form_of v in
    let less : j < k =
    by_lt j k (λ (q : j < k). q)
    (λ q.
    let m : 128 ^ k ≤ 128 ^ j = pow-le-pow_right {n = 128} (lit< tt) {i = k} {j = j} q in
    absurd (omega (arith, form_of_least v z))) in
    rw (length_compact v z, size_short j (λ e. omega arith)) (omega (arith, size_over k))

-- a padded number other than 0 takes more bytes than its shortest form (`01` is the one 0 that takes no more than `00`)
padded_longer : (s : List ℕ) (v n : ℕ) → AllBytes s → read_compact s ≡ Value v n true → v ≢ 0 → length (compact_bytes v) < n
unfolding read_compact read_form
padded_longer s v n b e z =
    by_eq (length s) 0
    (λ o. let x : Refused (fault 2) ≡ Value v n true = rw (eq-eqb _ _ o) at e in impossible (cc))
    (λ o.
    by_eq (get_or s 0 0) 0
    (λ f. let x : Value 0 1 false ≡ Value v n true = rw (ne_eqb _ _ o, eq-eqb _ _ f) at e in impossible (grind arith))
    (λ f.
    let k = count_trailing_zeros 8 (get_or s 0 0) in
    by_lt (length s) (size_of k)
    (λ l. let x : Refused (fault 2) ≡ Value v n true = rw (ne_eqb _ _ o, ne_eqb _ _ f, lt-ltb _ _ l) at e in impossible (cc))
    (λ l.
    let x : Value (compact_value k s) (size_of k) (ltb (compact_value k s) (128 ^ k)) ≡ Value v n true = rw (ne_eqb _ _ o, ne_eqb _ _ f, le-ltb _ _ l) at e in
    let ev : compact_value k s ≡ v = grind arith in
    let en : size_of k ≡ n = grind arith in
    let el : ltb (compact_value k s) (128 ^ k) ≡ true = grind arith in
    let low : compact_value k s < 128 ^ k = ltb-true _ _ el in
    rw (← en) (form_shorter k v (omega (arith, zeros_lt 8 (get_or s 0 0) (b 0) f)) z (rw ev at low)))))

-- what is taken in as many bytes as the shortest form has, and is not 0, stands in its shortest form
pub shortest_read : (padding : Bool) (s : List ℕ) (v n : ℕ) (padded : Bool) → AllBytes s → compact_for padding s ≡ Value v n padded → v ≢ 0
    → n ≡ length (compact_bytes v) → take n s ≡ compact_bytes v
unfolding compact_for
shortest_read padding s v n true b e z l =
    absurd (omega (arith, padded_longer s v n b (accepted_value padding (read_compact s) v n true e) z))
shortest_read padding s v n false b e z l = (written_read s v n b (accepted_value padding (read_compact s) v n false e)).0
