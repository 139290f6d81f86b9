-- Reading an item depends only on the item's own bytes: a part that has the same ones in front gives the same item.
-- Assumes nothing.
use mathlib.Core.Path.{◌≡◌, sym, ap, ◌∙◌}
use mathlib.Core.Bool.{Bool}
use mathlib.Core.Logic.{◌≢◌}
use mathlib.Core.List.{List}
use Prim.Native.Nat.{ℕ, ◌+◌, ◌/◌, ◌^◌, ◌≤◌, ◌<◌}
use native.Mathlib.Omega.{arith}
use lib.ListN.{length, get_or, take, drop}
use lib.Seq.{drop-drop}
use lib.Count.{count_trailing_zeros}
use lib.Dec.{ltb}
use borrow.Author.Tests.{lt-ltb, le-ltb, eq-eqb, ne_eqb}
use Rattle.laws.specs.Bytes.{le}
use Rattle.laws.proofs.Cases.{by_lt, by_eq, impossible}
use Rattle.laws.proofs.Parts.{same_first, same_part}
use Rattle.laws.proofs.Agreement.{Agree, agree_less}
use Rattle.numbers.specs.Refusals.{fault}
use Rattle.numbers.specs.Compact.{size_of, compact_value, read_form, read_compact, accepted, compact_for}
use Rattle.numbers.specs.Guid.{guid_at}
use Rattle.numbers.specs.ExtendedGuid.{named_of, short_form, long_form, form_of_id, read_extended_guid}
use Rattle.numbers.specs.Serial.{numbered, read_serial}
use Rattle.numbers.specs.Results.Compact as compact
use Rattle.numbers.specs.Results.ExtendedGuid.{ExtendedGuid, Named}
use Rattle.numbers.specs.Results.ReadExtendedGuid as extended
use Rattle.numbers.specs.Results.Serial.{Numbered, Serial}
use Rattle.numbers.specs.Results.ReadSerial as serial
use Rattle.numbers.proofs.RoundTrip.{accepted_value}

-- the first byte
agree_first : (s t : List ℕ) (n : ℕ) → 0 < n → Agree s t n → get_or s 0 0 ≡ get_or t 0 0
agree_first s t n p a = same_first s t n p a.same

not_empty : (s t : List ℕ) (n : ℕ) → 0 < n → Agree s t n → length t ≢ 0
not_empty s t n p a e = omega (arith, a.long)

-- ---- compact integers

read_form_own : (k : ℕ) (s t : List ℕ) (v n : ℕ) (padded : Bool) → read_form k s ≡ compact.Value v n padded → Agree s t n → read_form k t ≡ compact.Value v n padded
unfolding read_form compact_value
read_form_own k s t v n padded e a =
    by_lt (length s) (size_of k)
    (λ l. let x : compact.Refused (fault 2) ≡ compact.Value v n padded = rw (lt-ltb _ _ l) at e in impossible (cc))
    (λ l.
    let x : compact.Value (compact_value k s) (size_of k) (ltb (compact_value k s) (128 ^ k)) ≡ compact.Value v n padded = rw (le-ltb _ _ l) at e in
    let q : size_of k ≡ n = grind arith in
    let w : take (size_of k) t ≡ take (size_of k) s = rw q (sym a.same) in
    let m : size_of k ≤ length t = rw q a.long in
    rw (le-ltb _ _ m, w) x)

compact_own : (s t : List ℕ) (v n : ℕ) (padded : Bool) → read_compact s ≡ compact.Value v n padded → 0 < n → Agree s t n → read_compact t ≡ compact.Value v n padded
unfolding read_compact
compact_own s t v n padded e p a =
    by_eq (length s) 0
    (λ z. let x : compact.Refused (fault 2) ≡ compact.Value v n padded = rw (eq-eqb _ _ z) at e in impossible (cc))
    (λ z.
    by_eq (get_or s 0 0) 0
    (λ f. rw (ne_eqb _ _ (not_empty s t n p a), ← agree_first s t n p a, eq-eqb _ _ f) (rw (ne_eqb _ _ z, eq-eqb _ _ f) at e))
    (λ f.
    let x : read_form (count_trailing_zeros 8 (get_or s 0 0)) s ≡ compact.Value v n padded = rw (ne_eqb _ _ z, ne_eqb _ _ f) at e in
    rw (ne_eqb _ _ (not_empty s t n p a), ← agree_first s t n p a, ne_eqb _ _ f) (read_form_own (count_trailing_zeros 8 (get_or s 0 0)) s t v n padded x a)))

-- by any caller
pub compact_for_own : (padding : Bool) (s t : List ℕ) (v n : ℕ) (padded : Bool) → compact_for padding s ≡ compact.Value v n padded → 0 < n → Agree s t n
    → compact_for padding t ≡ compact.Value v n padded
unfolding compact_for
compact_for_own padding s t v n padded e p a =
    let x = accepted_value padding (read_compact s) v n padded e in
    let y : accepted padding (compact.Value v n padded) ≡ compact.Value v n padded = ap (accepted padding) (sym x) ∙ e in
    ap (accepted padding) (compact_own s t v n padded x p a) ∙ y

-- ---- extended GUIDs

guid_own : (s t : List ℕ) (n g : ℕ) → g + 16 ≤ n → Agree s t n → guid_at (drop g s) ≡ guid_at (drop g t)
unfolding guid_at
guid_own s t n g l a =
    rw (same_part s t n g 8 (omega arith) a.same, drop-drop 8 g s, drop-drop 8 g t, same_part s t n (g + 8) 8 (omega arith) a.same)

named_own : (n g x y least : ℕ) (s t : List ℕ) (i : ExtendedGuid) (u : ℕ) → 0 < n → g + 16 ≤ n → (Agree s t n → x ≡ y)
    → named_of n g x least s ≡ extended.Value i u → Agree s t u → named_of n g y least t ≡ extended.Value i u
unfolding named_of
named_own n g x y least s t i u p l same e a =
    by_lt (length s) n
    (λ h. let z : extended.Refused (fault 2) ≡ extended.Value i u = rw (lt-ltb _ _ h) at e in impossible (cc))
    (λ h.
    by_lt x least
    (λ k. let z : extended.Refused (fault 3) ≡ extended.Value i u = rw (le-ltb _ _ h, lt-ltb _ _ k) at e in impossible (cc))
    (λ k.
    let z : extended.Value (Named (guid_at (drop g s)) x) n ≡ extended.Value i u = rw (le-ltb _ _ h, le-ltb _ _ k) at e in
    let q : n ≡ u = grind arith in
    let b : Agree s t n = rw q a in
    let m : n ≤ length t = b.long in
    rw (← same b, le-ltb _ _ m, le-ltb _ _ k, ← guid_own s t n g l b) z))

short_own : (k m least : ℕ) (s t : List ℕ) (i : ExtendedGuid) (u : ℕ) → short_form k m least s ≡ extended.Value i u → Agree s t u → short_form k m least t ≡ extended.Value i u
unfolding short_form
short_own k m least s t i u =
    named_own (m + 16) m _ _ least s t i u (omega arith) (omega arith)
    (λ b. ap (λ (w : List ℕ). le w / 2 ^ (k + 1)) (agree_less s t (m + 16) m (omega arith) b).same)

long_own : (s t : List ℕ) (i : ExtendedGuid) (u : ℕ) → long_form s ≡ extended.Value i u → Agree s t u → long_form t ≡ extended.Value i u
unfolding long_form
long_own s t i u = named_own 21 1 _ _ 0x20000 s t i u (omega arith) (omega arith) (λ b. ap le (same_part s t 21 17 4 (omega arith) b.same))

form_of_id_own : (k : ℕ) (s t : List ℕ) (i : ExtendedGuid) (u : ℕ) → form_of_id k s ≡ extended.Value i u → Agree s t u → form_of_id k t ≡ extended.Value i u
unfolding form_of_id
form_of_id_own k s t i u e a =
    by_eq k 2 (λ q. rw q (short_own 2 1 0 s t i u (rw q at e) a))
    (λ b.
    by_eq k 5 (λ q. rw q (short_own 5 2 0x20 s t i u (rw q at e) a))
    (λ c.
    by_eq k 6 (λ q. rw q (short_own 6 3 0x400 s t i u (rw q at e) a))
    (λ d.
    by_eq k 7 (λ q. rw q (long_own s t i u (rw q at e) a))
    (λ f. rw (ne_eqb k 2 b, ne_eqb k 5 c, ne_eqb k 6 d, ne_eqb k 7 f) (rw (ne_eqb k 2 b, ne_eqb k 5 c, ne_eqb k 6 d, ne_eqb k 7 f) at e)))))

pub extended_guid_own : (s t : List ℕ) (i : ExtendedGuid) (n : ℕ) → read_extended_guid s ≡ extended.Value i n → 0 < n → Agree s t n → read_extended_guid t ≡ extended.Value i n
unfolding read_extended_guid
extended_guid_own s t i n e p a =
    by_eq (length s) 0
    (λ z. let x : extended.Refused (fault 2) ≡ extended.Value i n = rw (eq-eqb _ _ z) at e in impossible (cc))
    (λ z.
    by_eq (get_or s 0 0) 0
    (λ f. rw (ne_eqb _ _ (not_empty s t n p a), ← agree_first s t n p a, eq-eqb _ _ f) (rw (ne_eqb _ _ z, eq-eqb _ _ f) at e))
    (λ f.
    let x : form_of_id (count_trailing_zeros 8 (get_or s 0 0)) s ≡ extended.Value i n = rw (ne_eqb _ _ z, ne_eqb _ _ f) at e in
    rw (ne_eqb _ _ (not_empty s t n p a), ← agree_first s t n p a, ne_eqb _ _ f) (form_of_id_own (count_trailing_zeros 8 (get_or s 0 0)) s t i n x a)))

-- ---- serial numbers

numbered_own : (s t : List ℕ) (i : Serial) (n : ℕ) → numbered s ≡ serial.Value i n → Agree s t n → numbered t ≡ serial.Value i n
unfolding numbered
numbered_own s t i n e a =
    by_lt (length s) 25
    (λ h. let z : serial.Refused (fault 2) ≡ serial.Value i n = rw (lt-ltb _ _ h) at e in impossible (cc))
    (λ h.
    let z : serial.Value (Numbered (guid_at (drop 1 s)) (le (take 8 (drop 17 s)))) 25 ≡ serial.Value i n = rw (le-ltb _ _ h) at e in
    let q : 25 ≡ n = grind arith in
    let b : Agree s t 25 = rw q a in
    let m : 25 ≤ length t = b.long in
    rw (le-ltb _ _ m, ← guid_own s t 25 1 (omega arith) b, ← same_part s t 25 17 8 (omega arith) b.same) z)

pub serial_own : (s t : List ℕ) (i : Serial) (n : ℕ) → read_serial s ≡ serial.Value i n → 0 < n → Agree s t n → read_serial t ≡ serial.Value i n
unfolding read_serial
serial_own s t i n e p a =
    by_eq (length s) 0
    (λ z. let x : serial.Refused (fault 2) ≡ serial.Value i n = rw (eq-eqb _ _ z) at e in impossible (cc))
    (λ z.
    by_eq (get_or s 0 0) 0
    (λ f. rw (ne_eqb _ _ (not_empty s t n p a), ← agree_first s t n p a, eq-eqb _ _ f) (rw (ne_eqb _ _ z, eq-eqb _ _ f) at e))
    (λ f.
    by_eq (get_or s 0 0) 128
    (λ g.
    let x : numbered s ≡ serial.Value i n = rw (ne_eqb _ _ z, ne_eqb _ _ f, eq-eqb _ _ g) at e in
    rw (ne_eqb _ _ (not_empty s t n p a), ← agree_first s t n p a, ne_eqb _ _ f, eq-eqb _ _ g) (numbered_own s t i n x a))
    (λ g.
    let x : serial.Refused (fault 3) ≡ serial.Value i n = rw (ne_eqb _ _ z, ne_eqb _ _ f, ne_eqb _ _ g) at e in
    impossible (cc))))
