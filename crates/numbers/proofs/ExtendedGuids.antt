-- Extended GUIDs: how long each form is, and what the code writes and reads for it. The three short forms go by one law.
-- Assumes nothing.
use mathlib.Core.Path.{◌≡◌, refl, sym, ap, ◌∙◌}
use mathlib.Core.Logic.{◌≢◌}
use mathlib.Core.List.{List, [], ◌∷◌, ◌++◌, append_assoc}
use Prim.Native.Nat.{ℕ, suc, ◌+◌, ◌*◌, ◌/◌, ◌%◌, ◌^◌, ◌≤◌, ◌<◌}
use native.Mathlib.Nat.{div-le_self}
use native.Mathlib.Omega.{arith}
use lib.ListN.{length, get_or, take, drop, length-append, length-drop, length-take}
use lib.Seq.{take_at, drop_at, take-add, length-take-le}
use lib.Count.{count_trailing_zeros}
use lib.Dec.{lit<}
use borrow.Author.Tests.{lt-ltb, le-ltb, eq-eqb, ne_eqb}
use Rattle.laws.specs.Bytes.{AllBytes, le, bytes}
use Rattle.laws.proofs.Cases.{by_lt, by_eq, impossible}
use Rattle.laws.proofs.Numbers.{length_bytes, le_lt, take_bytes, drop_bytes, le_bytes, bytes_le, first_byte, low_byte}
use Rattle.numbers.specs.Compact.{with_form}
use Rattle.numbers.specs.Guid.{guid_at, guid_bytes, tagged_bytes, GuidFits}
use Rattle.numbers.specs.ExtendedGuid.{named_of, short_form, long_form, form_of_id, read_extended_guid, short_bytes, named_bytes, extended_guid_bytes, ExtendedGuidFits}
use Rattle.numbers.specs.declared.guid.Guid.{Guid}
use Rattle.numbers.specs.Refusals.{fault}
use Rattle.numbers.specs.Results.ExtendedGuid.{ExtendedGuid, Named, Null}
use Rattle.numbers.specs.Results.ReadExtendedGuid.{ReadExtendedGuid, Refused, Value}
use Rattle.numbers.proofs.LowestBit.{zeros_mod, zeros_with_form, zeros_low, with_form_value}
use Rattle.numbers.proofs.Guids.{length_guid, length_tagged, tagged_parts, tagged_same, guid_read_written, guid_written_read, guid_at_fits}

-- ---- the bytes of each form

pub length_short : (k m : ℕ) (g : Guid) (x : ℕ) → length (short_bytes k m g x) ≡ m + 16
unfolding short_bytes
length_short k m g x = simp (length-append, length_bytes, length_guid)

pub named_5 : (g : Guid) (x : ℕ) → x < 0x20 → named_bytes g x ≡ short_bytes 2 1 g x
unfolding named_bytes
named_5 g x h = rw (lt-ltb x 0x20 h)

pub named_10 : (g : Guid) (x : ℕ) → 0x20 ≤ x → x < 0x400 → named_bytes g x ≡ short_bytes 5 2 g x
unfolding named_bytes
named_10 g x l h = rw (le-ltb x 0x20 l, lt-ltb x 0x400 h)

pub named_17 : (g : Guid) (x : ℕ) → 0x400 ≤ x → x < 0x20000 → named_bytes g x ≡ short_bytes 6 3 g x
unfolding named_bytes
named_17 g x l h = let k : 0x20 ≤ x = omega arith in rw (le-ltb x 0x20 k, le-ltb x 0x400 l, lt-ltb x 0x20000 h)

pub named_32 : (g : Guid) (x : ℕ) → 0x20000 ≤ x → named_bytes g x ≡ tagged_bytes 4 g x
unfolding named_bytes
named_32 g x l =
    let k : 0x20 ≤ x = omega arith in
    let m : 0x400 ≤ x = omega arith in
    rw (le-ltb x 0x20 k, le-ltb x 0x400 m, le-ltb x 0x20000 l)

-- each short form has room for its numbers
pub room_5 : (x : ℕ) → x < 0x20 → with_form 2 x < 256 ^ 1
unfolding with_form
room_5 x h = omega arith

pub room_10 : (x : ℕ) → x < 0x400 → with_form 5 x < 256 ^ 2
unfolding with_form
room_10 x h = omega arith

pub room_17 : (x : ℕ) → x < 0x20000 → with_form 6 x < 256 ^ 3
unfolding with_form
room_17 x h = omega arith

-- ---- what the code reads fits its number

pub short_fits : (k m : ℕ) (s : List ℕ) → m ≤ 3 → AllBytes s → le (take m s) / 2 ^ (k + 1) < 2 ^ 32
short_fits k m s h b =
    let l : le (take m s) < 256 ^ 3 = le_lt 3 (take m s) (simp length-take (omega arith)) (take_bytes m s b) in
    omega (arith, div-le_self (le (take m s)) (2 ^ (k + 1)))

-- ---- what was written reads back

named_read_written : (n g x least : ℕ) (s : List ℕ) (i : Guid) → n ≤ length s → least ≤ x → guid_at (drop g s) ≡ i
    → named_of n g x least s ≡ Value (Named i x) n
unfolding named_of
named_read_written n g x least s i h l e = rw (le-ltb _ _ h, le-ltb _ _ l, e)

short_read_written : (k m least : ℕ) (g : Guid) (x : ℕ) (t : List ℕ) → GuidFits g → with_form k x < 256 ^ m → least ≤ x
    → short_form k m least (short_bytes k m g x ++ t) ≡ Value (Named g x) (m + 16)
unfolding short_form short_bytes
short_read_written k m least g x t f b l =
    let w = bytes m (with_form k x) in
    let s = (w ++ guid_bytes g) ++ t in
    let e : s ≡ w ++ (guid_bytes g ++ t) = append_assoc w (guid_bytes g) t in
    let h : m + 16 ≤ length s = simp (length-append, length_bytes, length_guid) (omega arith) in
    let v : le (take m s) / 2 ^ (k + 1) ≡ x =
    rw (e, take_at w (guid_bytes g ++ t) m (length_bytes m (with_form k x)), le_bytes m (with_form k x) b) (with_form_value k x) in
    let i : guid_at (drop m s) ≡ g = rw (e, drop_at w (guid_bytes g ++ t) m (length_bytes m (with_form k x))) (guid_read_written g f t) in
    rw v (named_read_written (m + 16) m x least s g h l i)

-- the first byte of a short form tells it
short_first : (k m : ℕ) (g : Guid) (x : ℕ) (t : List ℕ) → 0 < m → k < 8 → count_trailing_zeros 8 (get_or (short_bytes k m g x ++ t) 0 0) ≡ k
unfolding short_bytes
short_first k m g x t p h =
    let w = bytes m (with_form k x) in
    let f : get_or ((w ++ guid_bytes g) ++ t) 0 0 ≡ with_form k x % 2 ^ 8 = rw append_assoc (first_byte m (with_form k x) (guid_bytes g ++ t) p) in
    rw f (zeros_mod 8 (with_form k x) ∙ zeros_with_form 8 k x h)

-- a first byte that has a form is not 0
tells : (b k : ℕ) → count_trailing_zeros 8 b ≡ k → k < 8 → b ≢ 0
unfolding count_trailing_zeros
tells b k e h z = let x : 8 ≡ k = rw z at e in omega arith

by_form : (k : ℕ) (s : List ℕ) (r : ReadExtendedGuid) → length s ≢ 0 → count_trailing_zeros 8 (get_or s 0 0) ≡ k → k < 8 → form_of_id k s ≡ r → read_extended_guid s ≡ r
unfolding read_extended_guid
by_form k s r n e h q = rw (ne_eqb _ _ n, ne_eqb _ _ (tells (get_or s 0 0) k e h), e) q

short_back : (k m least : ℕ) (g : Guid) (x : ℕ) (t : List ℕ) → 0 < m → k < 8 → GuidFits g → with_form k x < 256 ^ m → least ≤ x
    → ((s : List ℕ) → form_of_id k s ≡ short_form k m least s)
    → read_extended_guid (short_bytes k m g x ++ t) ≡ Value (Named g x) (length (short_bytes k m g x))
short_back k m least g x t p h f b l is =
    let s = short_bytes k m g x ++ t in
    let n : length s ≢ 0 = simp (length-append, length_short) (omega arith) in
    by_form k s _ n (short_first k m g x t p h) h (is s ∙ short_read_written k m least g x t f b l ∙ rw (length_short k m g x))

form_5 : (s : List ℕ) → form_of_id 2 s ≡ short_form 2 1 0 s
unfolding form_of_id
form_5 s = refl

form_10 : (s : List ℕ) → form_of_id 5 s ≡ short_form 5 2 0x20 s
unfolding form_of_id
form_10 s = refl

form_17 : (s : List ℕ) → form_of_id 6 s ≡ short_form 6 3 0x400 s
unfolding form_of_id
form_17 s = refl

form_32 : (s : List ℕ) → form_of_id 7 s ≡ long_form s
unfolding form_of_id
form_32 s = refl

long_first : (g : Guid) (x : ℕ) (t : List ℕ) → count_trailing_zeros 8 (get_or (tagged_bytes 4 g x ++ t) 0 0) ≡ 7
unfolding tagged_bytes count_trailing_zeros
long_first g x t = refl

long_back : (g : Guid) (x : ℕ) (t : List ℕ) → GuidFits g → x < 2 ^ 32 → 0x20000 ≤ x
    → read_extended_guid (tagged_bytes 4 g x ++ t) ≡ Value (Named g x) (length (tagged_bytes 4 g x))
unfolding long_form
long_back g x t f b l =
    let s = tagged_bytes 4 g x ++ t in
    let p = tagged_parts 4 g x t f b in
    let h : 21 ≤ length s = simp (length-append, length_tagged) (omega arith) in
    let n : length s ≢ 0 = omega arith in
    let r : long_form s ≡ Value (Named g x) 21 = rw p.1 (named_read_written 21 1 x 0x20000 s g h l p.0) in
    by_form 7 s _ n (long_first g x t) (lit< tt) (form_32 s ∙ r ∙ rw (length_tagged 4 g x))

named_back : (g : Guid) (x : ℕ) (t : List ℕ) → GuidFits g → x < 2 ^ 32 → read_extended_guid (named_bytes g x ++ t) ≡ Value (Named g x) (length (named_bytes g x))
named_back g x t f b =
    by_lt x 0x20
    (λ h. rw (named_5 g x h) (short_back 2 1 0 g x t (omega arith) (omega arith) f (room_5 x h) (omega arith) form_5))
    (λ l.
    by_lt x 0x400
    (λ h. rw (named_10 g x l h) (short_back 5 2 0x20 g x t (omega arith) (omega arith) f (room_10 x h) l form_10))
    (λ l.
    by_lt x 0x20000
    (λ h. rw (named_17 g x l h) (short_back 6 3 0x400 g x t (omega arith) (omega arith) f (room_17 x h) l form_17))
    (λ l. rw (named_32 g x l) (long_back g x t f b l))))

null_back : (t : List ℕ) → read_extended_guid ((0 ∷ []) ++ t) ≡ Value Null 1
unfolding read_extended_guid
null_back t = rw (ne_eqb (suc (length t)) 0 (omega arith))

pub extended_guid_read_written : (i : ExtendedGuid) → ExtendedGuidFits i → (t : List ℕ)
    → read_extended_guid (extended_guid_bytes i ++ t) ≡ Value i (length (extended_guid_bytes i))
unfolding extended_guid_bytes
extended_guid_read_written Null f t = null_back t
extended_guid_read_written (Named g x) f t = named_back g x t f.0 f.1

-- ---- what is read is what is written for it

-- of the short form k, that the first byte tells: the number's bytes, and the bound that they give it
short_number_lem : (k m : ℕ) (s : List ℕ) → AllBytes s → 0 < m → m ≤ length s → k < 8 → count_trailing_zeros 8 (get_or s 0 0) ≡ k
    → (take m s ≡ bytes m (with_form k (le (take m s) / 2 ^ (k + 1)))) × (le (take m s) < 256 ^ m)
short_number_lem k m s b p l h e =
    let x = le (take m s) in
    let z : count_trailing_zeros 8 x ≡ k = sym (zeros_mod 8 x) ∙ ap (count_trailing_zeros 8) (low_byte m s b p) ∙ e in
    let low : x ≡ with_form k (x / 2 ^ (k + 1)) = rw z at (zeros_low 8 x (rw z h)) in
    let y : bytes m x ≡ take m s = rw (length-take-le m s l) at (bytes_le (take m s) (take_bytes m s b)) in
    (rw (← low) (sym y), le_lt m (take m s) (simp length-take (omega arith)) (take_bytes m s b))

named_read : (n g x least : ℕ) (s : List ℕ) (i : ExtendedGuid) (u : ℕ) → named_of n g x least s ≡ Value i u
    → (n ≤ length s) × (least ≤ x) × (i ≡ Named (guid_at (drop g s)) x) × (u ≡ n)
unfolding named_of
named_read n g x least s i u e =
    by_lt (length s) n
    (λ h. let z : Refused (fault 2) ≡ Value i u = rw (lt-ltb _ _ h) at e in impossible (cc))
    (λ h.
    by_lt x least
    (λ k. let z : Refused (fault 3) ≡ Value i u = rw (le-ltb _ _ h, lt-ltb _ _ k) at e in impossible (cc))
    (λ k. let z : Value (Named (guid_at (drop g s)) x) n ≡ Value i u = rw (le-ltb _ _ h, le-ltb _ _ k) at e in (h, k, grind arith, grind arith)))

-- what a reader's answer must be: the bytes used are those that are written for the value, which fits
abbrev Same : List ℕ → ExtendedGuid → ℕ → Type 0
Same s i u = (take u s ≡ extended_guid_bytes i) × ExtendedGuidFits i

short_same : (k m least most : ℕ) (s : List ℕ) (i : ExtendedGuid) (u : ℕ) → AllBytes s → 0 < m → k < 8 → count_trailing_zeros 8 (get_or s 0 0) ≡ k
    → (le (take m s) < 256 ^ m → le (take m s) / 2 ^ (k + 1) < most) → most ≤ 2 ^ 32
    → ((g : Guid) (x : ℕ) → least ≤ x → x < most → named_bytes g x ≡ short_bytes k m g x)
    → short_form k m least s ≡ Value i u → Same s i u
unfolding short_form extended_guid_bytes short_bytes
short_same k m least most s i u b p h e bound top is r =
    let x = le (take m s) / 2 ^ (k + 1) in
    let q = named_read (m + 16) m x least s i u r in
    let w = short_number_lem k m s b p (omega arith) h e in
    let l : x < most = bound w.1 in
    let d : 16 ≤ length (drop m s) = simp length-drop (omega arith) in
    let y : take (m + 16) s ≡ named_bytes (guid_at (drop m s)) x =
    take-add m 16 s ∙ sym (is (guid_at (drop m s)) x q.1 l ∙ rw (guid_written_read (drop m s) (drop_bytes m s b) d, ← w.0)) in
    rw (q.2, q.3) (y, (guid_at_fits (drop m s) (drop_bytes m s b), omega arith))

long_same : (s : List ℕ) (i : ExtendedGuid) (u : ℕ) → AllBytes s → get_or s 0 0 ≡ 128 → long_form s ≡ Value i u → Same s i u
unfolding long_form extended_guid_bytes
long_same s i u b e r =
    let g = guid_at (drop 1 s) in
    let x = le (take 4 (drop 17 s)) in
    let q = named_read 21 1 x 0x20000 s i u r in
    let w = tagged_same 4 s b e q.0 in
    rw (q.2, q.3) (w.0 ∙ sym (named_32 g x q.1), w.1)

-- the byte that tells the long form is 128
long_byte : (c : ℕ) → c < 256 → count_trailing_zeros 8 c ≡ 7 → c ≡ 128
unfolding with_form
long_byte c h e = let l : c ≡ c / 2 ^ 8 * 2 ^ 8 + 2 ^ 7 = rw e at (zeros_low 8 c (rw e (lit< tt))) in omega arith

form_same : (k : ℕ) (s : List ℕ) (i : ExtendedGuid) (u : ℕ) → AllBytes s → count_trailing_zeros 8 (get_or s 0 0) ≡ k → form_of_id k s ≡ Value i u → Same s i u
unfolding form_of_id
form_same k s i u b e r =
    by_eq k 2
    (λ q.
    short_same 2 1 0 0x20 s i u b (lit< tt) (lit< tt) (e ∙ q) (λ h. omega arith) (omega arith) (λ g x l m. named_5 g x m) (rw q at r))
    (λ n2.
    by_eq k 5
    (λ q. short_same 5 2 0x20 0x400 s i u b (lit< tt) (lit< tt) (e ∙ q) (λ h. omega arith) (omega arith) named_10 (rw q at r))
    (λ n5.
    by_eq k 6
    (λ q. short_same 6 3 0x400 0x20000 s i u b (lit< tt) (lit< tt) (e ∙ q) (λ h. omega arith) (omega arith) named_17 (rw q at r))
    (λ n6.
    by_eq k 7
    (λ q. long_same s i u b (long_byte (get_or s 0 0) (b 0) (e ∙ q)) (rw q at r))
    (λ n7.
    let z : Refused (fault 3) ≡ Value i u = rw (ne_eqb k 2 n2, ne_eqb k 5 n5, ne_eqb k 6 n6, ne_eqb k 7 n7) at r in
    impossible (cc)))))

pub extended_guid_written_read : (s : List ℕ) (i : ExtendedGuid) (u : ℕ) → AllBytes s → read_extended_guid s ≡ Value i u
    → (take u s ≡ extended_guid_bytes i) × ExtendedGuidFits i
unfolding read_extended_guid extended_guid_bytes
extended_guid_written_read [] i u b r = impossible (cc)
extended_guid_written_read (c ∷ s) i u b r =
    let n : suc (length s) ≢ 0 = omega arith in
    by_eq c 0
    (λ e.
    let x : Value Null 1 ≡ Value i u = rw (ne_eqb _ _ n, eq-eqb c 0 e) at r in
    let ei : i ≡ Null = grind arith in
    let eu : u ≡ 1 = grind arith in
    rw (ei, eu, e) (refl, tt))
    (λ z.
    let x : form_of_id (count_trailing_zeros 8 c) (c ∷ s) ≡ Value i u = rw (ne_eqb _ _ n, ne_eqb c 0 z) at r in
    form_same (count_trailing_zeros 8 c) (c ∷ s) i u b refl x)
