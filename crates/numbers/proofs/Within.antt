-- An item that is read is not empty and lies within its part; a fault of an item is 2 or 3 at its place, the part's front.
-- Assumes nothing.
use mathlib.Core.Path.{◌≡◌, refl}
use mathlib.Core.Bool.{Bool, true, false}
use mathlib.Core.Logic.{◌⊎◌, inl, inr}
use mathlib.Core.List.{List}
use Prim.Native.Nat.{ℕ, ◌≤◌, ◌<◌}
use native.Mathlib.Omega.{arith}
use lib.ListN.{length, get_or}
use lib.Count.{count_trailing_zeros}
use lib.Dec.{ltb, eqb}
use borrow.Author.Tests.{ltb-false, eqb-false}
use Rattle.laws.proofs.Cases.{pick_all}
use Rattle.numbers.specs.Refusals.{fault}
use Rattle.numbers.specs.Compact.{size_of, read_form, read_compact, accepted, compact_for}
use Rattle.numbers.specs.ExtendedGuid.{named_of, short_form, long_form, form_of_id, read_extended_guid}
use Rattle.numbers.specs.Serial.{numbered, read_serial}
use Rattle.numbers.specs.declared.refusal.Refusal.{Refusal}
use Rattle.numbers.specs.Results.Compact.{Compact}
use Rattle.numbers.specs.Results.Compact as compact
use Rattle.numbers.specs.Results.ReadExtendedGuid.{ReadExtendedGuid}
use Rattle.numbers.specs.Results.ReadExtendedGuid as extended
use Rattle.numbers.specs.Results.ReadSerial.{ReadSerial}
use Rattle.numbers.specs.Results.ReadSerial as serial
use Rattle.numbers.proofs.Forms.{size_pos}

-- u bytes of the n that the part has
abbrev pub Inside : ℕ → ℕ → Type 0
Inside n u = (0 < u) × (u ≤ n)

-- 2 or 3, at the item's place
abbrev pub ItemFault : Refusal → Type 0
ItemFault r = (r ≡ fault 2) ⊎ (r ≡ fault 3)

abbrev pub CompactWithin : ℕ → Compact → Type 0
CompactWithin n (compact.Value v u padded) = Inside n u
CompactWithin n (compact.Refused r) = ItemFault r

abbrev pub ExtendedGuidWithin : ℕ → ReadExtendedGuid → Type 0
ExtendedGuidWithin n (extended.Value x u) = Inside n u
ExtendedGuidWithin n (extended.Refused r) = ItemFault r

abbrev pub SerialWithin : ℕ → ReadSerial → Type 0
SerialWithin n (serial.Value x u) = Inside n u
SerialWithin n (serial.Refused r) = ItemFault r

-- the part is not empty
some : (n : ℕ) → eqb n 0 ≡ false → 1 ≤ n
some n e = let z = eqb-false n 0 e in omega arith

-- ---- compact integers

read_form_within : (k : ℕ) (s : List ℕ) → CompactWithin (length s) (read_form k s)
unfolding read_form
read_form_within k s =
    pick_all (CompactWithin (length s)) (ltb (length s) (size_of k)) _ _ (λ e. inl refl) (λ e. (size_pos k, ltb-false _ _ e))

read_within : (s : List ℕ) → CompactWithin (length s) (read_compact s)
unfolding read_compact
read_within s =
    pick_all (CompactWithin (length s)) (eqb (length s) 0) _ _ (λ e. inl refl)
    (λ e.
    pick_all (CompactWithin (length s)) (eqb (get_or s 0 0) 0) _ _ (λ f. (omega arith, some (length s) e))
    (λ f. read_form_within (count_trailing_zeros 8 (get_or s 0 0)) s))

accepted_within : (padding : Bool) (n : ℕ) (r : Compact) → CompactWithin n r → CompactWithin n (accepted padding r)
accepted_within true n (compact.Value v u true) w = w
accepted_within false n (compact.Value v u true) w = inr refl
accepted_within padding n (compact.Value v u false) w = w
accepted_within padding n (compact.Refused r) w = w

pub compact_within : (padding : Bool) (s : List ℕ) → CompactWithin (length s) (compact_for padding s)
unfolding compact_for
compact_within padding s = accepted_within padding (length s) (read_compact s) (read_within s)

-- ---- extended GUIDs

named_within : (n g x least : ℕ) (s : List ℕ) → 0 < n → ExtendedGuidWithin (length s) (named_of n g x least s)
unfolding named_of
named_within n g x least s p =
    pick_all (ExtendedGuidWithin (length s)) (ltb (length s) n) _ _ (λ e. inl refl)
    (λ e. pick_all (ExtendedGuidWithin (length s)) (ltb x least) _ _ (λ f. inr refl) (λ f. (p, ltb-false _ _ e)))

form_of_id_within : (k : ℕ) (s : List ℕ) → ExtendedGuidWithin (length s) (form_of_id k s)
unfolding form_of_id short_form long_form
form_of_id_within k s =
    let P = ExtendedGuidWithin (length s) in
    pick_all P (eqb k 2) _ _ (λ e. named_within 17 1 _ 0 s (omega arith))
    (λ e.
    pick_all P (eqb k 5) _ _ (λ f. named_within 18 2 _ 0x20 s (omega arith))
    (λ f.
    pick_all P (eqb k 6) _ _ (λ g. named_within 19 3 _ 0x400 s (omega arith))
    (λ g. pick_all P (eqb k 7) _ _ (λ h. named_within 21 1 _ 0x20000 s (omega arith)) (λ h. inr refl))))

pub extended_guid_within : (s : List ℕ) → ExtendedGuidWithin (length s) (read_extended_guid s)
unfolding read_extended_guid
extended_guid_within s =
    let P = ExtendedGuidWithin (length s) in
    pick_all P (eqb (length s) 0) _ _ (λ e. inl refl)
    (λ e. pick_all P (eqb (get_or s 0 0) 0) _ _ (λ f. (omega arith, some (length s) e)) (λ f. form_of_id_within (count_trailing_zeros 8 (get_or s 0 0)) s))

-- ---- serial numbers

numbered_within : (s : List ℕ) → SerialWithin (length s) (numbered s)
unfolding numbered
numbered_within s = pick_all (SerialWithin (length s)) (ltb (length s) 25) _ _ (λ e. inl refl) (λ e. (omega arith, ltb-false _ _ e))

pub serial_within : (s : List ℕ) → SerialWithin (length s) (read_serial s)
unfolding read_serial
serial_within s =
    let P = SerialWithin (length s) in
    pick_all P (eqb (length s) 0) _ _ (λ e. inl refl)
    (λ e.
    pick_all P (eqb (get_or s 0 0) 0) _ _ (λ f. (omega arith, some (length s) e))
    (λ f. pick_all P (eqb (get_or s 0 0) 128) _ _ (λ g. numbered_within s) (λ g. inr refl)))
