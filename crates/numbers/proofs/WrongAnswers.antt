-- For each call for a single item, and for two calls beneath, two wrong answers that its promise rules out, each tried on a
-- named input.
-- Assumes nothing.
use mathlib.Core.Path.{◌≡◌, ap}
use Prim.Native.Nat.{ℕ}
use mathlib.Core.Bool.{true, false}
use mathlib.Core.List.{List, [], ◌∷◌}
use native.Mathlib.Omega.{arith}
use lib.Count.{count_trailing_zeros}
use Rattle.laws.specs.Bytes.{le, bytes, before}
use Rattle.laws.proofs.Cases.{impossible}
use Rattle.laws.specs.Placed.{placed}
use Rattle.numbers.specs.Refusals.{Told, fault, too_short}
use Rattle.numbers.specs.Compact.{size_of, compact_value, read_form, read_compact, padding_taken, padding_refused, compact_for, form_from, form_of, with_form, compact_bytes}
use Rattle.numbers.specs.Guid.{guid_at, guid_bytes, tagged_bytes, guid_before}
use Rattle.numbers.specs.ExtendedGuid.{named_of, short_form, form_of_id, read_extended_guid, short_bytes, named_bytes, extended_guid_bytes}
use Rattle.numbers.specs.Serial.{numbered, read_serial, serial_bytes}
use Rattle.numbers.specs.Calls.{single, written, ReadsCompact, ReadsExtendedGuid, ReadsSerial, WritesCompact, WritesExtendedGuid, WritesSerial}
use Rattle.numbers.specs.declared.guid.Guid.{Guid}
use Rattle.numbers.specs.Results.Wrote as wrote
use Rattle.numbers.specs.Results.Compact as compact
use Rattle.numbers.specs.Results.ExtendedGuid as id
use Rattle.numbers.specs.Results.ReadExtendedGuid as extended
use Rattle.numbers.specs.Results.Serial as number
use Rattle.numbers.specs.Results.ReadSerial as serial

unfoldable zeros : List ℕ
zeros = 0 ∷ 0 ∷ 0 ∷ 0 ∷ 0 ∷ 0 ∷ 0 ∷ 0 ∷ 0 ∷ 0 ∷ 0 ∷ 0 ∷ 0 ∷ 0 ∷ 0 ∷ 0 ∷ []

abbrev nothing : Guid
nothing = record { low = 0; high = 0 }

-- ---- read_compact

-- `02 00` is marked: a shorter form would do
padded_unmarked : ReadsCompact (0x02 ∷ 0x00 ∷ []) (compact.Value 0 2 false) → ⊥
unfolding single read_compact read_form compact_value size_of le count_trailing_zeros
padded_unmarked h =
    let z : ◌≡◌ {A = List ℕ} (0 ∷ 2 ∷ 0 ∷ []) (0 ∷ 2 ∷ 1 ∷ []) = ap (λ (t : Told). t.values) h in
    let y : ◌≡◌ {A = ℕ} 0 1 = cc in omega arith

-- `02 02` is not: 128 is the least value of its form, and no shorter one has it
least_padded : ReadsCompact (0x02 ∷ 0x02 ∷ []) (compact.Value 128 2 true) → ⊥
unfolding single read_compact read_form compact_value size_of le count_trailing_zeros
least_padded h =
    let z : ◌≡◌ {A = List ℕ} (128 ∷ 2 ∷ 1 ∷ []) (128 ∷ 2 ∷ 0 ∷ []) = ap (λ (t : Told). t.values) h in
    let y : ◌≡◌ {A = ℕ} 1 0 = cc in omega arith

-- `01` is whole: not 2
whole_cut : ReadsCompact (0x01 ∷ []) (compact.Refused (fault 2)) → ⊥
unfolding single read_compact read_form compact_value size_of le count_trailing_zeros
whole_cut h = let z : ◌≡◌ {A = ℕ} 2 0 = ap (λ (t : Told). t.number) h in omega arith

-- ---- write_compact

-- 128 does not go into one byte
one_byte : WritesCompact 128 (0 ∷ 0 ∷ []) (wrote.Done 1) (1 ∷ 0 ∷ []) → ⊥
unfolding written placed compact_bytes form_of form_from with_form size_of bytes
one_byte h = let z : ◌≡◌ {A = List ℕ} (1 ∷ []) (2 ∷ []) = ap (λ (t : Told). t.values) h.0 in let y : ◌≡◌ {A = ℕ} 1 2 = cc in omega arith

-- it needs two, not one
needs_one : WritesCompact 128 (0 ∷ []) (wrote.Refused (too_short 1)) (0 ∷ []) → ⊥
unfolding written placed compact_bytes form_of form_from with_form size_of bytes
needs_one h = let z : ◌≡◌ {A = ℕ} 1 2 = ap (λ (t : Told). t.needed) h.0 in omega arith

-- ---- read_extended_guid

-- `E0 07` and a GUID: 31 is outside the 10-bit form's range
outside_range : ReadsExtendedGuid (0xE0 ∷ 0x07 ∷ zeros) (extended.Value (id.Named nothing 31) 18) → ⊥
unfolding single read_extended_guid form_of_id short_form named_of guid_at le count_trailing_zeros zeros
outside_range h = let z : ◌≡◌ {A = ℕ} 0 3 = ap (λ (t : Told). t.number) h in omega arith

-- `04` and sixteen zero bytes is a zero GUID, not null
zero_is_null : ReadsExtendedGuid (0x04 ∷ zeros) (extended.Value id.Null 17) → ⊥
unfolding single read_extended_guid form_of_id short_form named_of guid_at le count_trailing_zeros zeros
zero_is_null h =
    let z : ◌≡◌ {A = List ℕ} (17 ∷ []) (0 ∷ 0 ∷ 0 ∷ 17 ∷ []) = ap (λ (t : Told). t.values) h in
    let y : ◌≡◌ {A = ℕ} 0 1 = cc in omega arith

-- ---- write_extended_guid

-- 32 does not go into the 5-bit form
five_bits : (exit : List ℕ) → WritesExtendedGuid (id.Named nothing 32) (0 ∷ 0 ∷ zeros) (wrote.Done 17) exit → ⊥
unfolding written extended_guid_bytes named_bytes short_bytes guid_bytes with_form bytes zeros
five_bits exit h =
    let z : ◌≡◌ {A = List ℕ} (17 ∷ []) (18 ∷ []) = ap (λ (t : Told). t.values) h.0 in
    let y : ◌≡◌ {A = ℕ} 17 18 = cc in omega arith

-- in the 32-bit form the GUID comes first
number_first : WritesExtendedGuid (id.Named nothing 0x20000) (9 ∷ 9 ∷ 9 ∷ 9 ∷ 9 ∷ zeros) (wrote.Done 21) (128 ∷ 0 ∷ 0 ∷ 2 ∷ 0 ∷ zeros) → ⊥
unfolding placed extended_guid_bytes named_bytes tagged_bytes guid_bytes bytes zeros
number_first h = let z = h.1 in let y : ◌≡◌ {A = ℕ} 2 0 = cc in omega arith

-- ---- read_serial

-- `81` is in no form: not 2
no_form : ReadsSerial (0x81 ∷ []) (serial.Refused (fault 2)) → ⊥
unfolding single read_serial
no_form h = let z : ◌≡◌ {A = ℕ} 2 3 = ap (λ (t : Told). t.number) h in omega arith

-- `80` alone is cut: not 3
cut_form : ReadsSerial (0x80 ∷ []) (serial.Refused (fault 3)) → ⊥
unfolding single read_serial numbered
cut_form h = let z : ◌≡◌ {A = ℕ} 3 2 = ap (λ (t : Told). t.number) h in omega arith

-- ---- write_serial

-- it needs 25 bytes, not 24
needs_less : WritesSerial (number.Numbered nothing 7) [] (wrote.Refused (too_short 24)) [] → ⊥
unfolding written serial_bytes tagged_bytes guid_bytes bytes
needs_less h = let z : ◌≡◌ {A = ℕ} 24 25 = ap (λ (t : Told). t.needed) h.0 in omega arith

-- null is one byte
null_of_two : WritesSerial number.Null (9 ∷ 9 ∷ []) (wrote.Done 2) (0 ∷ 0 ∷ []) → ⊥
unfolding placed serial_bytes
null_of_two h = let z = h.1 in let y : ◌≡◌ {A = ℕ} 0 9 = cc in omega arith

-- ---- item

-- `02 00` is not 0 for a caller who refuses padding
padded_taken : compact_for padding_refused (0x02 ∷ 0x00 ∷ []) ≡ compact.Value 0 2 true → ⊥
unfolding compact_for read_compact read_form compact_value size_of le count_trailing_zeros
padded_taken h = impossible (cc)

-- nor is it refused for one who takes it
padded_refused : compact_for padding_taken (0x02 ∷ 0x00 ∷ []) ≡ compact.Refused (fault 3) → ⊥
unfolding compact_for read_compact read_form compact_value size_of le count_trailing_zeros
padded_refused h = impossible (cc)

-- ---- the order of GUIDs, by which ranges stand

-- `01 00..` does not come before `00 01 00..`, though its little-endian number is the lower
by_numbers : guid_before (record { low = 1; high = 0 }) (record { low = 256; high = 0 }) ≡ true → ⊥
unfolding guid_before guid_bytes before bytes
by_numbers h = impossible (cc)

-- a GUID does not come before itself
before_itself : guid_before nothing nothing ≡ true → ⊥
unfolding guid_before guid_bytes before bytes
before_itself h = impossible (cc)
