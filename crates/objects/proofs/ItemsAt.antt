-- Items and parts at a place of the input: where one would stand behind the input, and where one ends.
-- Assumes nothing.
use mathlib.Core.Path.{◌≡◌, refl, sym, subst, ◌∙◌}
use mathlib.Core.List.{List, []}
use Prim.Native.Nat.{ℕ, ◌+◌, ◌-◌, ◌<◌, ◌≤◌}
use native.Mathlib.Omega.{arith}
use lib.ListN.{length, take, drop, length-drop, length-take, drop_of_length-le}
use lib.Seq.{take_all, take-nil}
use Rattle.laws.proofs.Parts.{tail_part}
use Rattle.numbers.specs.Refusals.{fault}
use Rattle.numbers.specs.ExtendedGuid.{read_extended_guid}
use Rattle.numbers.specs.Serial.{read_serial}
use Rattle.numbers.specs.Results.ExtendedGuid.{ExtendedGuid}
use Rattle.numbers.specs.Results.ReadExtendedGuid as extended
use Rattle.numbers.specs.Results.Serial.{Serial}
use Rattle.numbers.specs.Results.ReadSerial as serial
use Rattle.numbers.proofs.Within.{ExtendedGuidWithin, extended_guid_within, SerialWithin, serial_within}

-- ---- extended GUIDs and serial numbers

no_id : read_extended_guid [] ≡ extended.Refused (fault 2)
unfolding read_extended_guid
no_id = refl

pub id_past : (s : List ℕ) (at : ℕ) → length s < at → read_extended_guid (drop at s) ≡ extended.Refused (fault 2)
id_past s at h = let l : length s ≤ at = omega arith in rw (drop_of_length-le s {i = at} l) no_id

pub id_fits : (s : List ℕ) (at : ℕ) (x : ExtendedGuid) (n : ℕ) → read_extended_guid (drop at s) ≡ extended.Value x n → (0 < n) × (at + n ≤ length s)
id_fits s at x n e =
    let w : ExtendedGuidWithin (length (drop at s)) (extended.Value x n) = subst (ExtendedGuidWithin (length (drop at s))) e (extended_guid_within (drop at s)) in
    (w.0, omega (arith, length-drop at s))

no_serial : read_serial [] ≡ serial.Refused (fault 2)
unfolding read_serial
no_serial = refl

pub serial_past : (s : List ℕ) (at : ℕ) → length s < at → read_serial (drop at s) ≡ serial.Refused (fault 2)
serial_past s at h = let l : length s ≤ at = omega arith in rw (drop_of_length-le s {i = at} l) no_serial

pub serial_fits : (s : List ℕ) (at : ℕ) (x : Serial) (n : ℕ) → read_serial (drop at s) ≡ serial.Value x n → (0 < n) × (at + n ≤ length s)
serial_fits s at x n e =
    let w : SerialWithin (length (drop at s)) (serial.Value x n) = subst (SerialWithin (length (drop at s))) e (serial_within (drop at s)) in
    (w.0, omega (arith, length-drop at s))

-- ---- parts

pub part_past : (s : List ℕ) (at n : ℕ) → length s < at → take n (drop at s) ≡ take 0 s
part_past s at n h = let l : length s ≤ at = omega arith in rw (drop_of_length-le s {i = at} l, take-nil n)

-- a run that the input ends in
pub rest_part : (s : List ℕ) (at n : ℕ) → length s - at ≤ n → take (length s - at) (drop at s) ≡ take n (drop at s)
rest_part s at n h = tail_part at s ∙ sym (take_all n (drop at s) (simp length-drop h))

-- a run ends within the input, or is empty
pub part_fits : (s : List ℕ) (at n m : ℕ) → at ≤ m → length s ≤ m → at + length (take n (drop at s)) ≤ m
part_fits s at n m a b = omega (arith, length-take n (drop at s), length-drop at s)
