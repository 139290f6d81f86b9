-- Different answers of readers along a layout tell different things, so that an equation of what is told is one of the answers.
-- Assumes nothing.
use mathlib.Core.Path.{◌≡◌, ap}
use Prim.Native.Nat.{ℕ}
use mathlib.Core.List.{List, [], ◌∷◌}
use Rattle.laws.proofs.Cases.{impossible}
use Rattle.laws.proofs.OneAnswer.{Telling}
use Rattle.numbers.specs.declared.guid.Guid.{Guid}
use Rattle.numbers.specs.Results.ExtendedGuid as id
use Rattle.numbers.specs.Results.Serial as number
use Rattle.numbers.proofs.OneAnswers.{refuses_telling, same_guid, values_of}
use Rattle.objects.specs.Tellings.{tell_length, tell_passed, tell_reading, tell_reading_guid, tell_reading_id, tell_reading_serial}
use Rattle.objects.specs.Results.Length as length'
use Rattle.objects.specs.Results.Passed as passed
use Rattle.objects.specs.Results.Reading as reading
use Rattle.objects.specs.Results.ReadingGuid as guid'
use Rattle.objects.specs.Results.ReadingId as id'
use Rattle.objects.specs.Results.ReadingSerial as serial'

pub length_telling : Telling tell_length
length_telling (length'.Is n f) (length'.Is n' f') e = let v = values_of _ _ e in cc
length_telling (length'.Is n f) (length'.Refused q) e = let v = values_of _ _ e in impossible (cc)
length_telling (length'.Refused r) (length'.Is n' f') e = let v = values_of _ _ e in impossible (cc)
length_telling (length'.Refused r) (length'.Refused q) e = ap length'.Refused (refuses_telling r q e)

pub passed_telling : Telling tell_passed
passed_telling (passed.To n) (passed.To n') e = let v = values_of _ _ e in cc
passed_telling (passed.To n) (passed.Refused q) e = let v = values_of _ _ e in impossible (cc)
passed_telling (passed.Refused r) (passed.To n') e = let v = values_of _ _ e in impossible (cc)
passed_telling (passed.Refused r) (passed.Refused q) e = ap passed.Refused (refuses_telling r q e)

pub reading_telling : Telling tell_reading
reading_telling (reading.At p n) (reading.At p' n') e = let v = values_of _ _ e in cc
reading_telling (reading.At p n) (reading.Refused q) e = let v = values_of _ _ e in impossible (cc)
reading_telling (reading.Refused r) (reading.At p' n') e = let v = values_of _ _ e in impossible (cc)
reading_telling (reading.Refused r) (reading.Refused q) e = ap reading.Refused (refuses_telling r q e)

-- a place, a GUID and a number among the values
same_field : {p q : ℕ} {g h : Guid} {l m : List ℕ} → ◌≡◌ {A = List ℕ} (p ∷ g.low ∷ g.high ∷ l) (q ∷ h.low ∷ h.high ∷ m) → (p ≡ q) × (g ≡ h) × (l ≡ m)
same_field {p} {q} {g} {h} v =
    let a : g.low ≡ h.low = cc in
    let b : g.high ≡ h.high = cc in
    (cc, same_guid a b, cc)

pub reading_guid_telling : Telling tell_reading_guid
reading_guid_telling (guid'.At p g) (guid'.At q h) e = let s = same_field {l = []} {m = []} (values_of _ _ e) in cc
reading_guid_telling (guid'.At p g) (guid'.Refused q) e = let v = values_of _ _ e in impossible (cc)
reading_guid_telling (guid'.Refused r) (guid'.At q h) e = let v = values_of _ _ e in impossible (cc)
reading_guid_telling (guid'.Refused r) (guid'.Refused q) e = ap guid'.Refused (refuses_telling r q e)

pub reading_id_telling : Telling tell_reading_id
reading_id_telling (id'.At p id.Null) (id'.At q id.Null) e = let v = values_of _ _ e in cc
reading_id_telling (id'.At p id.Null) (id'.At q (id.Named h y)) e = let v = values_of _ _ e in impossible (cc)
reading_id_telling (id'.At p id.Null) (id'.Refused q) e = let v = values_of _ _ e in impossible (cc)
reading_id_telling (id'.At p (id.Named g x)) (id'.At q id.Null) e = let v = values_of _ _ e in impossible (cc)
reading_id_telling (id'.At p (id.Named g x)) (id'.At q (id.Named h y)) e = let s = same_field {l = x ∷ []} {m = y ∷ []} (values_of _ _ e) in cc
reading_id_telling (id'.At p (id.Named g x)) (id'.Refused q) e = let v = values_of _ _ e in impossible (cc)
reading_id_telling (id'.Refused r) (id'.At q id.Null) e = let v = values_of _ _ e in impossible (cc)
reading_id_telling (id'.Refused r) (id'.At q (id.Named h y)) e = let v = values_of _ _ e in impossible (cc)
reading_id_telling (id'.Refused r) (id'.Refused q) e = ap id'.Refused (refuses_telling r q e)

pub reading_serial_telling : Telling tell_reading_serial
reading_serial_telling (serial'.At p number.Null) (serial'.At q number.Null) e = let v = values_of _ _ e in cc
reading_serial_telling (serial'.At p number.Null) (serial'.At q (number.Numbered h y)) e = let v = values_of _ _ e in impossible (cc)
reading_serial_telling (serial'.At p number.Null) (serial'.Refused q) e = let v = values_of _ _ e in impossible (cc)
reading_serial_telling (serial'.At p (number.Numbered g x)) (serial'.At q number.Null) e = let v = values_of _ _ e in impossible (cc)
reading_serial_telling (serial'.At p (number.Numbered g x)) (serial'.At q (number.Numbered h y)) e = let s = same_field {l = x ∷ []} {m = y ∷ []} (values_of _ _ e) in cc
reading_serial_telling (serial'.At p (number.Numbered g x)) (serial'.Refused q) e = let v = values_of _ _ e in impossible (cc)
reading_serial_telling (serial'.Refused r) (serial'.At q number.Null) e = let v = values_of _ _ e in impossible (cc)
reading_serial_telling (serial'.Refused r) (serial'.At q (number.Numbered h y)) e = let v = values_of _ _ e in impossible (cc)
reading_serial_telling (serial'.Refused r) (serial'.Refused q) e = ap serial'.Refused (refuses_telling r q e)
