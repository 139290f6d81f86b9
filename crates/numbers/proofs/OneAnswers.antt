-- Each call for a single item determines its answer, and the buffer that it is lent: any two that its promise allows are equal.
-- Assumes nothing.
use mathlib.Core.Path.{◌≡◌, ap, sym, refl, ◌∙◌}
use mathlib.Core.Bool.{true, false}
use mathlib.Core.Logic.{◌↔◌}
use Prim.Native.Nat.{ℕ, ◌≤◌, ◌<◌}
use mathlib.Core.List.{List, [], ◌∷◌}
use lib.ListN.{length}
use Rattle.std.specs.Prelude.{Result, Ok, Err, IsOk, IsErrOf, ⊤}
use Rattle.laws.proofs.Cases.{by_lt, impossible}
use Rattle.laws.proofs.OneAnswer.{Telling, one_answer, one_outcome}
use Rattle.numbers.specs.Refusals.{Told, refuses, tell_wrote, longest_input, over_long}
use Rattle.numbers.specs.Calls.{tell_compact, tell_extended_guid, tell_serial, ReadsCompact, ReadsExtendedGuid, ReadsSerial, Writes}
use Rattle.numbers.specs.declared.refusal.Refusal.{Refusal}
use Rattle.numbers.specs.declared.guid.Guid.{Guid}
use Rattle.numbers.specs.Results.Wrote.{Wrote}
use Rattle.numbers.specs.Results.Wrote as wrote
use Rattle.numbers.specs.Results.Compact.{Compact}
use Rattle.numbers.specs.Results.Compact as compact
use Rattle.numbers.specs.Results.ExtendedGuid as id
use Rattle.numbers.specs.Results.ReadExtendedGuid.{ReadExtendedGuid}
use Rattle.numbers.specs.Results.ReadExtendedGuid as extended
use Rattle.numbers.specs.Results.Serial as number
use Rattle.numbers.specs.Results.ReadSerial.{ReadSerial}
use Rattle.numbers.specs.Results.ReadSerial as serial

-- ---- an answer is known by what it tells

-- equal tellings have equal values
pub values_of : (a b : Told) → a ≡ b → a.values ≡ b.values
values_of a b e = ap (λ (t : Told). t.values) e

-- what holds four numbers, or two, is known by them
abbrev refusal_of : ℕ → ℕ → ℕ → ℕ → Refusal
refusal_of n i p d = record { number = n; input = i; place = p; needed = d }

same_refusal : {n i p d n' i' p' d' : ℕ} → n ≡ n' → i ≡ i' → p ≡ p' → d ≡ d' → refusal_of n i p d ≡ refusal_of n' i' p' d'
same_refusal a b c d = cc

abbrev pub guid_of_lem : ℕ → ℕ → Guid
guid_of_lem l h = record { low = l; high = h }

pub same_guid : {l h l' h' : ℕ} → l ≡ l' → h ≡ h' → guid_of_lem l h ≡ guid_of_lem l' h'
same_guid a b = cc

pub refuses_telling : Telling refuses
refuses_telling r q e =
    same_refusal (ap (λ (t : Told). t.number) e) (ap (λ (t : Told). t.input) e) (ap (λ (t : Told). t.place) e) (ap (λ (t : Told). t.needed) e)

pub wrote_telling : Telling tell_wrote
wrote_telling (wrote.Done n) (wrote.Done m) e = let v = values_of _ _ e in cc
wrote_telling (wrote.Done n) (wrote.Refused q) e = let v = values_of _ _ e in impossible (cc)
wrote_telling (wrote.Refused r) (wrote.Done m) e = let v = values_of _ _ e in impossible (cc)
wrote_telling (wrote.Refused r) (wrote.Refused q) e = ap wrote.Refused (refuses_telling r q e)

pub compact_telling : Telling tell_compact
compact_telling (compact.Value v n true) (compact.Value w m true) e = let v = values_of _ _ e in cc
compact_telling (compact.Value v n true) (compact.Value w m false) e = let v = values_of _ _ e in impossible (cc)
compact_telling (compact.Value v n false) (compact.Value w m true) e = let v = values_of _ _ e in impossible (cc)
compact_telling (compact.Value v n false) (compact.Value w m false) e = let v = values_of _ _ e in cc
compact_telling (compact.Value v n padded) (compact.Refused q) e = let v = values_of _ _ e in impossible (cc)
compact_telling (compact.Refused r) (compact.Value w m padded) e = let v = values_of _ _ e in impossible (cc)
compact_telling (compact.Refused r) (compact.Refused q) e = ap compact.Refused (refuses_telling r q e)

-- a GUID, a number and the bytes used, among four values
same_named : {g h : Guid} {x y n m : ℕ} → ◌≡◌ {A = List ℕ} (g.low ∷ g.high ∷ x ∷ n ∷ []) (h.low ∷ h.high ∷ y ∷ m ∷ []) → (g ≡ h) × (x ≡ y) × (n ≡ m)
same_named {g} {h} {x} {y} {n} {m} v =
    let a : g.low ≡ h.low = cc in
    let b : g.high ≡ h.high = cc in
    (same_guid a b, cc, cc)

pub extended_guid_telling : Telling tell_extended_guid
extended_guid_telling (extended.Value id.Null n) (extended.Value id.Null m) e = let v = values_of _ _ e in cc
extended_guid_telling (extended.Value id.Null n) (extended.Value (id.Named h y) m) e = let v = values_of _ _ e in impossible (cc)
extended_guid_telling (extended.Value id.Null n) (extended.Refused q) e = let v = values_of _ _ e in impossible (cc)
extended_guid_telling (extended.Value (id.Named g x) n) (extended.Value id.Null m) e = let v = values_of _ _ e in impossible (cc)
extended_guid_telling (extended.Value (id.Named g x) n) (extended.Value (id.Named h y) m) e = let s = same_named (values_of _ _ e) in cc
extended_guid_telling (extended.Value (id.Named g x) n) (extended.Refused q) e = let v = values_of _ _ e in impossible (cc)
extended_guid_telling (extended.Refused r) (extended.Value id.Null m) e = let v = values_of _ _ e in impossible (cc)
extended_guid_telling (extended.Refused r) (extended.Value (id.Named h y) m) e = let v = values_of _ _ e in impossible (cc)
extended_guid_telling (extended.Refused r) (extended.Refused q) e = ap extended.Refused (refuses_telling r q e)

pub serial_telling : Telling tell_serial
serial_telling (serial.Value number.Null n) (serial.Value number.Null m) e = let v = values_of _ _ e in cc
serial_telling (serial.Value number.Null n) (serial.Value (number.Numbered h y) m) e = let v = values_of _ _ e in impossible (cc)
serial_telling (serial.Value number.Null n) (serial.Refused q) e = let v = values_of _ _ e in impossible (cc)
serial_telling (serial.Value (number.Numbered g x) n) (serial.Value number.Null m) e = let v = values_of _ _ e in impossible (cc)
serial_telling (serial.Value (number.Numbered g x) n) (serial.Value (number.Numbered h y) m) e = let s = same_named (values_of _ _ e) in cc
serial_telling (serial.Value (number.Numbered g x) n) (serial.Refused q) e = let v = values_of _ _ e in impossible (cc)
serial_telling (serial.Refused r) (serial.Value number.Null m) e = let v = values_of _ _ e in impossible (cc)
serial_telling (serial.Refused r) (serial.Value (number.Numbered h y) m) e = let v = values_of _ _ e in impossible (cc)
serial_telling (serial.Refused r) (serial.Refused q) e = ap serial.Refused (refuses_telling r q e)

-- ---- any two answers allowed are equal

pub read_compact_one : (s : List ℕ) (r q : Compact) → ReadsCompact s r → ReadsCompact s q → r ≡ q
read_compact_one s r q a b = one_answer compact_telling a b

pub read_extended_guid_one : (s : List ℕ) (r q : ReadExtendedGuid) → ReadsExtendedGuid s r → ReadsExtendedGuid s q → r ≡ q
read_extended_guid_one s r q a b = one_answer extended_guid_telling a b

pub read_serial_one : (s : List ℕ) (r q : ReadSerial) → ReadsSerial s r → ReadsSerial s q → r ≡ q
read_serial_one s r q a b = one_answer serial_telling a b

-- of any item's bytes w, so of every call that writes one
pub writes_one : (w entry : List ℕ) (r q : Wrote) (x y : List ℕ) → Writes w entry r x → Writes w entry q y → (r ≡ q) × (x ≡ y)
writes_one w entry r q x y a b = one_outcome wrote_telling a b

-- what is answered of an input within the limit is nothing more
within_is : (r : Result ⊤ Refusal) → IsOk r → r ≡ Ok tt
within_is (Ok x) h = refl
within_is (Err e) h = impossible (cc)

pub within_limit_one : (s : List ℕ) (r q : Result ⊤ Refusal)
    → (IsOk r ↔ (length s ≤ longest_input)) × (IsErrOf r over_long ↔ (longest_input < length s))
    → (IsOk q ↔ (length s ≤ longest_input)) × (IsErrOf q over_long ↔ (longest_input < length s)) → r ≡ q
within_limit_one s r q a b =
    by_lt longest_input (length s) (λ l. a.1.1 l ∙ sym (b.1.1 l)) (λ l. within_is r (a.0.1 l) ∙ sym (within_is q (b.0.1 l)))
