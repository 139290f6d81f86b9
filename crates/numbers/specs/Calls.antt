-- What each call for a single item promises. "A single item is read from the front of a slice that counts as the store."
-- Assumes nothing.
use Rattle.std.specs.Prelude.{◌≡◌, ℕ, List, [], ◌∷◌, length, ltb}
use Rattle.laws.specs.Pick.{pick}
use Rattle.laws.specs.Placed.{placed}
use Rattle.numbers.specs.Refusals.{Told, gives, refuses, longest_input, over_long, too_short, tell_wrote}
use Rattle.numbers.specs.Compact.{read_compact, compact_bytes}
use Rattle.numbers.specs.ExtendedGuid.{read_extended_guid, extended_guid_bytes}
use Rattle.numbers.specs.Serial.{read_serial, serial_bytes}
use Rattle.numbers.specs.Results.Wrote.{Wrote}
use Rattle.numbers.specs.Results.Compact.{Compact}
use Rattle.numbers.specs.Results.Compact as compact
use Rattle.numbers.specs.Results.ExtendedGuid.{ExtendedGuid}
use Rattle.numbers.specs.Results.ExtendedGuid as id
use Rattle.numbers.specs.Results.ReadExtendedGuid.{ReadExtendedGuid}
use Rattle.numbers.specs.Results.ReadExtendedGuid as extended
use Rattle.numbers.specs.Results.Serial.{Serial}
use Rattle.numbers.specs.Results.Serial as number
use Rattle.numbers.specs.Results.ReadSerial.{ReadSerial}
use Rattle.numbers.specs.Results.ReadSerial as serial

-- the value, the bytes used, and 1 where it was padded
abbrev pub tell_compact : Compact → Told
tell_compact (compact.Value v n padded) = gives (v ∷ n ∷ pick padded 1 0 ∷ [])
tell_compact (compact.Refused r) = refuses r

-- null: the bytes used; else the GUID as two numbers, the number, the bytes used
abbrev pub tell_extended_guid : ReadExtendedGuid → Told
tell_extended_guid (extended.Value id.Null n) = gives (n ∷ [])
tell_extended_guid (extended.Value (id.Named g x) n) = gives (g.low ∷ g.high ∷ x ∷ n ∷ [])
tell_extended_guid (extended.Refused r) = refuses r

-- the same of a serial number
abbrev pub tell_serial : ReadSerial → Told
tell_serial (serial.Value number.Null n) = gives (n ∷ [])
tell_serial (serial.Value (number.Numbered g x) n) = gives (g.low ∷ g.high ∷ x ∷ n ∷ [])
tell_serial (serial.Refused r) = refuses r

-- reading one item: "An over-long input gives 1 before its other faults"
unfoldable pub single : (List ℕ → Told) → List ℕ → Told
single item s = pick (ltb longest_input (length s)) (refuses over_long) (item s)

-- writing the bytes w of one item: 14 with their length, or that many bytes taken
unfoldable pub written : List ℕ → List ℕ → Told
written w out = pick (ltb (length out) (length w)) (refuses (too_short (length w))) (gives (length w ∷ []))

-- ---- the promises

abbrev pub ReadsCompact : List ℕ → Compact → Type 0
ReadsCompact s r = tell_compact r ≡ single (λ t. tell_compact (read_compact t)) s

abbrev pub ReadsExtendedGuid : List ℕ → ReadExtendedGuid → Type 0
ReadsExtendedGuid s r = tell_extended_guid r ≡ single (λ t. tell_extended_guid (read_extended_guid t)) s

abbrev pub ReadsSerial : List ℕ → ReadSerial → Type 0
ReadsSerial s r = tell_serial r ≡ single (λ t. tell_serial (read_serial t)) s

-- the item's bytes w over a lent buffer: what is answered, and what it holds at exit
abbrev pub Writes : List ℕ → List ℕ → Wrote → List ℕ → Type 0
Writes w entry r exit = (tell_wrote r ≡ written w entry) × (exit ≡ placed w entry)

abbrev pub WritesCompact : ℕ → List ℕ → Wrote → List ℕ → Type 0
WritesCompact v entry r exit = Writes (compact_bytes v) entry r exit

abbrev pub WritesExtendedGuid : ExtendedGuid → List ℕ → Wrote → List ℕ → Type 0
WritesExtendedGuid x entry r exit = Writes (extended_guid_bytes x) entry r exit

abbrev pub WritesSerial : Serial → List ℕ → Wrote → List ℕ → Type 0
WritesSerial x entry r exit = Writes (serial_bytes x) entry r exit
