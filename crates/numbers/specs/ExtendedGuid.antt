-- The extended GUID (document 01, 'Numbers and names'; 000, 2.2.1.7): null, or a GUID and a number, in four forms.
-- Assumes nothing.
use Rattle.std.specs.Prelude.{ℕ, ◌+◌, ◌/◌, ◌^◌, ◌<◌, List, [], ◌∷◌, ◌++◌, length, get_or, take, drop, ltb, eqb}
use Rattle.std.specs.Int.Count.{count_trailing_zeros}
use Rattle.laws.specs.Pick.{pick}
use Rattle.laws.specs.Bytes.{le, bytes}
use Rattle.numbers.specs.Refusals.{fault}
use Rattle.numbers.specs.Compact.{with_form}
use Rattle.numbers.specs.Guid.{guid_at, guid_bytes, tagged_bytes, GuidFits}
use Rattle.numbers.specs.declared.guid.Guid.{Guid}
use Rattle.numbers.specs.Results.ExtendedGuid.{ExtendedGuid, Named, Null}
use Rattle.numbers.specs.Results.ReadExtendedGuid.{ReadExtendedGuid, Refused, Value}

-- an item of n bytes at the front of s, with the GUID behind its first g and the number x: 2 where it runs past the end, 3
-- where the number is below the form's range
unfoldable pub named_of : ℕ → ℕ → ℕ → ℕ → List ℕ → ReadExtendedGuid
named_of n g x least s =
    pick (ltb (length s) n) (Refused (fault 2))
    (pick (ltb x least) (Refused (fault 3)) (Value (Named (guid_at (drop g s)) x) n))

-- "The first three put the GUID after the number": m bytes of number, less their k + 1 low bits, then the GUID
unfoldable pub short_form : ℕ → ℕ → ℕ → List ℕ → ReadExtendedGuid
short_form k m least s = named_of (m + 16) m (le (take m s) / 2 ^ (k + 1)) least s

-- "The 32-bit form is byte 128, GUID, number"
unfoldable pub long_form : List ℕ → ReadExtendedGuid
long_form s = named_of 21 1 (le (take 4 (drop 17 s))) 0x20000 s

-- by the zero bits below the first byte's lowest set bit; any other first byte is in no form
unfoldable pub form_of_id : ℕ → List ℕ → ReadExtendedGuid
form_of_id k s =
    pick (eqb k 2) (short_form 2 1 0 s)  -- 5-bit number: low 3 bits 4, 17 bytes, 0 to 0x1F
    (pick (eqb k 5) (short_form 5 2 0x20 s)  -- 10-bit: low 6 bits 32, 18 bytes, 0x20 to 0x3FF
    (pick (eqb k 6) (short_form 6 3 0x400 s)  -- 17-bit: low 7 bits 64, 19 bytes, 0x400 to 0x1FFFF
    (pick (eqb k 7) (long_form s)  -- 32-bit: byte 128, 21 bytes, from 0x20000
    (Refused (fault 3)))))

unfoldable pub read_extended_guid : List ℕ → ReadExtendedGuid
read_extended_guid s =
    pick (eqb (length s) 0) (Refused (fault 2))
    (pick (eqb (get_or s 0 0) 0) (Value Null 1)  -- null: byte 0
    (form_of_id (count_trailing_zeros 8 (get_or s 0 0)) s))

-- ---- written, each number in the form that has it in its range

unfoldable pub short_bytes : ℕ → ℕ → Guid → ℕ → List ℕ
short_bytes k m g x = bytes m (with_form k x) ++ guid_bytes g

unfoldable pub named_bytes : Guid → ℕ → List ℕ
named_bytes g x =
    pick (ltb x 0x20) (short_bytes 2 1 g x)
    (pick (ltb x 0x400) (short_bytes 5 2 g x)
    (pick (ltb x 0x20000) (short_bytes 6 3 g x)
    (tagged_bytes 4 g x)))

unfoldable pub extended_guid_bytes : ExtendedGuid → List ℕ
extended_guid_bytes Null = 0 ∷ []
extended_guid_bytes (Named g x) = named_bytes g x

-- what an extended GUID can hold
abbrev pub ExtendedGuidFits : ExtendedGuid → Type 0
ExtendedGuidFits Null = Unit {0}
ExtendedGuidFits (Named g x) = GuidFits g × (x < 2 ^ 32)
