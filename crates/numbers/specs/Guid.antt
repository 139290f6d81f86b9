-- A GUID: sixteen bytes, held as two little-endian numbers, and in order by its sixteen bytes; and the form that puts byte
-- 128 before one and a number behind it.
-- Assumes nothing.
use Rattle.std.specs.Prelude.{ℕ, ◌^◌, ◌<◌, Bool, List, ◌∷◌, ◌++◌, take, drop}
use Rattle.laws.specs.Bytes.{le, bytes, before, be}
use Rattle.numbers.specs.declared.guid.Guid.{Guid}

-- the sixteen bytes at the front of s: bytes 0 to 7, then 8 to 15
unfoldable pub guid_at : List ℕ → Guid
guid_at s = record { low = le (take 8 s); high = le (take 8 (drop 8 s)) }

unfoldable pub guid_bytes : Guid → List ℕ
guid_bytes g = bytes 8 g.low ++ bytes 8 g.high

-- byte 128, the GUID, and a number of n bytes: the longest form of an extended GUID (n is 4) and of a serial number (8)
unfoldable pub tagged_bytes : ℕ → Guid → ℕ → List ℕ
tagged_bytes n g x = 128 ∷ (guid_bytes g ++ bytes n x)

-- two numbers that a GUID can hold
abbrev pub GuidFits : Guid → Type 0
GuidFits g = (g.low < 2 ^ 64) × (g.high < 2 ^ 64)

-- "ordered by the GUID's sixteen bytes"
unfoldable pub guid_before : Guid → Guid → Bool
guid_before a b = before (guid_bytes a) (guid_bytes b)

-- eight bytes as a number whose order is theirs: the first byte highest
unfoldable pub swapped : ℕ → ℕ
swapped x = be (bytes 8 x)
