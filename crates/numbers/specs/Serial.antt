-- "Serial number: byte 0, or byte 128, GUID, 8-byte number" (000, 2.2.1.9).
-- Assumes nothing.
use Rattle.std.specs.Prelude.{ℕ, ◌^◌, ◌<◌, List, [], ◌∷◌, length, get_or, take, drop, ltb, eqb}
use Rattle.laws.specs.Pick.{pick}
use Rattle.laws.specs.Bytes.{le}
use Rattle.numbers.specs.Refusals.{fault}
use Rattle.numbers.specs.Guid.{guid_at, tagged_bytes, GuidFits}
use Rattle.numbers.specs.Results.Serial.{Null, Numbered, Serial}
use Rattle.numbers.specs.Results.ReadSerial.{ReadSerial, Refused, Value}

-- byte 128, GUID, number: 2 where it runs past the end
unfoldable pub numbered : List ℕ → ReadSerial
numbered s =
    pick (ltb (length s) 25) (Refused (fault 2))
    (Value (Numbered (guid_at (drop 1 s)) (le (take 8 (drop 17 s)))) 25)

-- by the first byte; any other is in no form
unfoldable pub read_serial : List ℕ → ReadSerial
read_serial s =
    pick (eqb (length s) 0) (Refused (fault 2))
    (pick (eqb (get_or s 0 0) 0) (Value Null 1)
    (pick (eqb (get_or s 0 0) 128) (numbered s) (Refused (fault 3))))

-- ---- written

unfoldable pub serial_bytes : Serial → List ℕ
serial_bytes Null = 0 ∷ []
serial_bytes (Numbered g x) = tagged_bytes 8 g x

-- what a serial number can hold
abbrev pub SerialFits : Serial → Type 0
SerialFits Null = Unit {0}
SerialFits (Numbered g x) = GuidFits g × (x < 2 ^ 64)
