-- What the answers of readers along a layout tell, in document 01's terms: the values in the order of the type, or the refusal.
-- Assumes nothing.
use Rattle.std.specs.Prelude.{[], ◌∷◌}
use Rattle.numbers.specs.Refusals.{Told, gives, refuses}
use Rattle.numbers.specs.Results.ExtendedGuid as id
use Rattle.numbers.specs.Results.Serial as number
use Rattle.objects.specs.Results.Length.{Length}
use Rattle.objects.specs.Results.Length as length'
use Rattle.objects.specs.Results.Passed.{Passed}
use Rattle.objects.specs.Results.Passed as passed
use Rattle.objects.specs.Results.Reading.{Reading}
use Rattle.objects.specs.Results.Reading as reading
use Rattle.objects.specs.Results.ReadingGuid.{ReadingGuid}
use Rattle.objects.specs.Results.ReadingGuid as guid'
use Rattle.objects.specs.Results.ReadingId.{ReadingId}
use Rattle.objects.specs.Results.ReadingId as id'
use Rattle.objects.specs.Results.ReadingSerial.{ReadingSerial}
use Rattle.objects.specs.Results.ReadingSerial as serial'

-- the true length, and the place where the data begins
abbrev pub tell_length : Length → Told
tell_length (length'.Is n from) = gives (n ∷ from ∷ [])
tell_length (length'.Refused r) = refuses r

-- the place behind
abbrev pub tell_passed : Passed → Told
tell_passed (passed.To e) = gives (e ∷ [])
tell_passed (passed.Refused r) = refuses r

-- the place, and the number that was read last
abbrev pub tell_reading : Reading → Told
tell_reading (reading.At p v) = gives (p ∷ v ∷ [])
tell_reading (reading.Refused r) = refuses r

-- the place behind, and the field
abbrev pub tell_reading_guid : ReadingGuid → Told
tell_reading_guid (guid'.At p g) = gives (p ∷ g.low ∷ g.high ∷ [])
tell_reading_guid (guid'.Refused r) = refuses r

abbrev pub tell_reading_id : ReadingId → Told
tell_reading_id (id'.At p id.Null) = gives (p ∷ [])
tell_reading_id (id'.At p (id.Named g x)) = gives (p ∷ g.low ∷ g.high ∷ x ∷ [])
tell_reading_id (id'.Refused r) = refuses r

abbrev pub tell_reading_serial : ReadingSerial → Told
tell_reading_serial (serial'.At p number.Null) = gives (p ∷ [])
tell_reading_serial (serial'.At p (number.Numbered g x)) = gives (p ∷ g.low ∷ g.high ∷ x ∷ [])
tell_reading_serial (serial'.Refused r) = refuses r
