-- The place behind a serial number, and it; or the refusal.
-- Assumes nothing.
use Rattle.std.specs.Prelude.{ℕ, Ok, Err}
use Rattle.numbers.specs.declared.refusal.Refusal.{Refusal}
use Rattle.objects.specs.Results.Reads.{Reads}
use Rattle.numbers.specs.Results.Serial.{Serial}

abbrev pub ReadingSerial : Type 0
ReadingSerial = Reads Serial

pattern abbrev pub At : ℕ → Serial → ReadingSerial
At p x = Ok (p, x)

pattern abbrev pub Refused : Refusal → ReadingSerial
Refused r = Err r
