-- A serial number that was read, and the bytes used; or the refusal.
-- Assumes nothing.
use Rattle.std.specs.Prelude.{ℕ, Result, Ok, Err}
use Rattle.numbers.specs.declared.refusal.Refusal.{Refusal}
use Rattle.numbers.specs.Results.Serial.{Serial}

abbrev pub ReadSerial : Type 0
ReadSerial = Result (Serial × ℕ) Refusal

pattern abbrev pub Value : Serial → ℕ → ReadSerial
Value x n = Ok (x, n)

pattern abbrev pub Refused : Refusal → ReadSerial
Refused r = Err r
