-- The place behind what was passed over; or the refusal.
-- Assumes nothing.
use Rattle.std.specs.Prelude.{ℕ, Result, Ok, Err}
use Rattle.numbers.specs.declared.refusal.Refusal.{Refusal}

abbrev pub Passed : Type 0
Passed = Result ℕ Refusal

pattern abbrev pub To : ℕ → Passed
To e = Ok e

pattern abbrev pub Refused : Refusal → Passed
Refused r = Err r
