-- The length of an object's data, and the place where the data begins; or the refusal.
-- Assumes nothing.
use Rattle.std.specs.Prelude.{ℕ, Result, Ok, Err}
use Rattle.numbers.specs.declared.refusal.Refusal.{Refusal}

abbrev pub Length : Type 0
Length = Result (ℕ × ℕ) Refusal

pattern abbrev pub Is : ℕ → ℕ → Length
Is n from = Ok (n, from)

pattern abbrev pub Refused : Refusal → Length
Refused r = Err r
