-- How many elements a store holds; or the refusal.
-- Assumes nothing.
use Rattle.std.specs.Prelude.{ℕ, Result, Ok, Err}
use Rattle.numbers.specs.declared.refusal.Refusal.{Refusal}

abbrev pub Stored : Type 0
Stored = Result ℕ Refusal

pattern abbrev pub Holds : ℕ → Stored
Holds n = Ok n

pattern abbrev pub Refused : Refusal → Stored
Refused r = Err r
