-- The answer's length and the new store's; or the refusal.
-- Assumes nothing.
use Rattle.std.specs.Prelude.{ℕ, Result, Ok, Err}
use Rattle.numbers.specs.declared.refusal.Refusal.{Refusal}

abbrev pub Applied : Type 0
Applied = Result (ℕ × ℕ) Refusal

pattern abbrev pub Entered : ℕ → ℕ → Applied
Entered n m = Ok (n, m)

pattern abbrev pub Refused : Refusal → Applied
Refused r = Err r
