-- The place and the length of an element; or the refusal.
-- Assumes nothing.
use Rattle.std.specs.Prelude.{ℕ, Result, Ok, Err}
use Rattle.numbers.specs.declared.refusal.Refusal.{Refusal}

abbrev pub Found : Type 0
Found = Result (ℕ × ℕ) Refusal

pattern abbrev pub At : ℕ → ℕ → Found
At p n = Ok (p, n)

pattern abbrev pub Refused : Refusal → Found
Refused r = Err r
