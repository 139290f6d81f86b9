-- The place behind a knowledge, and how many rows it has; or the refusal.
-- Assumes nothing.
use Rattle.std.specs.Prelude.{ℕ, Result, Ok, Err}
use Rattle.numbers.specs.declared.refusal.Refusal.{Refusal}

abbrev pub ReadKnowledge : Type 0
ReadKnowledge = Result (ℕ × ℕ) Refusal

pattern abbrev pub Holds : ℕ → ℕ → ReadKnowledge
Holds e n = Ok (e, n)

pattern abbrev pub Refused : Refusal → ReadKnowledge
Refused r = Err r
