-- What writing a single item answers: how many bytes it took; or the refusal.
-- Assumes nothing.
use Rattle.std.specs.Prelude.{ℕ, Result, Ok, Err}
use Rattle.numbers.specs.declared.refusal.Refusal.{Refusal}

abbrev pub Wrote : Type 0
Wrote = Result ℕ Refusal

pattern abbrev pub Done : ℕ → Wrote
Done n = Ok n

pattern abbrev pub Refused : Refusal → Wrote
Refused r = Err r
