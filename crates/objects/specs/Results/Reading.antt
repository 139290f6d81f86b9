-- The place of a reader, and the number that was read last; or the refusal.
-- Assumes nothing.
use Rattle.std.specs.Prelude.{ℕ, Ok, Err}
use Rattle.numbers.specs.declared.refusal.Refusal.{Refusal}
use Rattle.objects.specs.Results.Reads.{Reads}

abbrev pub Reading : Type 0
Reading = Reads ℕ

pattern abbrev pub At : ℕ → ℕ → Reading
At p x = Ok (p, x)

pattern abbrev pub Refused : Refusal → Reading
Refused r = Err r
