-- What was handed in; or the refusal.
-- Assumes nothing.
use Rattle.std.specs.Prelude.{ℕ, Result, Ok, Err}
use Rattle.numbers.specs.declared.refusal.Refusal.{Refusal}
use Rattle.puts.specs.declared.put.Handed as put
use Rattle.numbers.specs.Results.ExtendedGuid.{ExtendedGuid}

abbrev pub Put : Type 0
Put = Result put.Handed Refusal

abbrev pub Handed : ℕ → ExtendedGuid → ℕ → Put
Handed id expected count = Ok (record { id = id; expected = expected; count = count })

pattern abbrev pub Refused : Refusal → Put
Refused r = Err r
