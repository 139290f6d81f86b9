-- The place behind an extended GUID, and it; or the refusal.
-- Assumes nothing.
use Rattle.std.specs.Prelude.{ℕ, Ok, Err}
use Rattle.numbers.specs.declared.refusal.Refusal.{Refusal}
use Rattle.objects.specs.Results.Reads.{Reads}
use Rattle.numbers.specs.Results.ExtendedGuid.{ExtendedGuid}

abbrev pub ReadingId : Type 0
ReadingId = Reads ExtendedGuid

pattern abbrev pub At : ℕ → ExtendedGuid → ReadingId
At p x = Ok (p, x)

pattern abbrev pub Refused : Refusal → ReadingId
Refused r = Err r
