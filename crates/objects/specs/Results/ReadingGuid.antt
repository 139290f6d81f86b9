-- The place behind a GUID, and it; or the refusal.
-- Assumes nothing.
use Rattle.std.specs.Prelude.{ℕ, Ok, Err}
use Rattle.numbers.specs.declared.refusal.Refusal.{Refusal}
use Rattle.objects.specs.Results.Reads.{Reads}
use Rattle.numbers.specs.declared.guid.Guid.{Guid}

abbrev pub ReadingGuid : Type 0
ReadingGuid = Reads Guid

pattern abbrev pub At : ℕ → Guid → ReadingGuid
At p x = Ok (p, x)

pattern abbrev pub Refused : Refusal → ReadingGuid
Refused r = Err r
