-- An extended GUID that was read, and the bytes used; or the refusal.
-- Assumes nothing.
use Rattle.std.specs.Prelude.{ℕ, Result, Ok, Err}
use Rattle.numbers.specs.declared.refusal.Refusal.{Refusal}
use Rattle.numbers.specs.Results.ExtendedGuid.{ExtendedGuid}

abbrev pub ReadExtendedGuid : Type 0
ReadExtendedGuid = Result (ExtendedGuid × ℕ) Refusal

pattern abbrev pub Value : ExtendedGuid → ℕ → ReadExtendedGuid
Value x n = Ok (x, n)

pattern abbrev pub Refused : Refusal → ReadExtendedGuid
Refused r = Err r
