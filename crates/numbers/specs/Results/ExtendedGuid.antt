-- An extended GUID: null, or a GUID and a number of 32 bits.
-- Assumes nothing.
use Rattle.std.specs.Prelude.{ℕ, Option, Some, None}
use Rattle.numbers.specs.declared.guid.Guid.{Guid}

abbrev pub ExtendedGuid : Type 0
ExtendedGuid = Option (Guid × ℕ)

pattern abbrev pub Null : ExtendedGuid
Null = None

pattern abbrev pub Named : Guid → ℕ → ExtendedGuid
Named g x = Some (g, x)
