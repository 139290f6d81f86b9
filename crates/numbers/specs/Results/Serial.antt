-- A serial number: null, or a GUID and a number of 64 bits.
-- Assumes nothing.
use Rattle.std.specs.Prelude.{ℕ, Option, Some, None}
use Rattle.numbers.specs.declared.guid.Guid.{Guid}

abbrev pub Serial : Type 0
Serial = Option (Guid × ℕ)

pattern abbrev pub Null : Serial
Null = None

pattern abbrev pub Numbered : Guid → ℕ → Serial
Numbered g x = Some (g, x)
