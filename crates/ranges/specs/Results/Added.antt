-- How many rows there are when a range was added; or there was no room.
-- Assumes nothing.
use Rattle.std.specs.Prelude.{ℕ, Option, Some, None}

abbrev pub Added : Type 0
Added = Option ℕ

pattern abbrev pub Rows : ℕ → Added
Rows n = Some n

pattern abbrev pub Full : Added
Full = None
