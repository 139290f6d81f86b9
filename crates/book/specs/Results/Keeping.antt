-- The new book's length; or the refusal.
-- Assumes nothing.
use Rattle.std.specs.Prelude.{ℕ, Result, Ok, Err}
use Rattle.numbers.specs.declared.refusal.Refusal.{Refusal}

abbrev pub Keeping : Type 0
Keeping = Result ℕ Refusal

pattern abbrev pub Book : ℕ → Keeping
Book n = Ok n

pattern abbrev pub Refused : Refusal → Keeping
Refused r = Err r
