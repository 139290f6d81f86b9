-- The place behind a field, and the field; or the refusal.
-- Assumes nothing.
use Rattle.std.specs.Prelude.{ℕ, Result}
use Rattle.numbers.specs.declared.refusal.Refusal.{Refusal}

abbrev pub Reads : Type 0 → Type 0
Reads field = Result (ℕ × field) Refusal
