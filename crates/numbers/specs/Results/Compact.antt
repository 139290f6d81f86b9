-- A compact integer that was read: the value, the bytes used, and the mark that it was padded; or the refusal.
-- Assumes nothing.
use Rattle.std.specs.Prelude.{ℕ, Bool, Result, Ok, Err}
use Rattle.numbers.specs.declared.refusal.Refusal.{Refusal}

abbrev pub Compact : Type 0
Compact = Result (ℕ × ℕ × Bool) Refusal

pattern abbrev pub Value : ℕ → ℕ → Bool → Compact
Value v n padded = Ok (v, n, padded)

pattern abbrev pub Refused : Refusal → Compact
Refused r = Err r
