-- The place behind a package, and how many elements it holds; or the refusal.
-- Assumes nothing.
use Rattle.std.specs.Prelude.{ℕ, Result, Ok, Err}
use Rattle.numbers.specs.declared.refusal.Refusal.{Refusal}

abbrev pub Packaged : Type 0
Packaged = Result (ℕ × ℕ) Refusal

pattern abbrev pub Holds : ℕ → ℕ → Packaged
Holds e n = Ok (e, n)

pattern abbrev pub Refused : Refusal → Packaged
Refused r = Err r
