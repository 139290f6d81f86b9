-- What was asked; or the refusal.
-- Assumes nothing.
use Rattle.std.specs.Prelude.{ℕ, Result, Ok, Err}
use Rattle.numbers.specs.declared.refusal.Refusal.{Refusal}
use Rattle.request.specs.declared.message.Query.{Query}

abbrev pub Request : Type 0
Request = Result Query Refusal

abbrev pub Asked : ℕ → ℕ → ℕ → ℕ → ℕ → Request
Asked id limit place count known = Ok (record { id = id; limit = limit; place = place; count = count; known = known })

pattern abbrev pub Refused : Refusal → Request
Refused r = Err r
