-- The answer's length, how many rows the store's table has, and how many the knowledge's; or the refusal.
-- Assumes nothing.
use Rattle.std.specs.Prelude.{ℕ, Result, Ok, Err}
use Rattle.numbers.specs.declared.refusal.Refusal.{Refusal}
use Rattle.pages.specs.declared.answer.Filled.{Filled}

abbrev pub Answered : Type 0
Answered = Result Filled Refusal

abbrev pub Sent : ℕ → ℕ → ℕ → Answered
Sent length rows ranges = Ok (record { length = length; rows = rows; ranges = ranges })

pattern abbrev pub Refused : Refusal → Answered
Refused r = Err r
