-- The page that is sent, how long its answer is, and how many elements the store has; or the refusal.
-- Assumes nothing.
use Rattle.std.specs.Prelude.{ℕ, Result, Ok, Err}
use Rattle.numbers.specs.declared.refusal.Refusal.{Refusal}
use Rattle.pages.specs.declared.deciding.Reckoning.{Reckoning}
use Rattle.pages.specs.declared.write.Sending.{Sending}

abbrev pub Reckoned : Type 0
Reckoned = Result Reckoning Refusal

abbrev pub Page : Sending → ℕ → ℕ → Reckoned
Page page length elements = Ok (record { page = page; length = length; elements = elements })

pattern abbrev pub Refused : Refusal → Reckoned
Refused r = Err r
