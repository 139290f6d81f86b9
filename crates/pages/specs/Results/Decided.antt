-- The page of so many elements, each of which may stand for a group, so long an answer, so many ranges, and whether a wanted one remains;
-- or why none is sent: 9, or 14 with the needed length.
-- Assumes nothing.
use Rattle.std.specs.Prelude.{Bool, ℕ, Result, Ok, Err}
use Rattle.pages.specs.declared.page.Decision.{Decision}
use Rattle.pages.specs.declared.page.Unsent.{Unsent}
use Rattle.pages.specs.declared.page.Unsent.TheVariants as unsent

abbrev pub Decided : Type 0
Decided = Result Decision Unsent

abbrev pub Sent : ℕ → ℕ → ℕ → Bool → Decided
Sent count length ranges more = Ok (record { count = count; length = length; ranges = ranges; more = more })

pattern abbrev pub Crowded : Decided
Crowded = Err unsent.Crowded

pattern abbrev pub Short : ℕ → Decided
Short needed = Err (unsent.Short needed)
