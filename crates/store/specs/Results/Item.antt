-- The place behind a range or an entry of a knowledge, and what it adds, if anything; or the refusal.
-- Assumes nothing.
use Rattle.std.specs.Prelude.{ℕ, Option, Some, None, Result, Ok, Err}
use Rattle.numbers.specs.declared.refusal.Refusal.{Refusal}
use Rattle.talk.specs.declared.range.Range.{Range}

abbrev pub Item : Type 0
Item = Result (ℕ × Option Range) Refusal

pattern abbrev pub Adds : ℕ → Range → Item
Adds e x = Ok (e, Some x)

pattern abbrev pub Nothing : ℕ → Item
Nothing e = Ok (e, None)

pattern abbrev pub Refused : Refusal → Item
Refused r = Err r
