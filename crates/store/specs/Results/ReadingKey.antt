-- The place behind an id or a serial number, and it; or the refusal.
-- Assumes nothing.
use Rattle.std.specs.Prelude.{ℕ, Ok, Err}
use Rattle.numbers.specs.declared.refusal.Refusal.{Refusal}
use Rattle.objects.specs.Results.Reads.{Reads}
use Rattle.store.specs.declared.element.Key.{Key}

abbrev pub ReadingKey : Type 0
ReadingKey = Reads Key

pattern abbrev pub At : ℕ → Key → ReadingKey
At p x = Ok (p, x)

pattern abbrev pub Refused : Refusal → ReadingKey
Refused r = Err r
