-- A header that was read; or the refusal.
-- Assumes nothing.
use Rattle.std.specs.Prelude.{ℕ, Bool, Result, Ok, Err}
use Rattle.numbers.specs.declared.refusal.Refusal.{Refusal}
use Rattle.objects.specs.declared.header.Header.{Header}
use Rattle.objects.specs.declared.header.Header.TheVariants as header

abbrev pub ReadHeader : Type 0
ReadHeader = Result Header Refusal

pattern abbrev pub Start : ℕ → Bool → ℕ → ℕ → ReadHeader
Start kind compound n used = Ok (header.Start kind compound n used)

pattern abbrev pub End : ℕ → ℕ → ReadHeader
End kind used = Ok (header.End kind used)

pattern abbrev pub Refused : Refusal → ReadHeader
Refused r = Err r
