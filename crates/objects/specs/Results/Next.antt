-- What stands at a place of a run; or the refusal.
-- Assumes nothing.
use Rattle.std.specs.Prelude.{ℕ, Result, Ok, Err}
use Rattle.numbers.specs.declared.refusal.Refusal.{Refusal}
use Rattle.objects.specs.declared.nesting.Next.{Next}
use Rattle.objects.specs.declared.nesting.Next.TheVariants as next

abbrev pub ReadNext : Type 0
ReadNext = Result Next Refusal

pattern abbrev pub Past : ℕ → ReadNext
Past e = Ok (next.Past e)

pattern abbrev pub Opens : ℕ → ℕ → ReadNext
Opens kind e = Ok (next.Opens kind e)

pattern abbrev pub Ends : ℕ → ℕ → ReadNext
Ends kind e = Ok (next.Ends kind e)

pattern abbrev pub Refused : Refusal → ReadNext
Refused r = Err r
