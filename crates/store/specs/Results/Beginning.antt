-- What stands behind the start of a store's package; or the refusal.
-- Assumes nothing.
use Rattle.std.specs.Prelude.{Result, Ok, Err}
use Rattle.numbers.specs.declared.refusal.Refusal.{Refusal}
use Rattle.store.specs.declared.package.Beginning.{Beginning}
use Rattle.store.specs.declared.package.Beginning.TheVariants as beginning

abbrev pub ReadBeginning : Type 0
ReadBeginning = Result Beginning Refusal

pattern abbrev pub Elements : ReadBeginning
Elements = Ok beginning.Elements

pattern abbrev pub Nothing : ReadBeginning
Nothing = Ok beginning.Nothing

pattern abbrev pub Refused : Refusal → ReadBeginning
Refused r = Err r
