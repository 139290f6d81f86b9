-- An element that was read; or the refusal.
-- Assumes nothing.
use Rattle.std.specs.Prelude.{Result, Ok, Err}
use Rattle.numbers.specs.declared.refusal.Refusal.{Refusal}
use Rattle.store.specs.declared.element.Element.{Element}

abbrev pub ReadElement : Type 0
ReadElement = Result Element Refusal

pattern abbrev pub Is : Element → ReadElement
Is x = Ok x

pattern abbrev pub Refused : Refusal → ReadElement
Refused r = Err r
