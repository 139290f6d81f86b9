-- The elements that functions are lent as two working tables.
-- Assumes nothing.
use Rattle.std.specs.Prelude.{List}
use Rattle.store.specs.Tables.{elements_in}
use Rattle.store.specs.declared.element.Element.{Element}
use Rattle.store.specs.declared.table.Elements.{Elements}

abbrev pub elements_of : Elements → List Element
elements_of all = elements_in all.rows.now all.ids.now all.count
