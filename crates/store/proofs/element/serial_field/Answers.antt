-- `element::serial_field` meets its contract.
-- Assumes nothing.
use Rattle.store.specs.Element.{serial_field}
use Rattle.store.proofs.element.serial_field.Goals as goal

pub returns-then-strict : goal.returns-then-strict
unfolding serial_field
returns-then-strict c = rw (c.if-strict.true, c.numbered_key.ensures, c.place.ensures, c.serial.ensures)

pub returns : goal.returns
unfolding serial_field
returns c = rw (c.if-strict.false, c.any_key.ensures, c.serial-2.ensures)
