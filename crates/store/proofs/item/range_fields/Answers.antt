-- `item::range_fields` meets its contract.
-- Assumes nothing.
use Rattle.store.specs.Knowledge.{range_fields}
use Rattle.store.proofs.item.range_fields.Goals as goal

pub returns : goal.returns
unfolding range_fields
returns c = rw (c.need.ensures, c.place.ensures, c.range_of.ensures, c.guid_in.ensures, c.value-second.ensures, c.value-first.ensures, c.number-to.ensures, c.number-from.ensures, c.on.ensures, c.guid-g.ensures)
