-- `item::range_item` meets its contract.
-- Assumes nothing.
use Rattle.store.specs.Knowledge.{range_item}
use Rattle.store.proofs.Items.{good_range_fields}
use Rattle.store.proofs.item.range_item.Goals as goal

pub closed-requires : goal.closed-requires
closed-requires c = rw (c.range_fields-f.ensures, c.run.ensures) (good_range_fields _ _)

pub returns : goal.returns
unfolding range_item
returns c = rw (c.item_of.ensures, c.closed.ensures, c.range_fields-f.ensures, c.run.ensures, c.range_start-o.ensures)
