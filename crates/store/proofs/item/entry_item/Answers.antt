-- `item::entry_item` meets its contract.
-- Assumes nothing.
use Rattle.store.specs.Knowledge.{entry_item}
use Rattle.store.proofs.Items.{good_entry_fields}
use Rattle.store.proofs.item.entry_item.Goals as goal

pub closed-requires : goal.closed-requires
closed-requires c = rw (c.on.ensures, c.serial-k.ensures, c.run.ensures) (good_entry_fields _)

pub returns : goal.returns
unfolding entry_item
returns c = rw (c.entry_of.ensures, c.closed.ensures, c.on.ensures, c.serial-k.ensures, c.run.ensures, c.start-o.ensures)
