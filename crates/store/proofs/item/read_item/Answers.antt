-- `item::read_item` meets its contract.
-- Assumes nothing.
use borrow.Author.Tests.{lt-ltb, le-ltb, eq-eqb, ne_eqb}
use Rattle.store.specs.Knowledge.{item_at}
use mathlib.Core.Path.{sym, ◌∙◌}
use Rattle.store.proofs.item.read_item.Goals as goal

pub returns-then-next_is : goal.returns-then-next_is
unfolding item_at
returns-then-next_is c = search (lt-ltb, le-ltb, eq-eqb, ne_eqb, sym c.next_is.ensures ∙ c.if-next_is.true, c.range_item.ensures)

pub returns : goal.returns
unfolding item_at
returns c = search (lt-ltb, le-ltb, eq-eqb, ne_eqb, sym c.next_is.ensures ∙ c.if-next_is.false, c.entry_item.ensures)
