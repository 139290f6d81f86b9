-- `item::guid_in` meets its contract.
-- Assumes nothing.
use borrow.Author.Tests.{lt-ltb, le-ltb, eq-eqb, ne_eqb}
use Rattle.store.specs.Knowledge.{guid_in}
use Rattle.store.proofs.item.guid_in.Goals as goal

pub returns-in-Ok : goal.returns-in-Ok
unfolding guid_in
returns-in-Ok c = search (lt-ltb, le-ltb, eq-eqb, ne_eqb, c.in-Ok.is)

pub returns-in-Err : goal.returns-in-Err
unfolding guid_in
returns-in-Err c = search (lt-ltb, le-ltb, eq-eqb, ne_eqb, c.in-Err.is)
