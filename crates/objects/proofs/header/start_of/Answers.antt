-- `header::start_of` meets its contract.
-- Assumes nothing.
use borrow.Author.Tests.{lt-ltb, le-ltb}
use Rattle.objects.specs.Header.{sized, start_of}
use Rattle.objects.proofs.header.start_of.Goals as goal

pub returns-then-t-n : goal.returns-then-t-n
unfolding sized start_of
returns-then-t-n c = rw (lt-ltb _ _ c.if-t-n.true, c.at_place.ensures)

pub returns : goal.returns
unfolding sized start_of
returns c = rw (le-ltb _ _ c.if-t-n.false, c.read_le-w.ensures)
