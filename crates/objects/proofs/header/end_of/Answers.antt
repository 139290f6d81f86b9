-- `header::end_of` meets its contract.
-- Assumes nothing.
use borrow.Author.Tests.{lt-ltb, le-ltb}
use Rattle.objects.specs.Header.{sized, end_of}
use Rattle.objects.proofs.header.end_of.Goals as goal

pub returns-then-t-n : goal.returns-then-t-n
unfolding sized end_of
returns-then-t-n c = rw (lt-ltb _ _ c.if-t-n.true, c.at_place.ensures)

pub returns : goal.returns
unfolding sized end_of
returns c = rw (le-ltb _ _ c.if-t-n.false, c.read_le.ensures)
