-- `wanted::knows_element` meets its contract.
-- Assumes nothing.
use Rattle.pages.specs.Choice.{is_known}
use Rattle.pages.proofs.wanted.knows_element.Goals as goal

pub returns : goal.returns
unfolding is_known
returns c = rw (c.is_known.ensures, c.from.ensures)
