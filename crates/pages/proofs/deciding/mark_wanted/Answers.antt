-- `deciding::mark_wanted` meets its contract.
-- Assumes nothing.
use Rattle.pages.proofs.deciding.mark_wanted.Goals as goal

pub returns : goal.returns
returns c = rw (c.clear_known.ensures, c.choose.ensures)
