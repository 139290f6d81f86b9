-- `package::package_start` meets its contract.
-- Assumes nothing.
use Rattle.store.specs.Store.{package_start}
use Rattle.store.proofs.package.package_start.Goals as goal

pub returns : goal.returns
unfolding package_start
returns c = rw (c.skip.ensures, c.start_of_length.ensures)
