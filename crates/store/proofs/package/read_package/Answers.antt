-- `package::read_package` meets its contract: the elements behind its start, and then its end.
-- Assumes nothing.
use mathlib.Core.Path.{◌≡◌}
use Rattle.std.proofs.Common.{rules}
use Rattle.std.specs.Prelude.{Err}
use Rattle.store.proofs.Walks.{good_package}
use Rattle.store.proofs.Split.{package_refused, package_holds}
use Rattle.store.proofs.package.read_package.Goals as goal

pub read_elements-requires : goal.read_elements-requires
read_elements-requires c = rw c.package_start-first.ensures (good_package _ _ _ _ c.requires)

pub returns-in_err-e : goal.returns-in_err-e
returns-in_err-e c = let e : c.from_residual.result ≡ Err c.in_err-e.field-0.0 = search rules in
    rw e (package_refused _ _ _ _ _ _ _ _ _ (rw c.package_start-first.ensures at c.read_elements.ensures) _ c.in_err-e.was)

pub returns : goal.returns
returns c = rw (c.packaged_if_fine.ensures, c.end.ensures)
    (package_holds _ _ _ _ _ _ _ _ _ (rw c.package_start-first.ensures at c.read_elements.ensures) _ _ c.in_ok-e.was)
