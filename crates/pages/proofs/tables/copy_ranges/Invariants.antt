-- `tables::copy_ranges` meets its contract. The invariant: the first k rows stand in front of the table's own numbers.
-- Assumes nothing.
use mathlib.Core.Path.{◌≡◌}
use Rattle.pages.proofs.Copying.{copied}
use Rattle.pages.proofs.tables.copy_ranges.Given as goal

abbrev pub invariant-loop-k : goal.invariant-loop-k
invariant-loop-k l = l.to ≡ copied l.table l.k l.initial.to
