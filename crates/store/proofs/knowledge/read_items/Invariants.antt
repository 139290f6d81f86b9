-- `knowledge::read_items` meets its contract.
-- Assumes nothing.
use mathlib.Core.Path.{◌≡◌}
use lib.ListN.{length}
use Rattle.ranges.specs.RangeTable.{ranges_at}
use Rattle.store.specs.Knowledge.{items_from}
use Rattle.store.proofs.Uniting.{Uniting}
use Rattle.store.proofs.knowledge.read_items.Given as goal

abbrev pub invariant-loop-last : goal.invariant-loop-last
invariant-loop-last l = (length l.table ≡ length l.initial.table) × Uniting l.padding l.s (items_from l.padding l.initial.k.left l.s (ranges_at l.initial.table 0 l.initial.k.rows) l.initial.table l.initial.k.last) l.table l.k.last l.k.rows l.k.left

abbrev pub decreases-loop-last : goal.decreases-loop-last
decreases-loop-last l = l.k.left
