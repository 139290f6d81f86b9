-- `knowledge_write::lay_ranges` meets its contract. The invariant: with the rows still to come laid at p, out is what it is to be.
-- Assumes nothing.
use mathlib.Core.Path.{◌≡◌}
use Prim.Native.Nat.{◌+◌, ◌-◌}
use lib.ListN.{length}
use Rattle.ranges.specs.RangeTable.{ranges_at}
use Rattle.store.specs.KnowledgeWritten.{ranges_bytes}
use Rattle.laws.specs.Placed.{laid}
use Rattle.store.proofs.knowledge_write.lay_ranges.Given as goal

abbrev pub invariant-loop-i : goal.invariant-loop-i
invariant-loop-i l = (length l.out ≡ length l.initial.out)
    × (l.p + length (ranges_bytes (ranges_at l.table l.i (l.rows - l.i))) ≡ l.at + length (ranges_bytes (ranges_at l.table 0 l.rows)))
    × (laid l.p (ranges_bytes (ranges_at l.table l.i (l.rows - l.i))) l.out ≡ laid l.at (ranges_bytes (ranges_at l.table 0 l.rows)) l.initial.out)
