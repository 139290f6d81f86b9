-- `knowledge_write::ranges_length` meets its contract. The invariant: with the bytes of the rows still to come, n is the whole.
-- Assumes nothing.
use mathlib.Core.Path.{◌≡◌}
use Prim.Native.Nat.{◌+◌, ◌-◌, ◌*◌, ◌≤◌}
use lib.ListN.{length}
use Rattle.ranges.specs.RangeTable.{ranges_at}
use Rattle.store.specs.KnowledgeWritten.{ranges_bytes}
use Rattle.store.proofs.knowledge_write.ranges_length.Given as goal

abbrev pub invariant-loop-i : goal.invariant-loop-i
invariant-loop-i l = (l.n + length (ranges_bytes (ranges_at l.table l.i (l.rows - l.i))) ≡ length (ranges_bytes (ranges_at l.table l.first (l.rows - l.first)))) × (l.n ≤ l.i * 36)
