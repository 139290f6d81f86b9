-- `ranges::gather` meets its contract.
-- Assumes nothing.
use Rattle.talk.specs.Ranges.{absorb}
use Rattle.ranges.specs.RangeTable.{ranges_at}
use Prim.Native.Nat.{◌-◌}
use mathlib.Core.Path.{◌≡◌}
use Rattle.ranges.proofs.gather.Given as goal

abbrev pub invariant-loop-j : goal.invariant-loop-j
invariant-loop-j l = absorb l.initial.y (ranges_at l.t l.i (l.count - l.i)) ≡ absorb l.y (ranges_at l.t l.j (l.count - l.j))
