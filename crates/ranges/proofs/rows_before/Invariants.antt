-- `ranges::rows_before` meets its contract. The invariant: the rows below `low` lie before x, and row `high` does not.
-- Assumes nothing.
use mathlib.Core.Path.{◌≡◌}
use mathlib.Core.Bool.{true, false}
use Prim.Native.Nat.{ℕ, ◌-◌, ◌≤◌, ◌<◌}
use Rattle.talk.specs.Ranges.{is_before}
use Rattle.ranges.specs.RangeTable.{range_at}
use Rattle.ranges.proofs.rows_before.Given as goal

abbrev pub invariant-loop-low : goal.invariant-loop-low
invariant-loop-low l = (l.low ≤ l.high) × (l.high ≤ l.count) × ((j : ℕ) → j < l.low → is_before (range_at l.t j) l.x ≡ true) × (l.high < l.count → is_before (range_at l.t l.high) l.x ≡ false)

abbrev pub decreases-loop-low : goal.decreases-loop-low
decreases-loop-low l = l.high - l.low
