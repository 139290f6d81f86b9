-- `package::walk` meets its contract. The invariant: the tables hold the elements read so far, and the walk from the start is
-- the walk from here.
-- Assumes nothing.
use Prim.Native.Nat.{◌-◌, ◌≤◌}
use Rattle.store.specs.Tables.{most_elements}
use Rattle.store.proofs.Walks.{Held}
use Rattle.store.proofs.package.walk.Given as goal

abbrev pub invariant-loop-strict : goal.invariant-loop-strict
invariant-loop-strict l = (l.n ≤ most_elements) × Held l.strict l.s l.initial.at l.initial.rows l.initial.ids l.rows l.ids l.marks l.at l.n

abbrev pub decreases-loop-strict : goal.decreases-loop-strict
decreases-loop-strict l = most_elements - l.n
