-- `page::decide` meets its contract. The invariant is `Under`: still to come are those that are queued from the place on.
-- Assumes nothing.
use Prim.Native.Nat.{◌-◌, ◌≤◌}
use Rattle.ranges.specs.RangeTable.{ranges_at}
use Rattle.pages.specs.Weighed.{weighed, weighed_in}
use Rattle.pages.proofs.Chosen.{queued_from}
use Rattle.pages.proofs.UnderWay.{Under}
use Rattle.pages.proofs.page.decide.Given as goal

abbrev pub invariant-loop-p : goal.invariant-loop-p
invariant-loop-p l = (l.p.place ≤ l.wanted.count) × Under (weighed_in l.weights.all.rows.now l.weights.all.ids.now l.weights.lengths.now l.weights.column l.wanted.count l.wanted.queue.now) (ranges_at l.initial.t 0 l.count) l.initial.t l.b (queued_from (weighed l.weights.all.rows.now l.weights.all.ids.now l.weights.lengths.now l.weights.column) l.wanted.count l.wanted.queue.now l.p.place) l.t l.p

abbrev pub decreases-loop-p : goal.decreases-loop-p
decreases-loop-p l = l.wanted.count - l.p.place
