-- `groups::lay_members` meets its contract. The invariant is `Laying`.
-- Assumes nothing.
use Prim.Native.Nat.{◌-◌}
use Rattle.order.proofs.Laying.{Laying}
use Rattle.order.proofs.groups.lay_members.Given as goal

abbrev pub invariant-loop-p : goal.invariant-loop-p
invariant-loop-p l = Laying l.all.rows.now l.all.ids.now l.all.count l.queue l.flags l.k l.initial.passed l.passed l.at l.initial.laid l.laid l.end l.stored l.chosen l.earliest l.p

abbrev pub decreases-loop-p : goal.decreases-loop-p
decreases-loop-p l = l.all.count - l.p
