-- `queue::join_parts` meets its contract. The invariant is `Joining`.
-- Assumes nothing.
use Rattle.order.proofs.Joining.{Joining}
use Rattle.order.proofs.queue.join_parts.Given as goal

abbrev pub invariant-loop-r : goal.invariant-loop-r
invariant-loop-r l = Joining l.parts l.counts l.initial.queue l.queue l.at l.r
