-- `queue::part_rows` meets its contract. The invariant is `Parting`.
-- Assumes nothing.
use Rattle.order.proofs.Parting.{Parting}
use Rattle.order.proofs.queue.part_rows.Given as goal

abbrev pub invariant-loop-i : goal.invariant-loop-i
invariant-loop-i l = Parting l.all.rows.now l.all.ids.now l.all.count l.flags l.parts l.counts l.i
