-- `queue::join_parts` meets its contract. The invariant is `Joining`.
-- Assumes nothing.
use native.Mathlib.Omega.{arith}
use Rattle.order.proofs.Joining.{joining_start, joining_fits, joining_more, joining_end}
use Rattle.order.proofs.queue.join_parts.Goals as goal

pub loop-r-init : goal.loop-r-init
loop-r-init c = joining_start c.args.parts.now c.args.counts.now c.args.queue.now c.requires.1

pub lay_part-at-requires : goal.lay_part-at-requires
lay_part-at-requires c = rw c.part.ensures (joining_fits c.loop-r.invariant c.loop-r-test.true)

pub loop-r-preserved : goal.loop-r-preserved
loop-r-preserved c = let f = rw c.part.ensures at c.lay_part-at.ensures in
    joining_more c.loop-r.invariant c.loop-r-test.true c.lay_part-at.result c.lay_part-at.new.out (omega arith) f

pub returns : goal.returns
returns c = joining_end c.loop-r.invariant c.loop-r-test.false
