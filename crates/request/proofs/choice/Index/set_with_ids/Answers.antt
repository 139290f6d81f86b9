-- `choice::Index::set_with_ids` meets its contract. The invariant: what is told is what the ids still to come set, and they are read
-- from here.
-- Assumes nothing.
use native.Mathlib.Omega.{arith}
use Rattle.request.proofs.Putting.{ids_start, ids_more, ids_over, ids_end}
use Rattle.request.proofs.choice.Index.set_with_ids.Goals as goal

pub loop-i-init : goal.loop-i-init
loop-i-init c = ids_start _ _ _ _ _ _ c.one_number-at.ensures c.value-count.ensures

pub returns-then-i-eq-MOST_IDS : goal.returns-then-i-eq-MOST_IDS
returns-then-i-eq-MOST_IDS c = let u = ids_over c.loop-i.invariant c.loop-i-test.true c.if-i-eq-MOST_IDS.true in
    (rw (c.need.ensures, c.place.ensures, c.on-next.ensures, c.extended_guid-id.ensures) u.0, u.1)

pub loop-i-preserved : goal.loop-i-preserved
loop-i-preserved c = rw (c.on-next.ensures, c.set_id.ensures, c.extended_guid-id.ensures) (ids_more c.loop-i.invariant c.loop-i-test.true c.if-i-eq-MOST_IDS.false)

pub returns : goal.returns
returns c = ids_end c.loop-i.invariant (omega arith)
