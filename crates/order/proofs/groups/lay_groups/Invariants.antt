-- `groups::lay_groups` meets its contract. The invariant is `GroupsLaying`.
-- Assumes nothing.
use Rattle.order.proofs.GroupsLaying.{GroupsLaying}
use Rattle.order.proofs.groups.lay_groups.Given as goal

abbrev pub invariant-loop-k : goal.invariant-loop-k
invariant-loop-k l = GroupsLaying l.all.rows.now l.all.ids.now l.all.count l.queue l.flags l.initial.passed l.initial.sums l.initial.earliest l.initial.laid l.initial.ends l.passed l.sums l.earliest l.laid l.ends l.w l.at l.k
