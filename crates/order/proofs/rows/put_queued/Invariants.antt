-- `rows::put_queued` meets its contract. The invariant: the rows of the first k stand in front of the table's own numbers.
-- Assumes nothing.
use mathlib.Core.Path.{◌≡◌}
use Rattle.order.proofs.Putting.{put}
use Rattle.order.proofs.rows.put_queued.Given as goal

abbrev pub invariant-loop-k : goal.invariant-loop-k
invariant-loop-k l = l.t ≡ put l.all.rows.now l.all.ids.now l.queue l.k l.initial.t
