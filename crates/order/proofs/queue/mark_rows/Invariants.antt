-- `queue::mark_rows` meets its contract. The invariant: the rows at the positions that were passed are marked.
-- Assumes nothing.
use mathlib.Core.Path.{◌≡◌}
use lib.ListN.{take}
use Rattle.order.specs.Queue.{marking}
use Rattle.order.proofs.queue.mark_rows.Given as goal

abbrev pub invariant-loop-i : goal.invariant-loop-i
invariant-loop-i l = l.flags ≡ marking (take l.i-index (take l.n l.queue)) l.initial.flags
