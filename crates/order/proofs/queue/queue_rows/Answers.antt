-- `queue::queue_rows` meets its contract: the rows in the parts of their ranks, and the parts joined.
-- Assumes nothing.
use Prim.Native.Nat.{ℕ, ◌*◌}
use native.Mathlib.Omega.{arith}
use lib.ListN.{length-replicate, get_or-replicate}
use Rattle.store.specs.Tables.{elements_in}
use Rattle.order.specs.Queue.{ranks, part_length}
use Rattle.order.proofs.Joining.{parts_queue}
use Rattle.order.proofs.Queueing.{queue_most}
use Rattle.order.proofs.queue.queue_rows.Goals as goal

pub part_rows-requires : goal.part_rows-requires
part_rows-requires c = (
  c.requires.0,
  c.requires.1,
  record { parts_long = length-replicate {A = ℕ} (ranks * part_length) 0; counts_long = length-replicate {A = ℕ} ranks 0 },
  λ r l. get_or-replicate {A = ℕ} ranks r 0 0 l,
)

pub join_parts-requires : goal.join_parts-requires
join_parts-requires c = let a = c.args in
    (omega arith, rw (parts_queue (elements_in a.all.rows.now a.all.ids.now a.all.count) a.flags.now _ _ c.part_rows.ensures) (omega (arith, queue_most a.all.rows.now a.all.ids.now a.all.count a.flags.now)))

pub returns : goal.returns
returns c = let a = c.args in
    rw (parts_queue (elements_in a.all.rows.now a.all.ids.now a.all.count) a.flags.now _ _ c.part_rows.ensures) at c.join_parts.ensures
