-- `write::lay_elements` meets its contract. The invariant: with the elements still to come laid at p, out is what it is to be.
-- Assumes nothing.
use Prim.Native.Nat.{◌+◌}
use lib.ListN.{length}
use Rattle.laws.specs.Placed.{laid}
use Rattle.store.specs.Held.{elements_bytes}
use Rattle.order.specs.Queue.{queued_in}
use Rattle.pages.proofs.Laying.{Laying}
use Rattle.pages.proofs.write.lay_elements.Given as goal

abbrev pub invariant-loop-i : goal.invariant-loop-i
invariant-loop-i l = let w = elements_bytes l.store (queued_in l.rows l.ids l.k l.queue) in
    Laying l.store l.rows l.ids l.k l.queue (l.at + length w) (laid l.at w l.initial.out) l.out l.p l.i
