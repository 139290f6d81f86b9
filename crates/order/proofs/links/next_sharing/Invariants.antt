-- `links::next_sharing` meets its contract. The invariant: of those that were passed none shares the serial number.
-- Assumes nothing.
use mathlib.Core.Path.{◌≡◌}
use Rattle.order.specs.Links.{queued_from, first_sharing}
use Rattle.order.proofs.links.next_sharing.Given as goal

abbrev pub invariant-loop-k : goal.invariant-loop-k
invariant-loop-k l = first_sharing l.x l.from (queued_from l.all.rows.now l.all.ids.now l.all.count l.queue l.from) ≡ first_sharing l.x l.k (queued_from l.all.rows.now l.all.ids.now l.all.count l.queue l.k)
