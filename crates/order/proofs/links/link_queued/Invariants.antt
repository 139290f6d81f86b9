-- `links::link_queued` meets its contract. The invariant: those from k on have their links, and of each mark none of them stands before its head.
-- Assumes nothing.
use Rattle.order.specs.Links.{head_count, LinkedFrom}
use Rattle.order.proofs.Linking.{NoneMarked}
use Rattle.order.proofs.links.link_queued.Given as goal

abbrev pub invariant-loop-k : goal.invariant-loop-k
invariant-loop-k l = NoneMarked l.all.rows.now l.all.ids.now l.all.count l.queue l.heads head_count l.k × LinkedFrom l.all.rows.now l.all.ids.now l.all.count l.queue l.links l.k
