-- `choice::Index::set_key` meets its contract. The invariant: what is told is what the rows still to come set, and the last of them has
-- the mark of the id.
-- Assumes nothing.
use Rattle.request.specs.Choice.{set_flags, matched_by}
use Rattle.store.specs.Elements.{elements_of}
use Rattle.request.specs.declared.choice.Matched.TheVariants.{WithId}
use Rattle.request.proofs.Following.{Following}
use Rattle.request.proofs.choice.Index.set_key.Given as goal

abbrev pub invariant-loop-left : goal.invariant-loop-left
invariant-loop-left l =
    Following l.fn.k l.to l.self.all.rows.now l.self.all.ids.now l.self.all.count (set_flags (matched_by (WithId l.fn.k)) l.to (elements_of l.self.all) l.initial.flags) l.flags l.left

abbrev pub decreases-loop-left : goal.decreases-loop-left
decreases-loop-left l = l.left
