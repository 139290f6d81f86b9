-- `choice::Index::set_key` meets its contract. The invariant: what is told is what the rows still to come set, and the last of them has
-- the mark of the id.
-- Assumes nothing.
use mathlib.Core.Path.{sym, ◌∙◌}
use native.Mathlib.Omega.{arith}
use Rattle.request.proofs.Following.{following_start, following_matched, following_passed, following_less, following_end}
use Rattle.request.proofs.choice.Index.set_key.Goals as goal
use Rattle.request.proofs.choice.Index.set_key.Goals.{then-matches, else-matches}

pub loop-left-init : goal.loop-left-init
loop-left-init c = following_start (c.args.self.linked c.if-self-gt-MOST_ELEMENTS.false) _ _ _ _ _ c.mark_of.ensures.0

pub loop-left-smaller : goal.loop-left-smaller
loop-left-smaller c = following_less (c.args.self.linked c.if-self-gt-MOST_ELEMENTS.false) _ _ _ c.loop-left.invariant _ (omega arith)

pub loop-left-preserved : goal.loop-left-preserved
loop-left-preserved c = let w = c.args.self.linked c.if-self-gt-MOST_ELEMENTS.false in
    let e = rw c.element.ensures at (sym c.matches.ensures) in
    elim c.if-matches.branch [
      | then-matches x ↦ rw x.flags-is (following_matched w _ _ _ c.loop-left.invariant _ (omega arith) (e ∙ x.if-matches.true))
      | else-matches x ↦ rw x.flags-is (following_passed w _ _ _ c.loop-left.invariant _ (omega arith) (e ∙ x.if-matches.false))
    ]

pub returns : goal.returns
returns c = following_end c.loop-left.invariant (omega arith)
