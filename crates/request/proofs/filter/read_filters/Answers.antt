-- `filter::read_filters` meets its contract. The invariant: what is still to be read gives what all would.
-- Assumes nothing.
use mathlib.Core.Path.{◌≡◌, sym, ◌∙◌}
use native.Mathlib.Omega.{arith}
use Rattle.request.proofs.Turns.{filters_more, filters_over, filters_end}
use Rattle.request.proofs.filter.read_filters.Goals as goal

pub returns-then-not-next_is : goal.returns-then-not-next_is
returns-then-not-next_is c = c.valued.ensures ∙ sym (c.loop-n.invariant ∙ filters_end c.loop-n.n _ c.loop-n.at (omega arith) (sym c.if-not-next_is.ensures))

pub loop-n-preserved : goal.loop-n-preserved
loop-n-preserved c = rw c.filter_at-at.ensures (c.loop-n.invariant ∙ filters_more c.loop-n.n _ c.loop-n.at (omega arith) (sym c.if-not-next_is.ensures))

pub returns-then-next_is : goal.returns-then-next_is
returns-then-next_is c = c.start.ensures ∙ sym (c.loop-n.invariant ∙ filters_over c.loop-n.n _ c.loop-n.at (omega arith) (sym c.if-next_is.ensures))

pub returns : goal.returns
returns c = let n : c.loop-n.n ≡ 16 = omega arith in
    c.valued-2.ensures ∙ rw n at (sym (c.loop-n.invariant ∙ filters_end c.loop-n.n _ c.loop-n.at (omega arith) (sym c.if-next_is.ensures)))
