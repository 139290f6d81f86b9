-- `filter::ids_from` meets its contract. The invariant: what is still to be read gives what all would.
-- Assumes nothing.
use mathlib.Core.Path.{sym, ◌∙◌}
use native.Mathlib.Omega.{arith}
use Rattle.request.proofs.Turns.{ids_more, ids_over, ids_end}
use Rattle.request.proofs.filter.ids_from.Goals as goal

pub returns-then-i-eq-MOST_IDS : goal.returns-then-i-eq-MOST_IDS
returns-then-i-eq-MOST_IDS c =
    let f = c.loop-i.invariant.1 ∙ ids_over c.args.d.now c.args.n _ c.loop-i.at (omega arith) c.if-i-eq-MOST_IDS.true in
    rw (c.need.ensures, c.place.ensures, c.past_id-next.ensures) (sym f)

pub loop-i-preserved : goal.loop-i-preserved
loop-i-preserved c =
    let f = c.loop-i.invariant.1 ∙ ids_more c.args.d.now c.args.n _ c.loop-i.at (omega arith) (omega arith) in
    (omega arith, rw c.past_id-next.ensures f)

pub returns : goal.returns
returns c = sym (c.loop-i.invariant.1 ∙ ids_end c.args.d.now c.args.n _ c.loop-i.at (omega arith))
