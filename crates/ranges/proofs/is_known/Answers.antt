-- `ranges::is_known` meets its contract.
-- Assumes nothing.
use mathlib.Core.Path.{sym, ◌∙◌}
use native.Mathlib.Omega.{arith}
use Rattle.ranges.specs.Ranged.{range_of, knows}
use Rattle.ranges.proofs.RangeSearch.{no_row_holds, one_row_holds}
use Rattle.ranges.proofs.is_known.Goals as goal

pub returns-then-i-count : goal.returns-then-i-count
unfolding range_of knows
returns-then-i-count c = sym (no_row_holds c.args.t.now c.args.count c.requires.1 _ _ c.args.n c.rows_before-i.result (rw c.range_of-x.ensures at c.rows_before-i.ensures) c.if-i-count.true)

pub returns : goal.returns
unfolding range_of knows
returns c = let m = c.rows_before-i.ensures.most in
    c.is_within.ensures
    ∙ rw (c.range_at.ensures, c.range_of-x.ensures)
    (sym (one_row_holds c.args.t.now c.args.count c.requires.1 _ _ c.args.n c.rows_before-i.result (rw c.range_of-x.ensures at c.rows_before-i.ensures) (omega arith)))
