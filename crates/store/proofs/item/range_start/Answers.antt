-- `item::range_start` meets its contract.
-- Assumes nothing.
use mathlib.Core.Path.{sym}
use native.Mathlib.Omega.{arith}
use Rattle.std.proofs.Common.{rules}
use Rattle.objects.specs.Steps.{start_here}
use Rattle.store.proofs.ShortRanges.{range_there, range_start_lem}
use Rattle.store.proofs.item.range_start.Goals as goal

pub returns-in_err-at : goal.returns-in_err-at
unfolding start_here
returns-in_err-at c = search (rules, c.in_err-at.was)

pub overflow_add-result : goal.overflow_add-result
overflow_add-result c = let h = range_there _ _ _ (sym c.short_number-w.ensures) c.if-w.true in
    omega arith

pub returns-then-n-lt128 : goal.returns-then-n-lt128
returns-then-n-lt128 c = rw c.in_ok-at.was (sym (range_start_lem _ _ _ _ _ (sym c.short_number-w.ensures) c.if-w.true c.if-n-lt128.true))
