-- `layout::closed` meets its contract: the run's fields, and what they leave.
-- Assumes nothing.
use Rattle.std.proofs.Common.{rules}
use native.Mathlib.Omega.{arith}
use Prim.Native.Nat.{◌+◌, ◌-◌, ◌^◌, ◌<◌}
use lib.ListN.{length}
use Rattle.objects.specs.Steps.{closed_at, run_here}
use Rattle.objects.proofs.ItemsAt.{part_fits}
use Rattle.objects.proofs.layout.closed.Goals as goal

pub returns-in_err-from : goal.returns-in_err-from
unfolding closed_at
returns-in_err-from c = search (rules, c.in_err-from.was)

pub closed_at-requires : goal.closed_at-requires
unfolding run_here
closed_at-requires c = let a = c.args in
    let e = c.part-m.ensures in
    let l : c.in_ok-from.from + length c.part-m.result.now < 2 ^ 64 = rw e (omega (arith, part_fits a.s.now c.in_ok-from.from c.in_ok-from.n (2 ^ 64 - 1) (omega arith) (omega arith))) in
    (l, rw e (rw c.in_ok-from.was at c.requires))

pub returns : goal.returns
unfolding closed_at run_here
returns c = search (rules, c.in_ok-from.was, c.part-m.ensures, c.closed_at.ensures)
