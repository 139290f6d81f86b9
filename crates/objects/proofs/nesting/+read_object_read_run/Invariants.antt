-- `nesting::read_object` and `nesting::read_run`, which call each other. The measure of the calls is the depth, twice for an object and once
-- more for a run; that of the loop is what is left of the input.
-- Assumes nothing.
use Rattle.std.proofs.Common.{◌≡◌, ◌+◌, ◌-◌, ◌≤◌, suc, length}
use Rattle.objects.specs.Nesting.{run_at}
use Rattle.objects.proofs.nesting.+read_object_read_run.Given as goal

abbrev pub decreases-read_object : goal.decreases-read_object
decreases-read_object l = l.depth + l.depth

abbrev pub decreases-read_run : goal.decreases-read_run
decreases-read_run l = suc (l.depth + l.depth)

abbrev pub invariant-read_run-loop-e : goal.invariant-read_run-loop-e
invariant-read_run-loop-e l = (run_at l.padding l.s l.at l.depth l.kind ≡ run_at l.padding l.s l.i l.depth l.kind) × (l.i ≤ length l.s)

abbrev pub decreases-read_run-loop-e : goal.decreases-read_run-loop-e
decreases-read_run-loop-e l = length l.s - l.i
