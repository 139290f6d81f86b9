-- `ranges::shift` meets its contract.
-- Assumes nothing.
use Prim.Native.Nat.{◌+◌, ◌-◌, ◌*◌}
use native.Mathlib.Omega.{arith}
use Rattle.ranges.proofs.RangeRows.{put_over, put_before}
use Rattle.ranges.proofs.shift.Goals as goal
use Rattle.ranges.proofs.shift.Goals.{then-j-i, else-j-i}

pub returns : goal.returns
returns c = let a = c.args in
    elim c.if-j-i.branch [
      | then-j-i w ↦
          put_before a.t.now w.copy_within.new.self c.put_range.new.t a.i a.j a.count ((a.i + 1) * 4) (a.count * 4 - a.j * 4) a.x (omega arith) (omega arith) (omega arith) (omega arith) (omega arith)
          w.copy_within.ensures.after (rw w.t-is at c.put_range.ensures)
      | else-j-i w ↦
          put_over a.t.now c.put_range.new.t a.i a.j a.count a.x w.if-j-i.false (omega arith) (omega arith) (rw w.t-is at c.put_range.ensures)
    ]
