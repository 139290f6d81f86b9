-- `ranges::put_range` meets its contract.
-- Assumes nothing.
use Prim.Native.Nat.{◌*◌}
use native.Mathlib.Omega.{arith}
use lib.ListN.{length-set}
use Rattle.ranges.proofs.Four.{put_four}
use Rattle.ranges.proofs.put_range.Goals as goal

pub bounds-t-at-2 : goal.bounds-t-at-2
bounds-t-at-2 c = simp length-set (omega arith)

pub bounds-t-at-3 : goal.bounds-t-at-3
bounds-t-at-3 c = simp length-set (omega arith)

pub bounds-t-at-4 : goal.bounds-t-at-4
bounds-t-at-4 c = simp length-set (omega arith)

pub returns : goal.returns
returns c = put_four c.args.t.now (c.args.k * 4) c.args.x.upper c.args.x.lower c.args.x.from c.args.x.to (omega arith)
