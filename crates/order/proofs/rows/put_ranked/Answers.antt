-- `rows::put_ranked` meets its contract.
-- Assumes nothing.
use Prim.Native.Nat.{◌*◌}
use native.Mathlib.Omega.{arith}
use lib.ListN.{length-set}
use Rattle.order.proofs.Putting.{put_seven}
use Rattle.order.proofs.rows.put_ranked.Goals as goal

pub bounds-t-at-2 : goal.bounds-t-at-2
bounds-t-at-2 c = simp length-set (omega arith)

pub bounds-t-at-3 : goal.bounds-t-at-3
bounds-t-at-3 c = simp length-set (omega arith)

pub bounds-t-at-4 : goal.bounds-t-at-4
bounds-t-at-4 c = simp length-set (omega arith)

pub bounds-t-at-5 : goal.bounds-t-at-5
bounds-t-at-5 c = simp length-set (omega arith)

pub bounds-t-at-6 : goal.bounds-t-at-6
bounds-t-at-6 c = simp length-set (omega arith)

pub bounds-t-at-7 : goal.bounds-t-at-7
bounds-t-at-7 c = simp length-set (omega arith)

pub returns : goal.returns
returns c = let a = c.args in
    rw c.rank_of.ensures.0 (put_seven a.t.now (a.k * 7) a.x.place a.x.length a.x.kind a.x.serial.low a.x.serial.high a.x.serial.number _ (omega arith))
