-- `tables::put_range_row` meets its contract.
-- Assumes nothing.
use Prim.Native.Nat.{◌*◌}
use native.Mathlib.Omega.{arith}
use lib.ListN.{length-set}
use Rattle.store.specs.KnowledgeWritten.{range_guid}
use Rattle.ranges.proofs.Four.{put_four}
use Rattle.pages.proofs.tables.put_range_row.Goals as goal

pub bounds-to-at-2 : goal.bounds-to-at-2
bounds-to-at-2 c = simp length-set (omega arith)

pub bounds-to-at-3 : goal.bounds-to-at-3
bounds-to-at-3 c = simp length-set (omega arith)

pub bounds-to-at-4 : goal.bounds-to-at-4
bounds-to-at-4 c = simp length-set (omega arith)

pub returns : goal.returns
unfolding range_guid
returns c = let a = c.args in
    rw (c.swap-2.ensures, c.swap.ensures)
    (put_four a.to.now (a.k * 4) (range_guid a.x).low (range_guid a.x).high a.x.from a.x.to (omega arith))
