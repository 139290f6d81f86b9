-- `knowledge_write::lay_range_start` meets its contract: its two bytes.
-- Assumes nothing.
use mathlib.Core.List.{[], ◌∷◌}
use Prim.Native.Nat.{◌+◌, ◌*◌, ◌≤◌}
use native.Mathlib.Omega.{arith}
use lib.ListN.{length}
use Rattle.laws.proofs.Placing.{lays_then}
use Rattle.store.proofs.ShortRanges.{range_start_bytes}
use Rattle.store.proofs.knowledge_write.lay_range_start.Goals as goal

pub returns : goal.returns
returns c = let a = c.args in
    let h : a.at + 2 ≤ length a.out.now = omega arith in
    rw (range_start_bytes a.n (omega arith))
    (lays_then a.at (0x78 ∷ []) (a.n * 2 ∷ []) a.out.now c.lay_byte-behind_type.result c.lay_byte-behind_type.new.out c.lay_byte.result c.lay_byte.new.out (omega arith)
    c.lay_byte-behind_type.ensures c.lay_byte.ensures)
