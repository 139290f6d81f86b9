-- `knowledge_write::lay_back` meets its contract: three ends, one behind the other.
-- Assumes nothing.
use mathlib.Core.List.{◌++◌}
use Prim.Native.Nat.{◌+◌, ◌≤◌}
use native.Mathlib.Omega.{arith}
use lib.ListN.{length, length-append}
use Rattle.objects.specs.Header.{end_bytes}
use Rattle.store.specs.KnowledgeWritten.{cell_back}
use Rattle.laws.proofs.Placing.{lays_then}
use Rattle.store.proofs.KnowledgeLengths.{length_back}
use Rattle.store.proofs.knowledge_write.lay_back.Goals as goal

pub lay_end-behind_cell-requires : goal.lay_end-behind_cell-requires
lay_end-behind_cell-requires c = omega (arith, length_back)

pub lay_end-behind_specialized-requires : goal.lay_end-behind_specialized-requires
lay_end-behind_specialized-requires c = omega (arith, length_back)

pub lay_end-requires : goal.lay_end-requires
lay_end-requires c = omega (arith, length_back)

pub returns : goal.returns
unfolding cell_back
returns c = let a = c.args in
    let e = end_bytes 0x14 in
    let f = end_bytes 0x44 in
    let g = end_bytes 0x10 in
    let m = length-append f g in
    let l = length_back in
    let h : a.at + 4 ≤ length a.out.now = omega arith in
    lays_then a.at e (f ++ g) a.out.now c.lay_end-behind_cell.result c.lay_end-behind_cell.new.out c.lay_end.result c.lay_end.new.out (omega arith) c.lay_end-behind_cell.ensures
    (lays_then c.lay_end-behind_cell.result f g c.lay_end-behind_cell.new.out c.lay_end-behind_specialized.result c.lay_end-behind_specialized.new.out c.lay_end.result c.lay_end.new.out (omega arith)
    c.lay_end-behind_specialized.ensures c.lay_end.ensures)
