-- `knowledge_write::lay_knowledge` meets its contract: a start and an end, or the front, the ranges and the back.
-- Assumes nothing.
use mathlib.Core.Bool.{true}
use mathlib.Core.List.{◌++◌}
use Prim.Native.Nat.{◌+◌, ◌≤◌}
use native.Mathlib.Omega.{arith}
use lib.ListN.{length, length-append}
use Rattle.objects.specs.Header.{start_bytes, end_bytes}
use Rattle.ranges.specs.RangeTable.{ranges_at}
use Rattle.store.specs.KnowledgeWritten.{ranges_bytes, cell_front, cell_back}
use Rattle.laws.proofs.Placing.{lays_then}
use Rattle.store.proofs.KnowledgeLengths.{length_front, length_back, knowledge_none, knowledge_some, length_none, length_some}
use Rattle.store.proofs.knowledge_write.lay_knowledge.Goals as goal

pub lay_start-behind_start-requires : goal.lay_start-behind_start-requires
lay_start-behind_start-requires c = let a = c.args in
    omega (arith, length_none a.table.now a.rows c.if-rows-eq0.true, length_front)

pub lay_end-requires : goal.lay_end-requires
lay_end-requires c = let a = c.args in
    omega (arith, length_none a.table.now a.rows c.if-rows-eq0.true, length_front, length_back)

pub returns-then-rows-eq0 : goal.returns-then-rows-eq0
returns-then-rows-eq0 c = let a = c.args in
    let e = start_bytes 0x10 true 0 in
    let f = end_bytes 0x10 in
    let n = length_none a.table.now a.rows c.if-rows-eq0.true in
    let h : a.at + 3 ≤ length a.out.now = omega arith in
    let k = length_front in
    let l = length_back in
    rw (knowledge_none a.table.now a.rows c.if-rows-eq0.true)
    (lays_then a.at e f a.out.now c.lay_start-behind_start.result c.lay_start-behind_start.new.out c.lay_end.result c.lay_end.new.out (omega arith) c.lay_start-behind_start.ensures c.lay_end.ensures)

pub lay_front-behind_front-requires : goal.lay_front-behind_front-requires
lay_front-behind_front-requires c = let a = c.args in
    omega (arith, length_some a.table.now a.rows c.if-rows-eq0.false, length_front)

pub lay_ranges-behind_ranges-requires : goal.lay_ranges-behind_ranges-requires
lay_ranges-behind_ranges-requires c = let a = c.args in
    omega (arith, length_some a.table.now a.rows c.if-rows-eq0.false, length_front)

pub lay_back-requires : goal.lay_back-requires
lay_back-requires c = let a = c.args in
    omega (arith, length_some a.table.now a.rows c.if-rows-eq0.false, length_front, length_back)

pub returns : goal.returns
returns c = let a = c.args in
    let r = ranges_bytes (ranges_at a.table.now 0 a.rows) in
    let n = length_some a.table.now a.rows c.if-rows-eq0.false in
    let h : a.at + (28 + length r) ≤ length a.out.now = omega arith in
    let k = length_front in
    let l = length_back in
    let m = length-append r cell_back in
    rw (knowledge_some a.table.now a.rows c.if-rows-eq0.false)
    (lays_then a.at cell_front (r ++ cell_back) a.out.now c.lay_front-behind_front.result c.lay_front-behind_front.new.out c.lay_back.result c.lay_back.new.out (omega arith) c.lay_front-behind_front.ensures
    (lays_then c.lay_front-behind_front.result r cell_back c.lay_front-behind_front.new.out c.lay_ranges-behind_ranges.result c.lay_ranges-behind_ranges.new.out c.lay_back.result c.lay_back.new.out (omega arith)
    c.lay_ranges-behind_ranges.ensures c.lay_back.ensures))
