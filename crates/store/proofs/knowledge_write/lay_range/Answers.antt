-- `knowledge_write::lay_range` meets its contract: the start, and the data behind it.
-- Assumes nothing.
use mathlib.Core.Path.{◌≡◌}
use mathlib.Core.Bool.{false}
use Prim.Native.Nat.{◌+◌, ◌-◌, ◌≤◌, ◌<◌}
use native.Mathlib.Omega.{arith}
use lib.ListN.{length}
use Rattle.objects.specs.Header.{start_bytes}
use Rattle.store.specs.KnowledgeWritten.{range_data, range_bytes}
use Rattle.laws.specs.Placed.{Lays}
use Rattle.laws.proofs.Placing.{lays_then}
use Rattle.store.proofs.KnowledgeLengths.{length_range_start, range_is}
use Rattle.store.proofs.knowledge_write.lay_range.Goals as goal

pub overflow_sub-n : goal.overflow_sub-n
overflow_sub-n c = omega (arith, range_is c.args.x)

pub lay_range_start-behind_start-requires : goal.lay_range_start-behind_start-requires
lay_range_start-behind_start-requires c = let n = c.range_length-n.result - 2 in
    let h : n < 128 = omega arith in
    omega (arith, range_is c.args.x, length_range_start n h)

pub lay_data-requires : goal.lay_data-requires
lay_data-requires c = let n = c.range_length-n.result - 2 in
    let h : n < 128 = omega arith in
    omega (arith, range_is c.args.x, length_range_start n h)

pub returns : goal.returns
unfolding range_bytes
returns c = let a = c.args in
    let d = range_data a.x in
    let w = start_bytes 0x0F false (length d) in
    let n : c.range_length-n.result - 2 ≡ length d = omega (arith, range_is a.x) in
    let l = length_range_start (length d) (omega arith) in
    let h : a.at + (2 + length d) ≤ length a.out.now = omega (arith, range_is a.x) in
    let e : Lays a.at w a.out.now c.lay_range_start-behind_start.result c.lay_range_start-behind_start.new.out = rw n at c.lay_range_start-behind_start.ensures in
    lays_then a.at w d a.out.now c.lay_range_start-behind_start.result c.lay_range_start-behind_start.new.out c.lay_data.result c.lay_data.new.out (omega arith) e c.lay_data.ensures
