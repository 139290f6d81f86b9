-- `knowledge_write::lay_data` meets its contract: the GUID, and each end behind it.
-- Assumes nothing.
use mathlib.Core.List.{◌++◌}
use Prim.Native.Nat.{◌+◌, ◌≤◌}
use native.Mathlib.Omega.{arith}
use lib.ListN.{length, length-append}
use Rattle.numbers.specs.Compact.{compact_bytes}
use Rattle.numbers.specs.Guid.{guid_bytes}
use Rattle.numbers.proofs.Guids.{length_guid}
use Rattle.store.specs.KnowledgeWritten.{range_guid, range_data}
use Rattle.laws.specs.Placed.{Lays}
use Rattle.laws.proofs.Placing.{lays_then}
use Rattle.store.proofs.KnowledgeLengths.{length_data}
use Rattle.store.proofs.knowledge_write.lay_data.Goals as goal

pub lay_guid-behind_guid-requires : goal.lay_guid-behind_guid-requires
lay_guid-behind_guid-requires c = omega (arith, length_data c.args.x, length_guid c.range_guid.result)

pub lay_number-behind_from-requires : goal.lay_number-behind_from-requires
lay_number-behind_from-requires c = omega (arith, length_data c.args.x, length_guid c.range_guid.result)

pub lay_number-requires : goal.lay_number-requires
lay_number-requires c = omega (arith, length_data c.args.x, length_guid c.range_guid.result)

pub returns : goal.returns
unfolding range_data
returns c = let a = c.args in
    let g = guid_bytes (range_guid a.x) in
    let f = compact_bytes a.x.from in
    let t = compact_bytes a.x.to in
    let n : a.at + 16 + length f + length t ≤ length a.out.now = omega (arith, length_data a.x) in
    let l = length_guid (range_guid a.x) in
    let e : Lays a.at g a.out.now c.lay_guid-behind_guid.result c.lay_guid-behind_guid.new.out = rw c.range_guid.ensures at c.lay_guid-behind_guid.ensures in
    let m = length-append f t in
    lays_then a.at g (f ++ t) a.out.now c.lay_guid-behind_guid.result c.lay_guid-behind_guid.new.out c.lay_number.result c.lay_number.new.out (omega arith) e
    (lays_then c.lay_guid-behind_guid.result f t c.lay_guid-behind_guid.new.out c.lay_number-behind_from.result c.lay_number-behind_from.new.out c.lay_number.result c.lay_number.new.out (omega arith)
    c.lay_number-behind_from.ensures c.lay_number.ensures)
