-- `knowledge_write::lay_front` meets its contract: the starts, and the GUID between them.
-- Assumes nothing.
use mathlib.Core.Bool.{true}
use mathlib.Core.List.{◌++◌}
use Prim.Native.Nat.{◌+◌, ◌≤◌}
use native.Mathlib.Omega.{arith}
use lib.ListN.{length, length-append}
use Rattle.numbers.specs.Guid.{guid_bytes}
use Rattle.numbers.proofs.Guids.{length_guid}
use Rattle.objects.specs.Header.{start_bytes}
use Rattle.store.specs.Knowledge.{cell_guid}
use Rattle.store.specs.KnowledgeWritten.{cell_front}
use Rattle.laws.proofs.Placing.{lays_then}
use Rattle.store.proofs.KnowledgeLengths.{length_front}
use Rattle.store.proofs.knowledge_write.lay_front.Goals as goal

pub lay_start-behind_knowledge-requires : goal.lay_start-behind_knowledge-requires
lay_start-behind_knowledge-requires c = omega (arith, length_front)

pub lay_start-behind_specialized-requires : goal.lay_start-behind_specialized-requires
lay_start-behind_specialized-requires c = omega (arith, length_front)

pub lay_guid-behind_kind-requires : goal.lay_guid-behind_kind-requires
lay_guid-behind_kind-requires c = omega (arith, length_front, length_guid cell_guid)

pub lay_start-requires : goal.lay_start-requires
lay_start-requires c = omega (arith, length_front, length_guid cell_guid)

pub returns : goal.returns
unfolding cell_front
returns c = let a = c.args in
    let e = start_bytes 0x10 true 0 in
    let f = start_bytes 0x44 true 16 in
    let g = guid_bytes cell_guid in
    let i = start_bytes 0x14 true 0 in
    let m = length-append f (g ++ i) in
    let n = length-append g i in
    let k = length_guid cell_guid in
    let l = length_front in
    let h : a.at + 24 ≤ length a.out.now = omega arith in
    lays_then a.at e (f ++ (g ++ i)) a.out.now c.lay_start-behind_knowledge.result c.lay_start-behind_knowledge.new.out c.lay_start.result c.lay_start.new.out (omega arith) c.lay_start-behind_knowledge.ensures
    (lays_then c.lay_start-behind_knowledge.result f (g ++ i) c.lay_start-behind_knowledge.new.out c.lay_start-behind_specialized.result c.lay_start-behind_specialized.new.out c.lay_start.result c.lay_start.new.out (omega arith) c.lay_start-behind_specialized.ensures
    (lays_then c.lay_start-behind_specialized.result g i c.lay_start-behind_specialized.new.out c.lay_guid-behind_kind.result c.lay_guid-behind_kind.new.out c.lay_start.result c.lay_start.new.out (omega arith)
    c.lay_guid-behind_kind.ensures c.lay_start.ensures))
