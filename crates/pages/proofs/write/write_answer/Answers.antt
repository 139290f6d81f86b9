-- `write::write_answer` meets its contract: the front, the elements, the middle, the knowledge and the ends.
-- Assumes nothing.
use mathlib.Core.List.{◌++◌}
use native.Mathlib.Omega.{arith}
use lib.ListN.{length-append}
use Rattle.ranges.specs.RangeTable.{ranges_at}
use Rattle.store.specs.KnowledgeWritten.{knowledge_bytes}
use Rattle.store.specs.Held.{elements_bytes}
use Rattle.laws.proofs.Placing.{lays_then}
use Rattle.request.specs.Response.{ends_bytes, answer_front}
use Rattle.order.specs.Queue.{queued_in}
use Rattle.pages.specs.Tables.{answer_middle}
use Rattle.request.proofs.ResponseLengths.{length_front, length_back}
use Rattle.pages.proofs.Lengths.{answer_parts, answer_room}
use Rattle.pages.proofs.write.write_answer.Goals as goal

pub lay_front-behind_front-requires : goal.lay_front-behind_front-requires
lay_front-behind_front-requires c = let h = answer_room _ _ _ _ _ _ _ c.requires.fits in
    omega (arith, length_front)

pub lay_elements-behind_elements-requires : goal.lay_elements-behind_elements-requires
lay_elements-behind_elements-requires c = let h = answer_room _ _ _ _ _ _ _ c.requires.fits in
    (c.requires.queued, omega (arith, length_front))

pub lay_middle-behind_middle-requires : goal.lay_middle-behind_middle-requires
lay_middle-behind_middle-requires c = let h = answer_room _ _ _ _ _ _ _ c.requires.fits in
    omega (arith, length_front)

pub lay_knowledge-behind_knowledge-requires : goal.lay_knowledge-behind_knowledge-requires
lay_knowledge-behind_knowledge-requires c = let h = answer_room _ _ _ _ _ _ _ c.requires.fits in
    (c.requires.ranges_room, omega (arith, length_front))

pub lay_back-requires : goal.lay_back-requires
lay_back-requires c = let h = answer_room _ _ _ _ _ _ _ c.requires.fits in
    omega (arith, h, c.lay_front-behind_front.ensures.0, c.lay_elements-behind_elements.ensures.0, c.lay_middle-behind_middle.ensures.0, c.lay_knowledge-behind_knowledge.ensures.0, length_front, length_back)

pub returns : goal.returns
returns c = let a = c.args in
    let w = elements_bytes a.store.now (queued_in a.rows.now a.ids.now a.page.count a.queue.now) in
    let m = answer_middle a.page.id a.page.index a.page.partial in
    let k = knowledge_bytes (ranges_at a.table.now 0 a.page.ranges) in
    let b = ends_bytes in
    let d = length-append w (m ++ (k ++ b)) in
    let e = length-append m (k ++ b) in
    let f = length-append k b in
    let i = length_front in
    let j = length_back in
    let h = answer_room _ _ _ _ _ _ _ c.requires.fits in
    rw (answer_parts a.store.now a.page.id a.page.index (queued_in a.rows.now a.ids.now a.page.count a.queue.now) a.page.partial (ranges_at a.table.now 0 a.page.ranges))
    (lays_then 0 answer_front (w ++ (m ++ (k ++ b))) a.out.now c.lay_front-behind_front.result c.lay_front-behind_front.new.out c.lay_back.result c.lay_back.new.out (omega arith) c.lay_front-behind_front.ensures
    (lays_then c.lay_front-behind_front.result w (m ++ (k ++ b)) c.lay_front-behind_front.new.out c.lay_elements-behind_elements.result c.lay_elements-behind_elements.new.out c.lay_back.result c.lay_back.new.out (omega arith) c.lay_elements-behind_elements.ensures
    (lays_then c.lay_elements-behind_elements.result m (k ++ b) c.lay_elements-behind_elements.new.out c.lay_middle-behind_middle.result c.lay_middle-behind_middle.new.out c.lay_back.result c.lay_back.new.out (omega arith) c.lay_middle-behind_middle.ensures
    (lays_then c.lay_middle-behind_middle.result k b c.lay_middle-behind_middle.new.out c.lay_knowledge-behind_knowledge.result c.lay_knowledge-behind_knowledge.new.out c.lay_back.result c.lay_back.new.out (omega arith)
    c.lay_knowledge-behind_knowledge.ensures c.lay_back.ensures))))
