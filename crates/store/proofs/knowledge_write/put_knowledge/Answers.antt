-- `knowledge_write::put_knowledge` meets its contract.
-- Assumes nothing.
use mathlib.Core.Path.{◌∙◌}
use Rattle.ranges.specs.RangeTable.{ranges_at}
use Rattle.store.specs.KnowledgeWritten.{knowledge_bytes}
use Rattle.laws.proofs.Placing.{laid_front}
use Rattle.store.proofs.knowledge_write.put_knowledge.Goals as goal

pub returns : goal.returns
returns c = let a = c.args in
    c.lay_knowledge.ensures.1 ∙ laid_front (knowledge_bytes (ranges_at a.table.now 0 a.rows)) a.out.now
