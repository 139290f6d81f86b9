-- `answer::behind_knowledge` meets its contract: what stands in the table does not matter.
-- Assumes nothing.
use Rattle.store.specs.Knowledge.{most_said}
use Rattle.client.specs.Read.{knowledge_in}
use Rattle.client.proofs.KnowledgeOn.{knowledge_on}
use Rattle.client.proofs.answer.behind_knowledge.Goals as goal

pub returns : goal.returns
unfolding knowledge_in
returns c = rw c.on_knowledge.ensures (knowledge_on _ most_said 13 0x41 _ _ _ _ _ c.read_knowledge.ensures)
