-- `knowledge_write::range_guid` meets its contract.
-- Assumes nothing.
use Rattle.store.specs.KnowledgeWritten.{range_guid}
use Rattle.store.proofs.knowledge_write.range_guid.Goals as goal

pub returns : goal.returns
unfolding range_guid
returns c = cc
