-- `put::client_knowledge` meets its contract.
-- Assumes nothing.
use mathlib.Core.Path.{◌∙◌}
use Rattle.puts.proofs.PutParts.{client_on}
use Rattle.puts.proofs.put.client_knowledge.Goals as goal

pub returns : goal.returns
returns c = c.on_knowledge.ensures ∙ client_on _ _ _ _ _ c.knowledge_part.ensures
