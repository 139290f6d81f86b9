-- `knowledge_write::range_length` meets its contract.
-- Assumes nothing.
use native.Mathlib.Omega.{arith}
use Rattle.store.proofs.KnowledgeLengths.{length_range}
use Rattle.store.proofs.knowledge_write.range_length.Goals as goal

pub returns : goal.returns
returns c = omega (arith, length_range c.args.x)
