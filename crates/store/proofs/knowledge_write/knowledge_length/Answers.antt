-- `knowledge_write::knowledge_length` meets its contract.
-- Assumes nothing.
use mathlib.Core.Path.{ap}
use native.Mathlib.Omega.{arith}
use lib.ListN.{length}
use Rattle.store.specs.KnowledgeWritten.{ranges_bytes}
use Rattle.store.proofs.KnowledgeLengths.{rows_front, length_none, length_some}
use Rattle.store.proofs.knowledge_write.knowledge_length.Goals as goal

pub returns-then-rows-eq0 : goal.returns-then-rows-eq0
returns-then-rows-eq0 c = let a = c.args in
    omega (arith, length_none a.table.now a.rows c.if-rows-eq0.true)

pub returns : goal.returns
returns c = let a = c.args in
    let e = ap length (ap ranges_bytes (rows_front a.table.now a.rows)) in
    omega (arith, e, length_some a.table.now a.rows c.if-rows-eq0.false)
