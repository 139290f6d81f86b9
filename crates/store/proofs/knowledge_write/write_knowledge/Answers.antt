-- `knowledge_write::write_knowledge` meets its contract.
-- Assumes nothing.
use mathlib.Core.Path.{sym, ap, ◌∙◌}
use mathlib.Core.List.{◌++◌}
use Prim.Native.Nat.{ℕ}
use lib.ListN.{drop}
use Rattle.numbers.proofs.Calls.{wrote_short, wrote_done}
use Rattle.ranges.specs.RangeTable.{ranges_at}
use Rattle.store.specs.KnowledgeWritten.{knowledge_bytes}
use Rattle.store.proofs.knowledge_write.write_knowledge.Goals as goal

pub returns-then-out-needed : goal.returns-then-out-needed
returns-then-out-needed c = let a = c.args in
    let w = knowledge_bytes (ranges_at a.table.now 0 a.rows) in
    rw c.too_short.ensures (wrote_short w a.out.now c.knowledge_length-needed.result (sym c.knowledge_length-needed.ensures.0) c.if-out-needed.true)

pub returns : goal.returns
returns c = let a = c.args in
    let w = knowledge_bytes (ranges_at a.table.now 0 a.rows) in
    let e = sym c.knowledge_length-needed.ensures.0 in
    wrote_done w a.out.now c.put_knowledge.new.out c.knowledge_length-needed.result e c.if-out-needed.false
    (c.put_knowledge.ensures ∙ ap (λ (m : ℕ). w ++ drop m a.out.now) e)
