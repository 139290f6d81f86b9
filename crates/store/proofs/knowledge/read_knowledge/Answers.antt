-- `knowledge::read_knowledge` meets its contract.
-- Assumes nothing.
use mathlib.Core.Path.{refl, sym, ◌∙◌}
use native.Mathlib.Omega.{arith}
use Rattle.store.specs.Knowledge.{knowledge_at}
use Rattle.store.proofs.KnowledgeForward.{specialized_falls}
use Rattle.store.proofs.Learning.{learning_start, learning_more, learning_end}
use Rattle.store.proofs.knowledge.read_knowledge.Goals as goal

pub loop-table-init : goal.loop-table-init
loop-table-init c = (refl, learning_start _ _ _ _ _ _ c.requires)

pub read_specialized-k-requires : goal.read_specialized-k-requires
read_specialized-k-requires c = (c.loop-table.invariant.1.room, c.loop-table.invariant.1.normal)

pub loop-table-smaller : goal.loop-table-smaller
loop-table-smaller c = let e = sym c.next_is.ensures ∙ c.loop-table-test.true in
    rw c.read_specialized-k.ensures.last (specialized_falls _ _ _ _ e)

pub loop-table-preserved : goal.loop-table-preserved
loop-table-preserved c = let e = sym c.next_is.ensures ∙ c.loop-table-test.true in
    let h = c.loop-table.invariant.0 in
    (omega arith, learning_more _ c.loop-table.invariant.1 e c.read_specialized-k.result _ c.read_specialized-k.ensures)

pub shape_of-table : goal.shape_of-table
shape_of-table c = c.loop-table.invariant.0

pub returns : goal.returns
unfolding knowledge_at
returns c = let e = sym c.next_is.ensures ∙ c.loop-table-test.false in
    rw (← c.start_of_length.ensures) (learning_end _ c.loop-table.invariant.1 e _ (c.answer.ensures ∙ rw c.end.ensures))
