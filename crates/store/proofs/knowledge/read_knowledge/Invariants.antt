-- `knowledge::read_knowledge` meets its contract.
-- Assumes nothing.
use mathlib.Core.Path.{◌≡◌}
use mathlib.Core.List.{[]}
use lib.ListN.{length}
use Rattle.store.specs.Knowledge.{knowing, to_go, knowledge_from}
use Rattle.store.proofs.Learning.{Learning}
use Rattle.store.proofs.knowledge.read_knowledge.Given as goal

abbrev pub invariant-loop-table : goal.invariant-loop-table
invariant-loop-table l = (length l.table ≡ length l.initial.table) × Learning l.padding l.depth l.s (knowledge_from l.padding l.depth l.s (knowing [] l.initial.table l.allowed l.initial.k.last)) l.table l.k.last l.k.rows l.k.left

abbrev pub decreases-loop-table : goal.decreases-loop-table
decreases-loop-table l = to_go l.s l.k.last
