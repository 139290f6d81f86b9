-- `choice::index_ids` meets its contract. The invariant: the rows so far are in both tables.
-- Assumes nothing.
use mathlib.Core.Path.{◌∙◌}
use native.Mathlib.Omega.{arith}
use lib.ListN.{length-set}
use Rattle.request.specs.Index.{index_marks}
use Rattle.request.proofs.Indexing.{linked_start, linked_more}
use Rattle.request.proofs.choice.index_ids.Goals as goal

pub loop-i-init : goal.loop-i-init
loop-i-init c = (omega arith, omega arith, linked_start _ _ _ c.requires.2)

pub loop-i-preserved : goal.loop-i-preserved
loop-i-preserved c = let u = c.loop-i.invariant in (
  length-set c.loop-i.heads _ _ ∙ u.0,
  length-set c.loop-i.links _ _ ∙ u.1,
  linked_more u.2 (omega arith) (omega arith) _ (rw c.id_in_row.ensures at c.mark_of-mark.ensures.0),
)
