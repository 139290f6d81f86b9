-- `knowledge::read_cell` meets its contract.
-- Assumes nothing.
use mathlib.Core.Path.{refl, ◌∙◌}
use Rattle.store.specs.Knowledge.{cell_from}
use Rattle.store.proofs.Learning.{known_standing}
use Rattle.store.proofs.knowledge.read_cell.Goals as goal

pub returns : goal.returns
unfolding cell_from
returns c = let m = rw c.start_of_length-o.ensures at c.read_items-k.ensures in
    known_standing _ c.read_items-k.result _ _ _ m refl refl (c.end.ensures ∙ rw m.last)
