-- `choice::index_ids` meets its contract. The invariant: the rows so far are in both tables.
-- Assumes nothing.
use mathlib.Core.Path.{◌≡◌}
use lib.ListN.{length}
use Rattle.store.specs.Tables.{most_elements}
use Rattle.request.specs.Index.{index_marks, Linked}
use Rattle.request.proofs.choice.index_ids.Given as goal

abbrev pub invariant-loop-i : goal.invariant-loop-i
invariant-loop-i l = (length l.heads ≡ index_marks) × (length l.links ≡ most_elements) × Linked l.heads l.links l.all.ids.now l.i
