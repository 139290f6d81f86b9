-- `kept::planned_length` meets its contract. The invariant: the whole is what was counted and what is still to come.
-- Assumes nothing.
use mathlib.Core.Path.{◌≡◌}
use Prim.Native.Nat.{◌+◌, ◌*◌, ◌^◌, ◌≤◌}
use lib.ListN.{drop}
use Rattle.book.specs.Plan.{planned_length}
use Rattle.book.proofs.kept.planned_length.Given as goal

abbrev pub invariant-loop-source : goal.invariant-loop-source
invariant-loop-source l = (l.whole ≤ l.source-index * 2 ^ 25)
    × (l.whole + planned_length l.book.elements.rows.now l.book.elements.ids.now l.answer.elements.rows.now l.answer.elements.ids.now (drop l.source-index l.plan) ≡ planned_length l.book.elements.rows.now l.book.elements.ids.now l.answer.elements.rows.now l.answer.elements.ids.now l.plan)
