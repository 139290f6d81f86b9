-- `new_store::planned_length` meets its contract. The invariant: the whole is what was counted and what is still to come.
-- Assumes nothing.
use mathlib.Core.Path.{◌≡◌}
use Prim.Native.Nat.{◌+◌, ◌*◌, ◌^◌, ◌≤◌}
use lib.ListN.{drop}
use Rattle.puts.specs.Plan.{planned_length}
use Rattle.puts.proofs.new_store.planned_length.Given as goal

abbrev pub invariant-loop-source : goal.invariant-loop-source
invariant-loop-source l = (l.whole ≤ l.source-index * (2 ^ 24 + 68))
    × (l.whole + planned_length l.inputs.stored.elements.rows.now l.inputs.stored.elements.ids.now l.inputs.handed.bytes.now l.inputs.handed.elements.rows.now l.inputs.handed.elements.ids.now (drop l.source-index l.plan) ≡ planned_length l.inputs.stored.elements.rows.now l.inputs.stored.elements.ids.now l.inputs.handed.bytes.now l.inputs.handed.elements.rows.now l.inputs.handed.elements.ids.now l.plan)
