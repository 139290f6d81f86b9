-- `new_store::planned_ranges` meets its contract. The invariant: the ranges of all are those of the numbers still to come, put to those in the table.
-- Assumes nothing.
use mathlib.Core.Path.{◌≡◌}
use mathlib.Core.List.{[]}
use Prim.Native.Nat.{◌≤◌}
use lib.ListN.{length, drop}
use Rattle.talk.specs.Ranges.{Normal}
use Rattle.ranges.specs.RangeTable.{ranges_at}
use Rattle.puts.specs.Plan.{planned_ranges}
use Rattle.puts.proofs.new_store.planned_ranges.Given as goal

abbrev pub invariant-loop-source : goal.invariant-loop-source
invariant-loop-source l = (length l.table ≡ length l.initial.table) × (l.held ≤ l.source-index)
    × (planned_ranges l.inputs.stored.elements.rows.now l.inputs.stored.elements.ids.now l.inputs.guid l.inputs.highest (ranges_at l.table 0 l.held) (drop l.source-index l.plan) ≡ planned_ranges l.inputs.stored.elements.rows.now l.inputs.stored.elements.ids.now l.inputs.guid l.inputs.highest [] l.plan)
    × Normal (ranges_at l.table 0 l.held)
