-- `new_store::lay_planned` meets its contract. The invariant: with the elements still to come laid at p, out is what it is to be.
-- Assumes nothing.
use mathlib.Core.Path.{◌≡◌}
use Prim.Native.Nat.{◌+◌}
use lib.ListN.{length, drop}
use Rattle.laws.specs.Placed.{laid}
use Rattle.puts.specs.Plan.{sides_of, planned_bytes}
use Rattle.puts.proofs.new_store.lay_planned.Given as goal

abbrev pub invariant-loop-source : goal.invariant-loop-source
invariant-loop-source l = (length l.out ≡ length l.initial.out)
    × (l.p + length (planned_bytes (sides_of l.inputs) (drop l.source-index l.plan)) ≡ l.at + length (planned_bytes (sides_of l.inputs) l.plan))
    × (laid l.p (planned_bytes (sides_of l.inputs) (drop l.source-index l.plan)) l.out ≡ laid l.at (planned_bytes (sides_of l.inputs) l.plan) l.initial.out)
