-- `filter::ids_from` meets its contract. The invariant: what is still to be read gives what all would.
-- Assumes nothing.
use mathlib.Core.Path.{◌≡◌}
use Prim.Native.Nat.{◌-◌, ◌≤◌}
use Rattle.request.specs.Filter.{ids_from}
use Rattle.request.proofs.filter.ids_from.Given as goal

abbrev pub invariant-loop-i : goal.invariant-loop-i
invariant-loop-i l = (l.i ≤ 64) × (ids_from 64 l.d l.n l.initial.at ≡ ids_from (64 - l.i) l.d (l.n - l.i) l.at)
