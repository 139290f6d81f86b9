-- `filter::read_filters` meets its contract. The invariant: what is still to be read gives what all would.
-- Assumes nothing.
use mathlib.Core.Path.{◌≡◌}
use Prim.Native.Nat.{◌-◌}
use Rattle.request.specs.Filter.{filters_from}
use Rattle.request.proofs.filter.read_filters.Given as goal

abbrev pub invariant-loop-n : goal.invariant-loop-n
invariant-loop-n l = filters_from 16 l.s l.initial.at ≡ filters_from (16 - l.n) l.s l.at
