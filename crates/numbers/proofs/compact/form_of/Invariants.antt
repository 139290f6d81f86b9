-- `compact::form_of` meets its contract. The invariant: the form of v is k forms more than that of the rest.
-- Assumes nothing.
use mathlib.Core.Path.{◌≡◌}
use Prim.Native.Nat.{◌+◌, ◌-◌}
use Rattle.numbers.specs.Compact.{form_from, form_of}
use Rattle.numbers.proofs.compact.form_of.Given as goal

abbrev pub invariant-loop-k : goal.invariant-loop-k
invariant-loop-k l = form_of l.v ≡ l.k + form_from (7 - l.k) l.rest
