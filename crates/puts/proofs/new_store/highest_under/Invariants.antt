-- `new_store::highest_under` meets its contract. The invariant: the number is the highest of the last elements that were gone through.
-- Assumes nothing.
use mathlib.Core.Path.{◌≡◌}
use Prim.Native.Nat.{◌-◌}
use Rattle.store.specs.Tables.{elements_in_rows}
use Rattle.puts.specs.NewStore.{highest_under}
use Rattle.puts.proofs.new_store.highest_under.Given as goal

abbrev pub invariant-loop-i : goal.invariant-loop-i
invariant-loop-i l = l.highest ≡ highest_under l.g (elements_in_rows l.stored.rows.now l.stored.ids.now l.i (l.stored.count - l.i))
