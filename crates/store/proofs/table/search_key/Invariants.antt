-- `table::search_key` meets its contract. The invariant: the key is among all keys as it is among those still to come.
-- Assumes nothing.
use mathlib.Core.Path.{◌≡◌}
use Prim.Native.Nat.{◌+◌, ◌-◌, ◌*◌}
use Rattle.laws.specs.Once.{seen}
use Rattle.store.specs.Element.{same_key}
use Rattle.store.specs.Tables.{keys_at}
use Rattle.store.proofs.table.search_key.Given as goal

abbrev pub invariant-loop-i : goal.invariant-loop-i
invariant-loop-i l = seen same_key l.k (keys_at l.t l.offset l.width l.n) ≡ seen same_key l.k (keys_at l.t (l.i * l.width + l.offset) l.width (l.n - l.i))
