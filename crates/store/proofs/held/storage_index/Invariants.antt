-- `held::storage_index` meets its contract. The invariant: the index of all is that of the elements from here on.
-- Assumes nothing.
use mathlib.Core.Path.{◌≡◌}
use Prim.Native.Nat.{◌-◌}
use Rattle.store.specs.Tables.{elements_in_rows}
use Rattle.store.specs.Elements.{elements_of}
use Rattle.store.specs.Held.{storage_index}
use Rattle.store.proofs.held.storage_index.Given as goal

-- ---- the answers
abbrev pub invariant-loop-i : goal.invariant-loop-i
invariant-loop-i l = storage_index (elements_of l.all) ≡ storage_index (elements_in_rows l.all.rows.now l.all.ids.now l.i (l.all.count - l.i))
