-- `table::mark_of` meets its contract: each of the two remainders is below the width, which is small enough for their sum.
-- Assumes nothing.
use mathlib.Core.Path.{refl}
use native.Mathlib.Nat.{mod-lt}
use native.Mathlib.Omega.{arith}
use Rattle.store.specs.Tables.{mark_of}
use Rattle.store.proofs.Rows.{mark_lt}
use Rattle.store.proofs.table.mark_of.Goals as goal

pub overflow_add-result : goal.overflow_add-result
overflow_add-result c = omega (arith, mod-lt c.args.k.number c.requires.0, mod-lt c.args.k.low c.requires.0)

pub returns : goal.returns
unfolding mark_of
returns c = (refl, mark_lt c.args.width c.args.k c.requires.0)
