-- `lay::lay_byte` meets its contract.
-- Assumes nothing.
use mathlib.Core.Path.{refl}
use native.Mathlib.Numerals.{add-one}
use native.Mathlib.Omega.{arith}
use lib.Seq.{set_split}
use Rattle.store.proofs.lay.lay_byte.Goals as goal

pub returns : goal.returns
returns c = let a = c.args in (refl, rw add-one (set_split a.out.now a.at a.b (omega arith)))
