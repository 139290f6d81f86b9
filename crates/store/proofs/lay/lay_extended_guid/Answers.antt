-- `lay::lay_extended_guid` meets its contract.
-- Assumes nothing.
use mathlib.Core.Path.{ap}
use Prim.Native.Nat.{ℕ, ◌+◌}
use native.Mathlib.Omega.{arith}
use Rattle.numbers.specs.ExtendedGuid.{extended_guid_bytes}
use Rattle.laws.proofs.Placing.{laid_part}
use Rattle.store.proofs.lay.lay_extended_guid.Goals as goal

pub returns : goal.returns
returns c = let a = c.args in (
  ap (λ (m : ℕ). a.at + m) c.extended_guid_length.ensures.0,
  laid_part a.at (extended_guid_bytes a.x) a.out.now c.write_extended_guid.new.out (omega arith) c.write_extended_guid.ensures.1,
)
