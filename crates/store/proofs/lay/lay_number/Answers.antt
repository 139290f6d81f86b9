-- `lay::lay_number` meets its contract.
-- Assumes nothing.
use mathlib.Core.Path.{ap}
use Prim.Native.Nat.{ℕ, ◌+◌}
use native.Mathlib.Omega.{arith}
use Rattle.numbers.specs.Compact.{compact_bytes}
use Rattle.laws.proofs.Placing.{laid_part}
use Rattle.store.proofs.lay.lay_number.Goals as goal

pub returns : goal.returns
returns c = let a = c.args in (
  ap (λ (m : ℕ). a.at + m) c.compact_length.ensures.0,
  laid_part a.at (compact_bytes a.v) a.out.now c.write_compact.new.out (omega arith) c.write_compact.ensures.1,
)
