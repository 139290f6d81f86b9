-- `lay::lay_guid` meets its contract.
-- Assumes nothing.
use mathlib.Core.Path.{sym, ap}
use Prim.Native.Nat.{ℕ, ◌+◌}
use native.Mathlib.Omega.{arith}
use Rattle.laws.proofs.Parts.{tail_length}
use Rattle.numbers.specs.Guid.{guid_bytes}
use Rattle.numbers.proofs.Guids.{length_guid}
use Rattle.laws.proofs.Placing.{laid_put}
use Rattle.store.proofs.lay.lay_guid.Goals as goal

pub put_guid-requires : goal.put_guid-requires
put_guid-requires c = let a = c.args in
    tail_length a.at 16 a.out.now (let e = length_guid a.g in omega arith)

pub returns : goal.returns
returns c = let a = c.args in
    let e = length_guid a.g in
    (ap (λ (m : ℕ). a.at + m) (sym e), laid_put a.at 16 (guid_bytes a.g) a.out.now c.put_guid.new.out e c.put_guid.ensures)
