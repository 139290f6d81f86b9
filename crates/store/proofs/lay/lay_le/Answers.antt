-- `lay::lay_le` meets its contract.
-- Assumes nothing.
use mathlib.Core.Path.{sym, ap}
use Prim.Native.Nat.{ℕ, ◌+◌}
use Rattle.laws.specs.Bytes.{bytes}
use Rattle.laws.proofs.Numbers.{length_bytes}
use Rattle.laws.proofs.Placing.{laid_put}
use Rattle.store.proofs.lay.lay_le.Goals as goal

pub returns : goal.returns
returns c = let a = c.args in
    let e = length_bytes a.n a.x in
    (ap (λ (m : ℕ). a.at + m) (sym e), laid_put a.at a.n (bytes a.n a.x) a.out.now c.put_le.new.out e c.put_le.ensures)
