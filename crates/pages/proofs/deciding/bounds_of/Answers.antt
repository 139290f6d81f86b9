-- `deciding::bounds_of` meets its contract.
-- Assumes nothing.
use mathlib.Core.Path.{ap}
use Prim.Native.Nat.{ℕ}
use Rattle.pages.proofs.deciding.bounds_of.Goals as goal

pub returns : goal.returns
returns c = let a = c.args in
    (ap (λ (f : ℕ). record { most = a.a.most; limit = a.a.limit; fixed = f; room = a.room }) c.fixed_length.ensures.0, c.fixed_length.ensures.1)
