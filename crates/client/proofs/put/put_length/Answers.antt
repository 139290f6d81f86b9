-- `put::put_length` meets its contract.
-- Assumes nothing.
use native.Mathlib.Omega.{arith}
use Rattle.client.proofs.PutLengths.{length_put}
use Rattle.client.proofs.put.put_length.Goals as goal

pub returns : goal.returns
returns c = let a = c.args in
    omega (arith, length_put a.id a.expected a.elements.now)
