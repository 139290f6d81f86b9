-- `ask::request_length` meets its contract.
-- Assumes nothing.
use native.Mathlib.Omega.{arith}
use Rattle.client.proofs.AskLengths.{length_ask}
use Rattle.client.proofs.ask.request_length.Goals as goal

pub returns : goal.returns
returns c = let a = c.args in
    omega (arith, length_ask a.id a.limit a.filters.now a.knowledge.now)
