-- `ask::constraint_length` meets its contract.
-- Assumes nothing.
use native.Mathlib.Omega.{arith}
use Rattle.client.proofs.AskLengths.{length_none, length_constraint}
use Rattle.client.proofs.ask.constraint_length.Goals as goal

pub returns-then-limit-eq-NO_LIMIT : goal.returns-then-limit-eq-NO_LIMIT
returns-then-limit-eq-NO_LIMIT c = omega (arith, length_none c.args.limit c.if-limit-eq-NO_LIMIT.true)

pub returns : goal.returns
returns c = omega (arith, length_constraint c.args.limit c.if-limit-eq-NO_LIMIT.false)
