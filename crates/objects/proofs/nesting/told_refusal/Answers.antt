-- `nesting::told_refusal` meets its contract.
-- Assumes nothing.
use Rattle.objects.specs.Next.{told_refusal}
use Rattle.objects.proofs.nesting.told_refusal.Goals as goal

pub returns-then-placed : goal.returns-then-placed
unfolding told_refusal
returns-then-placed c = rw c.if-placed.true

pub returns : goal.returns
unfolding told_refusal
returns c = rw c.if-placed.false
