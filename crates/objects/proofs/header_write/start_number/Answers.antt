-- `header_write::start_number` meets its contract.
-- Assumes nothing.
use native.Mathlib.Omega.{arith}
use Rattle.objects.specs.Header.{start_number}
use Rattle.objects.proofs.header_write.start_number.Goals as goal

pub returns-then-compound : goal.returns-then-compound
unfolding start_number
returns-then-compound c = rw c.if-compound.true

pub returns : goal.returns
unfolding start_number
returns c = rw c.if-compound.false (omega arith)
