-- `header_write::end_length` meets its contract.
-- Assumes nothing.
use mathlib.Core.Path.{sym}
use native.Mathlib.Omega.{arith}
use Rattle.objects.proofs.HeaderForms.{length_end_short, length_end_long}
use Rattle.objects.proofs.header_write.end_length.Goals as goal

pub returns-then-kind-lt64 : goal.returns-then-kind-lt64
returns-then-kind-lt64 c = let h = c.if-kind-lt64.true in (sym (length_end_short c.args.kind h), omega arith)

pub returns-else-kind-lt64 : goal.returns-else-kind-lt64
returns-else-kind-lt64 c = let h = c.if-kind-lt64.false in (sym (length_end_long c.args.kind h), omega arith)
