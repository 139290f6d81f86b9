-- `layout::starts_at` meets its contract: by two bytes, or by the header.
-- Assumes nothing.
use mathlib.Core.Path.{sym}
use Rattle.objects.proofs.Short.{short_starts}
use Rattle.objects.proofs.layout.starts_at.Goals as goal

pub returns-then-w-eq0 : goal.returns-then-w-eq0
returns-then-w-eq0 c = sym (short_starts _ _ _ _ (sym c.short_number-w.ensures) c.if-w-eq0.true)
