-- `layout::start_by_header` meets its contract.
-- Assumes nothing.
use mathlib.Core.Path.{sym, ap, ◌∙◌}
use native.Mathlib.Omega.{arith}
use Rattle.std.specs.Prelude.{Ok}
use Rattle.objects.proofs.HeaderLaws.{header_fits_at}
use Rattle.objects.proofs.layout.start_by_header.Goals as goal

pub overflow_add-at : goal.overflow_add-at
overflow_add-at c = let w = header_fits_at _ _ _ (sym c.header_at.ensures ∙ c.in_ok-k.was ∙ ap Ok c.in-Start.is) in
    omega arith
