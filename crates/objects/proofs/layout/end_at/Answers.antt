-- `layout::end_at` meets its contract: by one byte, or by the header.
-- Assumes nothing.
use mathlib.Core.Path.{sym, ap, ◌∙◌}
use native.Mathlib.Omega.{arith}
use Rattle.std.specs.Prelude.{Ok}
use Rattle.objects.proofs.HeaderLaws.{header_fits_at}
use Rattle.objects.proofs.Short.{short_room, short_ends}
use Rattle.objects.proofs.layout.end_at.Goals as goal

pub bounds-s-at : goal.bounds-s-at
bounds-s-at c = let w = short_room _ _ _ 1 (sym c.short_number-w.ensures) c.if-w-eq1.true (omega arith) in
    omega arith

pub overflow_add-result : goal.overflow_add-result
overflow_add-result c = let w = short_room _ _ _ 1 (sym c.short_number-w.ensures) c.if-w-eq1.true (omega arith) in
    omega arith

pub returns-then-s-at : goal.returns-then-s-at
returns-then-s-at c = sym (short_ends _ _ _ _ (sym c.short_number-w.ensures) c.if-w-eq1.true c.if-s-at.true)

pub overflow_add-result-then-k-kind : goal.overflow_add-result-then-k-kind
overflow_add-result-then-k-kind c = let w = header_fits_at _ _ _ (sym c.header_at.ensures ∙ c.in_ok-header_at.was ∙ ap Ok c.in-End.is) in
    omega arith
