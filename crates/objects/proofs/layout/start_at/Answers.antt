-- `layout::start_at` meets its contract: by two bytes, or by the header.
-- Assumes nothing.
use mathlib.Core.Path.{sym, ◌∙◌}
use native.Mathlib.Omega.{arith}
use Rattle.objects.proofs.Short.{short_room, short_is_lem, short_start_on}
use Rattle.objects.proofs.layout.start_at.Goals as goal

pub overflow_add-result : goal.overflow_add-result
overflow_add-result c = let h = short_is_lem _ _ _ (sym c.short_is.ensures ∙ c.if-short_is.true) in
    let w = short_room _ _ _ 0 (sym c.short_number-w.ensures) h.0 (omega arith) in
    omega arith

pub returns-then-n-lt128 : goal.returns-then-n-lt128
returns-then-n-lt128 c = sym (short_start_on _ _ _ _ _ _ _ _ (sym c.short_number-w.ensures) (sym c.short_is.ensures ∙ c.if-short_is.true) c.if-room.true c.if-n-lt128.true)
