-- `reading::ReadingReadFields::serial` meets its contract.
-- Assumes nothing.
use mathlib.Core.Path.{sym, ◌∙◌}
use native.Mathlib.Omega.{arith}
use Rattle.laws.proofs.Parts.{tail_part}
use Rattle.objects.specs.Steps.{serial_here}
use Rattle.objects.proofs.ItemsAt.{serial_fits, serial_past}
use Rattle.objects.proofs.reading.ReadingReadFields.serial.Goals as goal

pub returns-then-s-at : goal.returns-then-s-at
unfolding serial_here
returns-then-s-at c = rw (c.in_ok-at.was, serial_past _ _ c.if-s-at.true, c.at_place.ensures)

pub overflow_add-result : goal.overflow_add-result
overflow_add-result c = let e = rw tail_part at (sym c.item.ensures ∙ c.in-Ok.is) in
    omega (arith, serial_fits c.args.s.now c.in_ok-at.at c.in-Ok.x c.in-Ok.n e)
