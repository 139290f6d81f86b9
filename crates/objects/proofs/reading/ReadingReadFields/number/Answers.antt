-- `reading::ReadingReadFields::number` meets its contract.
-- Assumes nothing.
use mathlib.Core.Path.{sym, ◌∙◌}
use native.Mathlib.Omega.{arith}
use Rattle.laws.proofs.Parts.{tail_part}
use Rattle.objects.specs.Steps.{number}
use Rattle.objects.proofs.HeaderLaws.{compact_fits, compact_past}
use Rattle.objects.proofs.reading.ReadingReadFields.number.Goals as goal

pub returns-then-s-at : goal.returns-then-s-at
unfolding number
returns-then-s-at c = rw (c.in_ok-at.was, compact_past _ _ _ c.if-s-at.true, c.at_place.ensures)

pub overflow_add-result : goal.overflow_add-result
overflow_add-result c = let e = rw tail_part at (sym c.item.ensures ∙ c.in-Ok.is) in
    omega (arith, compact_fits _ c.args.s.now c.in_ok-at.at c.in-Ok.v c.in-Ok.n _ e)
