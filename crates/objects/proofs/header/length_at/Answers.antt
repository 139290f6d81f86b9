-- `header::length_at` meets its contract: the true length is read where the escape stands.
-- Assumes nothing.
use mathlib.Core.Path.{sym, ◌∙◌}
use native.Mathlib.Omega.{arith}
use borrow.Author.Tests.{eq-eqb, ne_eqb}
use Rattle.laws.proofs.Parts.{tail_part}
use Rattle.objects.specs.Header.{length_at}
use Rattle.objects.proofs.HeaderLaws.{compact_past, compact_fits}
use Rattle.objects.proofs.header.length_at.Goals as goal

pub returns-then-n-ne-ESCAPE : goal.returns-then-n-ne-ESCAPE
unfolding length_at
returns-then-n-ne-ESCAPE c = rw (ne_eqb _ _ c.if-n-ne-ESCAPE.true)

pub returns-then-s-at : goal.returns-then-s-at
unfolding length_at
returns-then-s-at c = rw (eq-eqb _ _ c.if-n-ne-ESCAPE.false, compact_past _ _ _ c.if-s-at.true, c.at_place.ensures)

pub overflow_add-result : goal.overflow_add-result
overflow_add-result c = let a = c.args in
    let e = sym c.item.ensures ∙ c.in-Ok.is in
    omega (arith, compact_fits _ a.s.now a.at _ _ _ (rw tail_part at e))

pub returns-in-Ok : goal.returns-in-Ok
unfolding length_at
returns-in-Ok c = let e = rw tail_part at (sym c.item.ensures ∙ c.in-Ok.is) in
    rw (eq-eqb _ _ c.if-n-ne-ESCAPE.false, e)

pub returns-in-Err : goal.returns-in-Err
unfolding length_at
returns-in-Err c = let e = rw tail_part at (sym c.item.ensures ∙ c.in-Err.is) in
    rw (eq-eqb _ _ c.if-n-ne-ESCAPE.false, e, c.at_place-in-Err.ensures)
