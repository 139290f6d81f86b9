-- `header::header_of` meets its contract: the low two bits tell the form.
-- Assumes nothing.
use borrow.Author.Tests.{eq-eqb, ne_eqb}
use Rattle.objects.specs.Header.{header_of}
use Rattle.objects.proofs.header.header_of.Goals as goal

pub returns-then-t-eq0 : goal.returns-then-t-eq0
unfolding header_of
returns-then-t-eq0 c = rw (eq-eqb _ _ c.if-t-eq0.true, c.at_place.ensures)

pub returns-in-0 : goal.returns-in-0
unfolding header_of
returns-in-0 c = rw (ne_eqb _ _ c.if-t-eq0.false, c.in-0.is) c.start_of.ensures

pub returns-in-1 : goal.returns-in-1
unfolding header_of
returns-in-1 c = rw (ne_eqb _ _ c.if-t-eq0.false, c.in-1.is) c.end_of.ensures

pub returns-in-2 : goal.returns-in-2
unfolding header_of
returns-in-2 c = rw (ne_eqb _ _ c.if-t-eq0.false, c.in-2.is) c.start_of-in-2.ensures

pub returns-in_default : goal.returns-in_default
unfolding header_of
returns-in_default c = let r = c.in_default.in_default-own.rest in
    rw (ne_eqb _ _ c.if-t-eq0.false, ne_eqb _ _ r.0.0.1, ne_eqb _ _ r.0.1, ne_eqb _ _ r.1) c.end_of-in_default.ensures
