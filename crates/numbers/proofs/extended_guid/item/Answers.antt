-- `extended_guid::item` meets its contract: the first byte says the form.
-- Assumes nothing.
use borrow.Author.Tests.{eq-eqb, ne_eqb}
use Rattle.numbers.specs.ExtendedGuid.{read_extended_guid, form_of_id}
use Rattle.numbers.proofs.extended_guid.item.Goals as goal

pub returns-then-s-eq0 : goal.returns-then-s-eq0
unfolding read_extended_guid
returns-then-s-eq0 c = rw (eq-eqb _ _ c.if-s-eq0.true, c.at_front.ensures)

pub returns-then-b-eq0 : goal.returns-then-b-eq0
unfolding read_extended_guid
returns-then-b-eq0 c = rw (ne_eqb _ _ c.if-s-eq0.false, eq-eqb _ _ c.if-b-eq0.true)

pub returns-in-2 : goal.returns-in-2
unfolding read_extended_guid form_of_id
returns-in-2 c = rw (ne_eqb _ _ c.if-s-eq0.false, ne_eqb _ _ c.if-b-eq0.false, c.in-2.is) c.read_short.ensures

pub returns-in-5 : goal.returns-in-5
unfolding read_extended_guid form_of_id
returns-in-5 c = rw (ne_eqb _ _ c.if-s-eq0.false, ne_eqb _ _ c.if-b-eq0.false, c.in-5.is) c.read_short-in-5.ensures

pub returns-in-6 : goal.returns-in-6
unfolding read_extended_guid form_of_id
returns-in-6 c = rw (ne_eqb _ _ c.if-s-eq0.false, ne_eqb _ _ c.if-b-eq0.false, c.in-6.is) c.read_short-in-6.ensures

pub returns-in-7 : goal.returns-in-7
unfolding read_extended_guid form_of_id
returns-in-7 c = rw (ne_eqb _ _ c.if-s-eq0.false, ne_eqb _ _ c.if-b-eq0.false, c.in-7.is) c.read_long.ensures

pub returns-in_default : goal.returns-in_default
unfolding read_extended_guid form_of_id
returns-in_default c = let r = c.in_default.in_default-own.rest in
    rw (ne_eqb _ _ c.if-s-eq0.false, ne_eqb _ _ c.if-b-eq0.false, ne_eqb _ _ r.0.0.0.1, ne_eqb _ _ r.0.0.1, ne_eqb _ _ r.0.1, ne_eqb _ _ r.1, c.at_front-in_default.ensures)
