-- `serial::item` meets its contract: the first byte says the form.
-- Assumes nothing.
use borrow.Author.Tests.{eq-eqb, ne_eqb}
use Rattle.numbers.specs.Serial.{read_serial}
use Rattle.numbers.proofs.serial.item.Goals as goal

pub returns-then-s-eq0 : goal.returns-then-s-eq0
unfolding read_serial
returns-then-s-eq0 c = rw (eq-eqb _ _ c.if-s-eq0.true, c.at_front.ensures)

pub returns-then-b-eq0 : goal.returns-then-b-eq0
unfolding read_serial
returns-then-b-eq0 c = rw (ne_eqb _ _ c.if-s-eq0.false, eq-eqb _ _ c.if-b-eq0.true)

pub returns-then-b : goal.returns-then-b
unfolding read_serial
returns-then-b c = rw (ne_eqb _ _ c.if-s-eq0.false, ne_eqb _ _ c.if-b-eq0.false, eq-eqb _ _ c.if-b.true) c.read_numbered.ensures

pub returns : goal.returns
unfolding read_serial
returns c = rw (ne_eqb _ _ c.if-s-eq0.false, ne_eqb _ _ c.if-b-eq0.false, ne_eqb _ _ c.if-b.false, c.at_front-2.ensures)
