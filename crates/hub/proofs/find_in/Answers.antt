-- `find_in` meets its contract.
-- Assumes nothing.
use borrow.Author.Tests.{eq-eqb, ne_eqb}
use Rattle.hub.specs.Bench.{element_found}
use Rattle.hub.proofs.find_in.Goals as goal

pub returns-then-kind-eq0 : goal.returns-then-kind-eq0
unfolding element_found
returns-then-kind-eq0 c = rw (eq-eqb _ _ c.if-kind-eq0.true) c.find_element.ensures

pub returns : goal.returns
unfolding element_found
returns c = rw (ne_eqb _ _ c.if-kind-eq0.false) c.find_received.ensures
