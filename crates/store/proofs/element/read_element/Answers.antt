-- `element::read_element` meets its contract.
-- Assumes nothing.
use Rattle.objects.specs.Steps.{run_here}
use Rattle.store.proofs.Fields.{good_fields, data_behind}
use Rattle.store.specs.Element.{element_at, data_of}
use Rattle.store.proofs.element.read_element.Goals as goal

pub closed-k-requires : goal.closed-k-requires
closed-k-requires c = rw (c.read_fields-f.ensures, c.run.ensures)
    (good_fields _ _ (run_here c.args.s.now c.start-o.result))

pub element_on-requires : goal.element_on-requires
element_on-requires c = rw (c.place.ensures, c.inside-e.ensures, c.closed-k.ensures, c.read_fields-f.ensures, c.run.ensures, c.start-o.ensures)
    (data_behind _ _ _ _)

pub returns : goal.returns
unfolding element_at data_of
returns c = rw (c.element_on.ensures, c.value.ensures, c.place.ensures, c.inside-e.ensures, c.closed-k.ensures, c.read_fields-f.ensures, c.run.ensures, c.start-o.ensures)
