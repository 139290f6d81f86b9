-- `message::read_request` meets its contract.
-- Assumes nothing.
use mathlib.Core.Path.{◌∙◌}
use Rattle.request.proofs.Whole.{over_long_read, whole_read}
use Rattle.request.proofs.message.read_request.Goals as goal

pub returns-then-s-gt-LONGEST_INPUT : goal.returns-then-s-gt-LONGEST_INPUT
returns-then-s-gt-LONGEST_INPUT c = let a = c.args in
    rw (c.in_request.ensures, c.over_long.ensures) (over_long_read a.s.now a.table.now c.if-s-gt-LONGEST_INPUT.true)

pub returns : goal.returns
returns c = let a = c.args in
    let h = rw (c.read_filters-c.ensures, c.constrained-b.ensures, c.identified-a.ensures) at c.knowledge_part-k.ensures in
    whole_read a.s.now a.table.now c.if-s-gt-LONGEST_INPUT.false c.knowledge_part-k.result _ h _
    (c.answer.ensures
    ∙ rw (c.rows_known.ensures, c.value-3.ensures, c.place.ensures, c.value-2.ensures, c.value.ensures, c.request_end-e.ensures, c.on_knowledge.ensures, c.read_filters-c.ensures, c.constrained-b.ensures, c.identified-a.ensures))
