-- `message::knowledge_part` meets its contract.
-- Assumes nothing.
use mathlib.Core.Path.{refl, sym, ◌∙◌}
use Rattle.talk.specs.Ranges.{Normal}
use Rattle.ranges.specs.RangeTable.{ranges_at}
use Rattle.request.specs.Message.{knowledge_part}
use Rattle.request.proofs.message.knowledge_part.Goals as goal

pub returns-then-next_is : goal.returns-then-next_is
unfolding knowledge_part
returns-then-next_is c = let e = sym c.next_is.ensures ∙ c.if-next_is.true in
    rw e c.read_knowledge.ensures

pub returns : goal.returns
unfolding knowledge_part ranges_at Normal
returns c = let e = sym c.next_is.ensures ∙ c.if-next_is.false in
    rw e (c.answer.ensures, refl, refl, tt)
