-- `ask::knowledge_given` meets its contract: what stands in the table does not matter.
-- Assumes nothing.
use borrow.Author.Tests.{lt-ltb}
use Rattle.store.specs.Knowledge.{most_said}
use Rattle.client.specs.Ask.{knowledge_given}
use Rattle.client.proofs.KnowledgeOn.{knowledge_on}
use Rattle.client.proofs.AskGiven.{given_none, given_some}
use Rattle.client.proofs.ask.knowledge_given.Goals as goal

pub returns-then-k-gt-LONGEST_INPUT : goal.returns-then-k-gt-LONGEST_INPUT
unfolding knowledge_given
returns-then-k-gt-LONGEST_INPUT c = rw (c.over_long.ensures, lt-ltb _ _ c.if-k-gt-LONGEST_INPUT.true)

pub returns-then-k-eq0 : goal.returns-then-k-eq0
returns-then-k-eq0 c = given_none _ c.if-k-gt-LONGEST_INPUT.false c.if-k-eq0.true

pub returns : goal.returns
returns c = let k = c.args.k.now in
    rw (c.finish.ensures, c.on_knowledge.ensures, knowledge_on _ most_said 12 0x42 k _ _ _ _ c.read_knowledge-read.ensures)
    (given_some k c.if-k-gt-LONGEST_INPUT.false c.if-k-eq0.false)
