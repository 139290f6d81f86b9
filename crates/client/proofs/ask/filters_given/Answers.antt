-- `ask::filters_given` meets its contract.
-- Assumes nothing.
use borrow.Author.Tests.{lt-ltb, le-ltb}
use Rattle.client.specs.Ask.{filters_given}
use Rattle.client.proofs.ask.filters_given.Goals as goal

pub returns-then-f-gt-LONGEST_INPUT : goal.returns-then-f-gt-LONGEST_INPUT
unfolding filters_given
returns-then-f-gt-LONGEST_INPUT c = rw (c.over_long.ensures, lt-ltb _ _ c.if-f-gt-LONGEST_INPUT.true)

pub returns : goal.returns
unfolding filters_given
returns c = rw (c.no_more.ensures, c.read_filters.ensures, le-ltb _ _ c.if-f-gt-LONGEST_INPUT.false)
