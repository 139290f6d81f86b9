-- `put::optional_bytes` meets its contract.
-- Assumes nothing.
use mathlib.Core.Path.{sym, ◌∙◌}
use Rattle.puts.specs.Put.{undivided, optional_bytes}
use Rattle.puts.proofs.PutParts.{good_undivided}
use Rattle.puts.proofs.put.optional_bytes.Goals as goal

pub closed-requires : goal.closed-requires
unfolding undivided
closed-requires c = rw (c.skip.ensures, c.run.ensures) (good_undivided _ _)

pub returns-then-next_is : goal.returns-then-next_is
unfolding optional_bytes undivided
returns-then-next_is c = rw (sym c.next_is.ensures ∙ c.if-next_is.true, c.closed.ensures, c.skip.ensures, c.run.ensures, c.start-o.ensures)

pub returns : goal.returns
unfolding optional_bytes
returns c = rw (sym c.next_is.ensures ∙ c.if-next_is.false)
