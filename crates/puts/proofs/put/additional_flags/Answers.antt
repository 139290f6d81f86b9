-- `put::additional_flags` meets its contract.
-- Assumes nothing.
use mathlib.Core.Path.{sym, ◌∙◌}
use Rattle.puts.specs.Put.{additional_flags}
use Rattle.puts.proofs.PutParts.{good_flag_fields}
use Rattle.puts.proofs.put.additional_flags.Goals as goal

pub closed-requires : goal.closed-requires
closed-requires c = rw (c.flag_fields.ensures, c.run.ensures) (good_flag_fields _)

pub returns-then-next_is : goal.returns-then-next_is
unfolding additional_flags
returns-then-next_is c = rw (sym c.next_is.ensures ∙ c.if-next_is.true, c.closed.ensures, c.flag_fields.ensures, c.run.ensures, c.start-o.ensures)

pub returns : goal.returns
unfolding additional_flags
returns c = rw (sym c.next_is.ensures ∙ c.if-next_is.false)
