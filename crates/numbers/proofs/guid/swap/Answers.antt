-- `guid::swap` meets its contract.
-- Assumes nothing.
use mathlib.Core.Path.{sym, ◌∙◌}
use Rattle.numbers.proofs.Guids.{swapped_is}
use Rattle.numbers.proofs.guid.swap.Goals as goal

pub returns : goal.returns
returns c = c.swap_bytes.ensures ∙ sym (swapped_is c.args.x)
