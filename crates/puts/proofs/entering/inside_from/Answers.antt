-- `entering::inside_from` meets its contract.
-- Assumes nothing.
use Rattle.puts.specs.Plan.{inside_from}
use Rattle.puts.proofs.entering.inside_from.Goals as goal

pub returns : goal.returns
unfolding inside_from
returns c = rw (c.place.ensures, c.skip.ensures, c.value.ensures, c.start-o.ensures)
