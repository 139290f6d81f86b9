-- `filter::past_id` meets its contract: its length was seen.
-- Assumes nothing.
use mathlib.Core.Path.{sym}
use Rattle.laws.proofs.Parts.{tail_part}
use Rattle.objects.specs.Steps.{id_here}
use Rattle.request.proofs.filter.past_id.Goals as goal

pub returns : goal.returns
unfolding id_here
returns c = let e = rw (c.in-Some.ensures.lookup.0.2, tail_part) at c.in-Some-short_id.ensures.seen in rw c.in-Ok.is (sym (e.reads c.in-Ok.at))
