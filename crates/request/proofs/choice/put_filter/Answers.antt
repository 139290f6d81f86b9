-- `choice::put_filter` meets its contract: its two bytes, what its kind has inside, its end.
-- Assumes nothing.
use mathlib.Core.Path.{◌∙◌}
use Rattle.request.specs.Choice.{flag_of}
use Rattle.store.specs.Elements.{elements_of}
use Rattle.request.specs.Filter.{filter_at}
use Rattle.request.specs.Meaning.{filter_read}
use Rattle.request.proofs.Bits.{byte_picked}
use Rattle.request.proofs.Putting.{filter_of_kind}
use Rattle.request.proofs.choice.put_filter.Goals as goal

pub returns : goal.returns
unfolding filter_at filter_read flag_of
returns c = let e = filter_of_kind c.args.s.now c.args.c (elements_of c.args.index.all) c.args.flags.now in (
  rw (c.end.ensures, c.put_kind.ensures.0, c.open_filter-f.ensures),
  c.put_kind.ensures.1 ∙ rw (c.from-to.ensures, byte_picked, c.open_filter-f.ensures) e,
)
