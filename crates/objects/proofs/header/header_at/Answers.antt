-- `header::header_at` meets its contract.
-- Assumes nothing.
use mathlib.Core.Path.{sym}
use Rattle.laws.proofs.Parts.{tail_part}
use Rattle.objects.specs.Header.{header_at}
use Rattle.objects.proofs.HeaderLaws.{header_past}
use Rattle.objects.proofs.header.header_at.Goals as goal

pub returns-then-s-at : goal.returns-then-s-at
returns-then-s-at c = rw c.at_place.ensures (sym (header_past _ _ c.if-s-at.true))

pub returns : goal.returns
unfolding header_at
returns c = let a = c.args in rw (c.header_of.ensures, tail_part a.at a.s.now)
