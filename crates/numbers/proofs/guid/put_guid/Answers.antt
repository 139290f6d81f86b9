-- `guid::put_guid` meets its contract: the low number, and the high one behind it.
-- Assumes nothing.
use mathlib.Core.Path.{◌∙◌}
use Rattle.laws.proofs.Parts.{tail_part, mid_tail}
use Rattle.laws.proofs.Placing.{laid_behind}
use Rattle.laws.proofs.Numbers.{length_bytes}
use Rattle.laws.specs.Bytes.{bytes}
use lib.ListN.{drop}
use lib.Seq.{drop-drop}
use Rattle.numbers.specs.Guid.{guid_bytes}
use Rattle.numbers.proofs.guid.put_guid.Goals as goal

pub returns : goal.returns
unfolding guid_bytes
returns c = let a = c.args in
    rw (mid_tail, c.put_le-2.ensures, tail_part, c.put_le.ensures)
    (laid_behind (bytes 8 a.g.low) (bytes 8 a.g.high) (drop 8 a.out.now) 8 8 (length_bytes 8 a.g.low) ∙ rw (drop-drop 8 8 a.out.now))
