-- `serial::read_numbered` meets its contract.
-- Assumes nothing.
use borrow.Author.Tests.{lt-ltb, le-ltb}
use Rattle.laws.proofs.Parts.{tail_part}
use Rattle.numbers.specs.Serial.{numbered}
use Rattle.numbers.proofs.serial.read_numbered.Goals as goal

pub returns-then-s-lt25 : goal.returns-then-s-lt25
unfolding numbered
returns-then-s-lt25 c = rw (lt-ltb _ _ c.if-s-lt25.true, c.at_front.ensures)

pub returns : goal.returns
unfolding numbered
returns c = let s = c.args.s.now in
    rw (le-ltb _ _ c.if-s-lt25.false, c.guid_at-g.ensures, tail_part 1 s, c.read_le-x.ensures, tail_part 17 s)
