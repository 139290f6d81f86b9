-- `table::seen_key` meets its contract: a key whose mark is not set was not seen.
-- Assumes nothing.
use mathlib.Core.Path.{sym}
use Rattle.store.proofs.table.seen_key.Goals as goal

pub returns-then-marks-at-eq0 : goal.returns-then-marks-at-eq0
returns-then-marks-at-eq0 c = let e = rw c.mark_of-at.ensures.0 at c.if-marks-at-eq0.true in
    sym (c.requires.3 c.args.k e)
