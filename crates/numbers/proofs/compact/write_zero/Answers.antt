-- `compact::write_zero` meets its contract.
-- Assumes nothing.
use mathlib.Core.Path.{refl}
use mathlib.Core.List.{[], ◌∷◌}
use lib.ListN.{set}
use lib.Seq.{set_split}
use Rattle.numbers.proofs.Calls.{wrote_short, wrote_done}
use Rattle.numbers.proofs.compact.write_zero.Goals as goal

pub returns-then-out-lt1 : goal.returns-then-out-lt1
returns-then-out-lt1 c = rw c.too_short.ensures (wrote_short (0 ∷ []) _ 1 refl c.if-out-lt1.true)

pub returns : goal.returns
returns c = let s = c.args.out.now in wrote_done (0 ∷ []) s (set s 0 0) 1 refl c.if-out-lt1.false (set_split s 0 0 c.if-out-lt1.false)
