-- `reading::fixed_at` meets its contract.
-- Assumes nothing.
use Rattle.laws.specs.Bytes.{le}
use mathlib.Core.Path.{◌≡◌}
use native.Mathlib.Omega.{arith}
use Rattle.laws.proofs.Parts.{tail_part}
use Rattle.objects.proofs.reading.fixed_at.Goals as goal

pub returns-then-s-at : goal.returns-then-s-at
unfolding le
returns-then-s-at c = let a = c.args in
    let z : a.n ≡ 0 = omega arith in
    rw z

pub returns : goal.returns
returns c = let a = c.args in rw (c.read_le.ensures, tail_part a.at a.s.now)
