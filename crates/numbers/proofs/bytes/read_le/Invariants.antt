-- `bytes::read_le` meets its contract. The invariant: x is the number of the bytes from i up to n.
-- Assumes nothing.
use mathlib.Core.Path.{◌≡◌}
use lib.ListN.{take, drop}
use Rattle.laws.specs.Bytes.{le}
use Rattle.numbers.proofs.bytes.read_le.Given as goal

abbrev pub invariant-loop-i : goal.invariant-loop-i
invariant-loop-i l = l.x ≡ le (drop l.i (take l.n l.s))
