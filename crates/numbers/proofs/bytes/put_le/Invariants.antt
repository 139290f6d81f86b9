-- `bytes::put_le` meets its contract. The invariant: the first bytes of x stand in front of out's own, and `rest` is what is left of x.
-- Assumes nothing.
use mathlib.Core.Path.{◌≡◌}
use mathlib.Core.List.{◌++◌}
use Prim.Native.Nat.{◌^◌, ◌/◌}
use lib.ListN.{drop}
use Rattle.laws.specs.Bytes.{bytes}
use Rattle.numbers.proofs.bytes.put_le.Given as goal

abbrev pub invariant-loop-byte : goal.invariant-loop-byte
invariant-loop-byte l = (l.byte-items ≡ bytes l.byte-index l.x ++ drop l.byte-index l.initial.byte-items) × (l.rest ≡ l.x / 256 ^ l.byte-index)
