-- What the calls that write a header tell: 3 for a type over 0x3FFF, and else what writing its bytes tells.
-- Assumes nothing.
use mathlib.Core.Path.{refl}
use Prim.Native.Nat.{ℕ, ◌≤◌, ◌<◌}
use mathlib.Core.List.{List}
use borrow.Author.Tests.{lt-ltb, le-ltb}
use Rattle.numbers.specs.Refusals.{fault}
use Rattle.numbers.specs.Calls.{Writes}
use Rattle.numbers.specs.Results.Wrote.{Refused, Wrote}
use Rattle.objects.specs.Calls.{WritesTyped}

pub typed_over : (k : ℕ) (w s : List ℕ) → 0x3FFF < k → WritesTyped k w s (Refused (fault 3)) s
typed_over k w s h = rw (lt-ltb 0x3FFF k h) (refl, refl)

pub typed_within : (k : ℕ) (w s : List ℕ) (r : Wrote) (exit : List ℕ) → k ≤ 0x3FFF → Writes w s r exit → WritesTyped k w s r exit
typed_within k w s r exit h x = rw (le-ltb 0x3FFF k h) x
