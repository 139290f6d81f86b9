-- A header's type has at most 14 bits, so that no end has the type that stands for nothing open: there every end is 4.
-- Assumes nothing.
use mathlib.Core.Path.{◌≡◌}
use mathlib.Core.Bool.{Bool}
use mathlib.Core.List.{List}
use Prim.Native.Nat.{ℕ}
use native.Mathlib.Omega.{arith}
use borrow.Author.Tests.{ne_eqb}
use Rattle.laws.specs.Bytes.{AllBytes}
use Rattle.objects.specs.Header.{header_at}
use Rattle.objects.specs.Steps.{no, nothing_open, start_here}
use Rattle.objects.specs.Results.Header.{End}
use Rattle.objects.specs.Results.Reading.{At}
use Rattle.objects.proofs.HeadersRead.{end_bounds}

pub nothing_ends : (padding : Bool) (s : List ℕ) (kind : ℕ) (compound room : Bool) (at v k u : ℕ) → AllBytes s → header_at s at ≡ End k u
    → start_here padding s nothing_open kind compound room (At at v) ≡ no 4 at
unfolding start_here
nothing_ends padding s kind compound room at v k u b e =
    let h = end_bounds s at k u b e in
    rw (e, ne_eqb k nothing_open (λ z. omega arith))
