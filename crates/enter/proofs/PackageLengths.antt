-- How long a package is: four bytes stand around its elements.
-- Assumes nothing.
use mathlib.Core.Path.{◌≡◌, refl}
use mathlib.Core.Bool.{true}
use mathlib.Core.List.{List, ◌++◌}
use Prim.Native.Nat.{ℕ, ◌+◌}
use native.Mathlib.Omega.{arith}
use lib.ListN.{length, length-append}
use Rattle.laws.specs.Bytes.{bytes}
use Rattle.objects.specs.Header.{start_bytes, long_start, end_bytes}
use Rattle.store.specs.Written.{package_front, framed}

pub length_package_front : (length (start_bytes 0x15 true 1) ≡ 2) × (length package_front ≡ 3) × (length (end_bytes 0x15) ≡ 1)
unfolding package_front start_bytes long_start end_bytes bytes
length_package_front = (refl, refl, refl)

pub length_framed : (w : List ℕ) → length (framed w) ≡ 4 + length w
length_framed w =
    let f = length_package_front in
    let a = length-append package_front (w ++ end_bytes 0x15) in
    let b = length-append w (end_bytes 0x15) in
    omega arith
