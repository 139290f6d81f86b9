-- The start of a range in 16 bits: its two bytes, as they are read and as they are written.
-- Assumes nothing.
use mathlib.Core.Path.{◌≡◌, refl, ◌∙◌}
use mathlib.Core.Bool.{Bool, true, false}
use mathlib.Core.List.{List, [], ◌∷◌}
use Prim.Native.Nat.{ℕ, ◌+◌, ◌-◌, ◌*◌, ◌/◌, ◌%◌, ◌≤◌, ◌<◌}
use native.Mathlib.Omega.{arith}
use lib.ListN.{length}
use borrow.Author.Tests.{lt-ltb}
use Rattle.laws.specs.Bytes.{bytes}
use Rattle.objects.specs.Header.{start_number, start_bytes}
use Rattle.objects.specs.Steps.{start_here}
use Rattle.objects.specs.Results.Reading.{At}
use Rattle.objects.specs.Next.{short_number, short_is}
use Rattle.objects.proofs.Short.{short_room, short_start_on}
use Rattle.store.specs.Knowledge.{range_start}

-- ---- read

short_is_range : (w : ℕ) → w % 512 ≡ 0x78 → short_is w 0x0F false ≡ true
unfolding short_is
short_is_range w e =
    let low : w % 4 ≡ 0 = omega arith in
    let quarter : w / 4 ≡ w / 512 * 128 + 30 = omega arith in
    let eighth : w / 8 ≡ w / 512 * 64 + 0x0F = omega arith in
    let bit : w / 4 % 2 ≡ 0 = rw quarter (omega arith) in
    let kind : w / 8 % 64 ≡ 0x0F = rw eighth (omega arith) in
    rw (low, kind, bit)

pub range_there : (s : List ℕ) (at w : ℕ) → short_number s at ≡ w → w % 512 ≡ 0x78 → 2 ≤ length s - at
range_there s at w is e = let low : w % 4 ≡ 0 = omega arith in short_room s at w 0 is low (omega arith)

pub range_start_lem : (padding : Bool) (s : List ℕ) (at v w : ℕ) → short_number s at ≡ w → w % 512 ≡ 0x78 → w / 512 < 128 → range_start padding s (At at v) ≡ At (at + 2) (w / 512)
unfolding start_here
range_start_lem padding s at v w is e h =
    let n : w / 8 / 64 ≡ w / 512 = omega arith in
    short_start_on padding s 0x14 0x0F at w false true is (short_is_range w e) refl (omega arith) ∙ rw n

-- ---- written

pub range_start_bytes : (n : ℕ) → n < 128 → start_bytes 0x0F false n ≡ 0x78 ∷ n * 2 ∷ []
unfolding start_bytes start_number bytes
range_start_bytes n h =
    let first : (0 + 0 + (0x0F + n * 64) * 8) % 256 ≡ 0x78 = omega arith in
    let rest : (0 + 0 + (0x0F + n * 64) * 8) / 256 ≡ n * 2 = omega arith in
    let second : n * 2 % 256 ≡ n * 2 = omega arith in
    rw (lt-ltb n 128 h, first, rest, second)
