-- One serial number more makes the written ranges shorter by 36 bytes at most: where it joins two ranges, the bytes of one are saved
-- (a header of 2, a GUID of 16, and the two inner ends of at most 9 each).
-- Assumes nothing.
use mathlib.Core.Path.{◌≡◌, refl, ap}
use mathlib.Core.List.{List, ◌∷◌}
use Prim.Native.Nat.{◌+◌, ◌≤◌, ◌<◌}
use native.Mathlib.Omega.{arith}
use lib.ListN.{length, length-append}
use Rattle.numbers.specs.Compact.{compact_bytes}
use Rattle.talk.specs.Ranges.{joined, insert, Normal}
use Rattle.talk.specs.declared.range.Range.{Range}
use Rattle.talk.proofs.OneMore.{OneMore, alone, lengthens, bridges, later, one_more, some_then}
use Rattle.ranges.specs.Ranged.{range_of}
use Rattle.store.specs.KnowledgeWritten.{range_bytes, ranges_bytes}
use Rattle.store.specs.Held.{key_range, serial_range}
use Rattle.store.specs.declared.element.Element.{Element}
use Rattle.store.proofs.ElementWritten.{compact_most}
use Rattle.store.proofs.KnowledgeLengths.{data_most, range_is, length_range}

-- a range is written in 36 bytes at most
range_most : (x : Range) → length (range_bytes x) ≤ 36
range_most x = omega (arith, range_is x, data_most x)

-- two ranges, and the one with their outer ends
two_ranges : (x y z : Range) → z.from ≡ x.from → z.to ≡ y.to → length (range_bytes x) + length (range_bytes y) ≤ 36 + length (range_bytes z)
two_ranges x y z e f =
    omega (arith, length_range x, length_range y, length_range z, ap (λ n. length (compact_bytes n)) e, ap (λ n. length (compact_bytes n)) f, compact_most x.to, compact_most y.from)

first_bytes : (x : Range) (l : List Range) → length (ranges_bytes (x ∷ l)) ≡ length (range_bytes x) + length (ranges_bytes l)
unfolding ranges_bytes
first_bytes x l = length-append (range_bytes x) (ranges_bytes l)

one_more_bytes : {r : Range} {l m : List Range} → OneMore r l m → length (ranges_bytes l) ≤ 36 + length (ranges_bytes m)
one_more_bytes {r} (alone l) = omega (arith, first_bytes r l)
one_more_bytes {r} (lengthens x l) = omega (arith, first_bytes x l, first_bytes (joined r x) l, range_most x)
one_more_bytes (bridges x y z l e f) = omega (arith, first_bytes x (y ∷ l), first_bytes y l, first_bytes z l, two_ranges x y z e f)
one_more_bytes (later x {l} {m} o) = omega (arith, first_bytes x l, first_bytes x m, one_more_bytes o)

-- of one number
serial_one : (x : Element) → (serial_range x).from ≡ (serial_range x).to
unfolding serial_range key_range range_of
serial_one x = refl

pub ranges_saved : (x : Element) (l : List Range) → Normal l → length (ranges_bytes l) ≤ 36 + length (ranges_bytes (insert (serial_range x) l))
ranges_saved x l n = one_more_bytes (one_more (serial_range x) l (serial_one x) n)

-- and with it there is a range
pub ranges_some : (x : Element) (l : List Range) → Normal l → 0 < length (insert (serial_range x) l)
ranges_some x l n = some_then (one_more (serial_range x) l (serial_one x) n)
