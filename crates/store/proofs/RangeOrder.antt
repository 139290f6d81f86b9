-- Ranges stand in order by the sixteen bytes of their GUIDs, then by their numbers.
-- Assumes nothing.
use mathlib.Core.Path.{◌≡◌, refl}
use mathlib.Core.Bool.{Bool, true, false}
use Prim.Native.Nat.{ℕ, ◌+◌}
use lib.Dec.{ltb}
use Rattle.laws.specs.Pick.{pick}
use Rattle.numbers.specs.Guid.{guid_before, swapped}
use Rattle.numbers.specs.declared.guid.Guid.{Guid}
use Rattle.numbers.proofs.Guids.{guid_order}
use Rattle.talk.specs.Ranges.{is_before}
use Rattle.ranges.specs.Ranged.{range_of}

choices : (p q r t x : Bool)
    → pick p true (pick q false (pick r true (pick t false x))) ≡ pick (pick p true (pick q false r)) true (pick (pick q true (pick p false t)) false x)
choices true q r t x = refl
choices false true r t x = refl
choices false false r t x = refl

pub range_order : (g h : Guid) (a b c d : ℕ) → is_before (range_of g a b) (range_of h c d) ≡ pick (guid_before g h) true (pick (guid_before h g) false (ltb (b + 1) c))
unfolding is_before range_of
range_order g h a b c d =
    rw (guid_order g h, guid_order h g)
    (choices (ltb (swapped g.low) (swapped h.low)) (ltb (swapped h.low) (swapped g.low)) (ltb (swapped g.high) (swapped h.high))
    (ltb (swapped h.high) (swapped g.high)) (ltb (b + 1) c))
