-- For the calls on the elements of a store that was read, wrong answers that their promises rule out, each tried on a named input.
-- Assumes nothing.
use mathlib.Core.Path.{◌≡◌, ap}
use mathlib.Core.List.{[], ◌∷◌}
use Prim.Native.Nat.{ℕ}
use native.Mathlib.Omega.{arith}
use Rattle.laws.specs.Bytes.{bytes, be}
use Rattle.laws.proofs.Cases.{impossible}
use Rattle.numbers.specs.Guid.{swapped}
use Rattle.numbers.specs.declared.guid.Guid.{Guid}
use Rattle.numbers.specs.Results.ExtendedGuid.{Named, Null}
use Rattle.talk.specs.Ranges.{range}
use Rattle.talk.specs.declared.range.Range.{Range}
use Rattle.ranges.specs.Ranged.{range_of}
use Rattle.store.specs.Held.{storage_index, key_range, serial_range}
use Rattle.store.specs.declared.element.Key.{Key}
use Rattle.store.specs.declared.element.Element.{Element}

abbrev key : ℕ → Key
key n = record { low = 0; high = 0; number = n }

-- an element of this type, its id and its serial number numbered n
abbrev element : ℕ → ℕ → Element
element kind n = record { place = 3; length = 46; kind = kind; id = key n; serial = key n }

abbrev zeros : Guid
zeros = record { low = 0; high = 0 }

-- ---- storage_index: null though there is one; the first element's, of whatever type

index_missed : Null ≡ storage_index (element 5 1 ∷ element 1 2 ∷ []) → ⊥
unfolding storage_index
index_missed h = impossible (cc)

index_of_any : Named zeros 1 ≡ storage_index (element 5 1 ∷ element 1 2 ∷ []) → ⊥
unfolding storage_index
index_of_any h = impossible (grind arith)

-- ---- serial_range: all numbers up to the serial number; a range of the number 0

up_to_it : range 0 0 0 7 ≡ serial_range (element 5 7) → ⊥
unfolding serial_range key_range range_of swapped be bytes
up_to_it h = let z : ◌≡◌ {A = ℕ} 0 7 = ap (λ (x : Range). x.from) h in omega arith

of_zero : range 0 0 0 0 ≡ serial_range (element 5 7) → ⊥
unfolding serial_range key_range range_of swapped be bytes
of_zero h = let z : ◌≡◌ {A = ℕ} 0 7 = ap (λ (x : Range). x.to) h in omega arith
