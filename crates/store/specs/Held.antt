-- The elements of a store that was read, as they stand in the working tables: the storage index among them, a serial number as a range;
-- and how stored elements go out again.
-- Assumes nothing.
use Rattle.std.specs.Prelude.{◌≡◌, ℕ, ◌+◌, ◌^◌, ◌≤◌, ◌<◌, List, [], ◌∷◌, ◌++◌, length, take, drop, eqb}
use Rattle.laws.specs.Pick.{pick}
use Rattle.numbers.specs.Results.ExtendedGuid.{ExtendedGuid, Named, Null}
use Rattle.talk.specs.Each.{Each}
use Rattle.talk.specs.Ranges.{insert}
use Rattle.talk.specs.declared.range.Range.{Range}
use Rattle.ranges.specs.Ranged.{range_of}
use Rattle.store.specs.Tables.{most_elements, RowsStand, elements_in}
use Rattle.store.specs.Store.{store_walk}
use Rattle.store.specs.Written.{key_guid, framed}
use Rattle.store.specs.declared.element.Key.{Key}
use Rattle.store.specs.declared.element.Element.{Element}

-- ---- a store that was read: the rows and the ids of its n elements stand in the working tables. It is for the code only: no promise to
-- a user speaks of it

pub record StoreHeld (s rows ids : List ℕ) (n : ℕ) : Type 0 where
  pub count : n ≡ length (store_walk s).elements
  pub held : elements_in rows ids n ≡ (store_walk s).elements
  pub most : n ≤ most_elements
  pub stand : RowsStand rows ids n
  pub short : length s ≤ 2 ^ 24
  pub fits : Each (λ (x : Element). (x.place + x.length ≤ length s) × (x.id.number < 2 ^ 32)) (store_walk s).elements
  pub least : Each (λ (x : Element). 46 ≤ x.length) (store_walk s).elements

-- ---- what its elements say

-- "the extended GUID of the first element of type 1 in the store (null if none)"
unfoldable pub storage_index : List Element → ExtendedGuid
storage_index [] = Null
storage_index (x ∷ xs) = pick (eqb x.kind 1) (Named (key_guid x.id) x.id.number) (storage_index xs)

-- a serial number as a range, and that of an element
unfoldable pub key_range : Key → Range
key_range k = range_of (key_guid k) k.number k.number

unfoldable pub serial_range : Element → Range
serial_range x = key_range x.serial

-- the ranges with the serial numbers of some elements, one after the other (D-20)
unfoldable pub ranges_with : List Range → List Element → List Range
ranges_with l [] = l
ranges_with l (x ∷ xs) = ranges_with (insert (serial_range x) l) xs

-- ---- elements as they go out

-- an element "as stored": its own bytes in the store
unfoldable pub stored_bytes : List ℕ → Element → List ℕ
stored_bytes s x = take x.length (drop x.place s)

unfoldable pub elements_bytes : List ℕ → List Element → List ℕ
elements_bytes s [] = []
elements_bytes s (x ∷ xs) = stored_bytes s x ++ elements_bytes s xs

-- "package of the k elements": its start and its zero byte, the elements, its end
unfoldable pub package_of : List ℕ → List Element → List ℕ
package_of s page = framed (elements_bytes s page)
