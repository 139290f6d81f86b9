-- The store behind a put (document 02, Q-1): which elements it has, in which order, with which serial numbers; and its bytes. "Each gets
-- a new serial number, in order: one above the highest in the store under the hub's GUID, lent with the call (1 if there is none) ..
-- An element that enters keeps its other bytes, behind the shortest header."
-- Assumes nothing.
use Rattle.std.specs.Prelude.{ℕ, suc, ◌+◌, max, Bool, false, List, [], ◌∷◌, map, eqb}
use Rattle.laws.specs.Pick.{pick}
use Rattle.numbers.specs.declared.guid.Guid.{Guid}
use Rattle.talk.specs.Ranges.{insert}
use Rattle.talk.specs.declared.range.Range.{Range}
use Rattle.store.specs.Element.{key_of}
use Rattle.store.specs.Held.{key_range}
use Rattle.store.specs.Written.{written_element, content_in}
use Rattle.store.specs.declared.element.Key.{Key}
use Rattle.store.specs.declared.element.Element.{Element}
use Rattle.enter.specs.Package.{kept_in, packed}
use Rattle.puts.specs.Entering.{Kept, enter}
unfoldable pub use Rattle.enter.specs.Package.{joined}

-- ---- an element that stays: it keeps its stored bytes

abbrev pub staying : List ℕ → Element → Kept
staying = kept_in

-- ---- an element that enters, from the put q: id, type, what is inside and its end as they came, behind the shortest start for its
-- data with the new serial number. (In a put no number is padded and an id has one form, so that id and type are written as they came:
-- `Contents.own_bytes_lem` of `store`.)

unfoldable pub entering : List ℕ → Key → Element → Kept
entering q serial x = record { id = x.id; serial = serial; bytes = written_element (content_in q x serial) }

-- ---- "Each gets a new serial number, in order": from this one on, under the hub's GUID

unfoldable pub entering_from : List ℕ → Guid → ℕ → List Element → List Kept
entering_from q g number [] = []
entering_from q g number (x ∷ xs) = entering q (key_of g number) x ∷ entering_from q g (suc number) xs

unfoldable pub under_guid : Guid → Key → Bool
under_guid g k = pick (eqb k.low g.low) (eqb k.high g.high) false

-- "the highest in the store under the hub's GUID", replaced elements too; 0 if there is none
unfoldable pub highest_under : Guid → List Element → ℕ
highest_under g [] = 0
highest_under g (x ∷ xs) = pick (under_guid g x.serial) (max x.serial.number (highest_under g xs)) (highest_under g xs)

-- "one above the highest .. (1 if there is none)"
abbrev pub first_number : Guid → List Element → ℕ
first_number g all = highest_under g all + 1

-- ---- the elements of the new store: those of the store s, with those of the put q entered

unfoldable pub new_elements : List ℕ → List Element → List ℕ → List Element → Guid → List Kept
new_elements s all q handed g = enter (map (staying s) all) (entering_from q g (first_number g all) handed)

-- its bytes: a package whose start, zero byte and end are written anew, and nothing else, so that "the room of replaced ones is used
-- again"
abbrev pub new_store : List Kept → List ℕ
new_store = packed

-- ---- "the knowledge of every serial now stored"

unfoldable pub ranges_of : List Range → List Kept → List Range
ranges_of l [] = l
ranges_of l (x ∷ xs) = ranges_of (insert (key_range x.serial) l) xs
