-- "A caller may lend a store and ask for one element by position and gets the element's own bytes as a part of the store (on
-- a refusal, which a call beside it tells, the empty part at its front); this call uses no table, gives the store's faults
-- first, and refuses a position at or past the count with 9." That refusal "names the store, place 0".
-- Assumes nothing.
use Rattle.std.specs.Prelude.{◌≡◌, ℕ, zero, suc, List, [], ◌∷◌, take, drop}
use Rattle.numbers.specs.Refusals.{Told, gives, refuses, fault_at}
use Rattle.objects.specs.Results.Reading.{Reading}
use Rattle.objects.specs.Results.Reading as reading
use Rattle.store.specs.Store.{store_walk}
use Rattle.store.specs.declared.element.Element.{Element}
use Rattle.store.specs.Results.Found.{At, Found, Refused}

-- the element at a position
unfoldable pub element_in : List Element → ℕ → Found
element_in [] i = Refused (fault_at 9 0)
element_in (x ∷ xs) zero = At x.place x.length
element_in (x ∷ xs) (suc i) = element_in xs i

-- the store's faults first
abbrev pub found_on : List Element → ℕ → Reading → Found
found_on done i (reading.At e v) = element_in done i
found_on done i (reading.Refused r) = Refused r

unfoldable pub found_in : List ℕ → ℕ → Found
found_in s i = found_on (store_walk s).elements i (store_walk s).last

-- the place and the length
abbrev pub tell_found : Found → Told
tell_found (At at n) = gives (at ∷ n ∷ [])
tell_found (Refused r) = refuses r

-- what asking where an element stands promises
abbrev pub FindsElement : List ℕ → ℕ → Found → Type 0
FindsElement s i r = tell_found r ≡ tell_found (found_in s i)

abbrev pub bytes_at : List ℕ → Found → List ℕ
bytes_at s (At at n) = take n (drop at s)
bytes_at s (Refused r) = []

unfoldable pub element_bytes : List ℕ → ℕ → List ℕ
element_bytes s i = bytes_at s (found_in s i)
