-- The elements of a package, one behind the other: each is read where the one before it ends, against the ids before it.
-- Assumes nothing.
use Rattle.std.specs.Prelude.{◌≡◌, false, ℕ, ◌+◌, ◌<◌, List, [], ◌∷◌, ◌++◌, map}
use Rattle.objects.specs.Results.Reading as reading
use Rattle.laws.specs.Once.{seen}
use Rattle.store.specs.Element.{same_key, ids_in, element_at}
use Rattle.store.specs.declared.element.Key.{Key}
use Rattle.store.specs.declared.element.Element.{Element}
use Rattle.store.specs.Results.ReadElement as element
use Rattle.store.specs.declared.element.Strictness.{Strictness}

-- from a place behind the elements `done` to a place behind the last
abbrev pub Follows : Strictness → List ℕ → List Element → ℕ → List Element → ℕ → Type 0
Follows strict s done at [] e = at ≡ e
Follows strict s done at (x ∷ xs) e =
    (element_at strict (ids_in done) s (reading.At at 0) ≡ element.Is x)
    × Follows strict s (done ++ (x ∷ [])) (x.place + x.length) xs e

-- the same element, so many bytes further on
abbrev pub further : ℕ → Element → Element
further n x = record { place = n + x.place; length = x.length; kind = x.kind; id = x.id; serial = x.serial }

-- each key is new to those before it
abbrev pub Fresh : (Element → Key) → List Element → List Element → Type 0
Fresh key done [] = Unit {0}
Fresh key done (x ∷ xs) = (seen same_key (key x) (map key done) ≡ false) × Fresh key (done ++ (x ∷ [])) xs

-- places and lengths tile what lies between two places
abbrev pub Tiles : ℕ → List Element → ℕ → Type 0
Tiles at [] e = at ≡ e
Tiles at (x ∷ xs) e = (x.place ≡ at) × (0 < x.length) × Tiles (at + x.length) xs e
