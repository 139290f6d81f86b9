-- Which elements there are then, as the code decides it, by the ids alone: a number for each, i for the element of row i that is there, and
-- 256 + j for the element of row j that comes. It is for the code only: a reader of Entering can skip it.
-- Assumes nothing.
use Rattle.std.specs.Prelude.{Bool, List, [], ◌∷◌, ◌++◌, ℕ, suc, ◌+◌, length, ltb, Option, Some, None}
use Rattle.laws.specs.Pick.{pick}
use Rattle.store.specs.Element.{same_key}
use Rattle.store.specs.Tables.{most_elements}
use Rattle.store.specs.declared.element.Key.{Key}

-- where a key stands first among keys, counted from 0; how many keys there are, where it does not
unfoldable pub place_among : Key → List Key → ℕ
place_among k [] = 0
place_among k (x ∷ keys) = pick (same_key k x) 0 (suc (place_among k keys))

-- whether it does
abbrev pub is_among : Key → List Key → Bool
is_among k keys = ltb (place_among k keys) (length keys)

-- where it does, if it does
abbrev pub place_of : Key → List Key → Option ℕ
place_of k keys = pick (is_among k keys) (Some (place_among k keys)) None

-- the number of the element i that is there, with this id
unfoldable pub kept_source : List Key → ℕ → Key → ℕ
kept_source come i k = pick (is_among k come) (most_elements + place_among k come) i

unfoldable pub kept_sources : List Key → ℕ → List Key → List ℕ
kept_sources come i [] = []
kept_sources come i (k ∷ there) = kept_source come i k ∷ kept_sources come (suc i) there

-- those that come, from j on, whose ids none has that is there
unfoldable pub new_sources : List Key → ℕ → List Key → List ℕ
new_sources there j [] = []
new_sources there j (k ∷ come) = pick (is_among k there) (new_sources there (suc j) come) ((most_elements + j) ∷ new_sources there (suc j) come)

unfoldable pub sources : List Key → List Key → List ℕ
sources there come = kept_sources come 0 there ++ new_sources there 0 come
