-- What is handed in enters what is there (document 02, Q-1), over lists of elements with id, serial number and bytes. With which serial
-- numbers and which bytes they come is said by who enters them.
-- Assumes nothing.
use Rattle.std.specs.Prelude.{List, [], ◌∷◌, ◌++◌, map, ℕ}
use Rattle.laws.specs.Pick.{pick}
use Rattle.laws.specs.Once.{seen}
use Rattle.store.specs.Element.{same_key}
use Rattle.store.specs.declared.element.Key.{Key}

-- an element as a store keeps it, or would: its id, its serial number, and its own bytes
pub record Kept : Type 0 where
  pub id : Key
  pub serial : Key
  pub bytes : List ℕ

abbrev pub kept_id : Kept → Key
kept_id x = x.id

-- the one of those that come that has this one's id, in its place; itself, where none has
unfoldable pub replaced_by : List Kept → Kept → Kept
replaced_by [] x = x
replaced_by (y ∷ come) x = pick (same_key x.id y.id) y (replaced_by come x)

-- those that come whose id none has that is there
unfoldable pub new_to : List Kept → List Kept → List Kept
new_to there [] = []
new_to there (y ∷ come) = pick (seen same_key y.id (map kept_id there)) (new_to there come) (y ∷ new_to there come)

-- "an id already held is replaced, new ones follow at the end": a replacement stands in the position of what it replaces, and new ones
-- behind, in the order in which they come
unfoldable pub enter : List Kept → List Kept → List Kept
enter there come = map (replaced_by come) there ++ new_to there come
