-- An element of some bytes, as it is kept there: its id, its serial number and its stored bytes.
-- Assumes nothing.
use mathlib.Core.Path.{◌≡◌, refl}
use mathlib.Core.List.{List, [], ◌∷◌, map}
use Prim.Native.Nat.{ℕ}
use Rattle.store.specs.Element.{ids_in}
use Rattle.store.specs.Held.{stored_bytes}
use Rattle.store.specs.declared.element.Key.{Key}
use Rattle.store.specs.declared.element.Element.{Element}
use Rattle.enter.specs.Entering.{Kept, kept_id}
use Rattle.enter.specs.Package.{kept_in}

abbrev pub kept_serial : Kept → Key
kept_serial x = x.serial

abbrev pub serials_of : List Element → List Key
serials_of all = map (λ (x : Element). x.serial) all

pub kept_in_parts : (s : List ℕ) (x : Element) → ((kept_in s x).id ≡ x.id) × ((kept_in s x).serial ≡ x.serial) × ((kept_in s x).bytes ≡ stored_bytes s x)
unfolding kept_in
kept_in_parts s x = (refl, refl, refl)

pub kept_in_serial : (s : List ℕ) (x : Element) → (kept_in s x).serial ≡ x.serial
unfolding kept_in
kept_in_serial s x = refl

pub kept_in_ids : (s : List ℕ) (all : List Element) → map kept_id (map (kept_in s) all) ≡ ids_in all
unfolding kept_in
kept_in_ids s [] = refl
kept_in_ids s (x ∷ all) = rw (kept_in_ids s all)

pub kept_in_serials : (s : List ℕ) (all : List Element) → map kept_serial (map (kept_in s) all) ≡ serials_of all
unfolding kept_in
kept_in_serials s [] = refl
kept_in_serials s (x ∷ all) = rw (kept_in_serials s all)
