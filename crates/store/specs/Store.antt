-- "A store: one data element package, and nothing after it." A package stands in an answer too, inside the response; in both, fourteen
-- levels are left inside an element (16 less 2, and 17 less 3). In a put, inside the request, it is thirteen. Its elements are read from left to right, and a fault ends the walk
-- with the elements before it. How strictly they are read, what the package stands in says; for a store it is `store_strictness`.
-- Assumes nothing.
use Rattle.std.specs.Prelude.{Bool, true, ◌≡◌, ℕ, zero, suc, ◌+◌, ◌*◌, List, [], ◌∷◌, ◌++◌, length, drop, ltb}
use Rattle.laws.specs.Pick.{pick}
use Rattle.numbers.specs.Refusals.{Told, gives, refuses, longest_input, over_long}
use Rattle.numbers.specs.Compact.{padding_taken}
use Rattle.objects.specs.Types.{package_type, compound_bit, with_room, element_type, no_room}
use Rattle.objects.specs.Steps.{◌▹◌, nothing_open, start_of_length, start_here, skip, end_here, next_is, finish}
use Rattle.objects.specs.Results.Reading.{At, Reading, Refused}
use Rattle.store.specs.Element.{ids_in, element_at}
use Rattle.store.specs.Tables.{row_width, id_width, most_elements, rows_of, ids_of}
use Rattle.store.specs.declared.element.Element.{Element}
use Rattle.store.specs.Results.ReadElement.{ReadElement}
use Rattle.store.specs.Results.ReadElement as element
use Rattle.store.specs.declared.element.Strictness.{Strictness}
use Rattle.store.specs.Results.Beginning.{ReadBeginning}
use Rattle.store.specs.Results.Beginning as beginning
use Rattle.store.specs.Results.Packaged.{Packaged}
use Rattle.store.specs.Results.Packaged as packaged
use Rattle.store.specs.Results.Stored.{Stored}
use Rattle.store.specs.Results.Stored as stored

-- "inside a store padded numbers are accepted" (document 02, Q-10): in its headers, in its elements' types, and in what is inside them.
-- A package is told by what it stands in whether padding is taken.
abbrev pub store_padding : Bool
store_padding = padding_taken

-- a store's serial numbers are judged: "No null id or serial" (document 01). They may stand twice: "11 is kept for ids only" (document 02, Q-3)
abbrev pub store_strictness : Strictness
store_strictness = record { padding = store_padding; levels = 14; serials = true }

-- "package 1": one data byte, "reserved: ignored when read"; it stands inside an open object of type `outer`
unfoldable pub package_start : Bool → ℕ → List ℕ → Reading → Reading
package_start padding outer s c = c ▹ start_of_length padding s outer package_type compound_bit with_room 1 ▹ skip s 1

-- the elements that were read, and where the walk ended
pub record Walk : Type 0 where
  pub elements : List Element
  pub last : Reading

abbrev pub walked : List Element → Reading → Walk
walked done c = record { elements = done; last = c }

-- the package's end
abbrev pub closing : List ℕ → List Element → Reading → Walk
closing s done c = walked done (c ▹ end_here s package_type)

-- an element more, and on from behind it
abbrev pub on_element : (List Element → Reading → Walk) → List Element → ReadElement → Walk
on_element go done (element.Is x) = go (done ++ (x ∷ [])) (At (x.place + x.length) 0)
on_element go done (element.Refused r) = walked done (Refused r)

-- so many more elements are allowed: 9 at the first header too many
unfoldable pub walk_from : Strictness → ℕ → List ℕ → List Element → Reading → Walk
walk_from strict zero s done c =
    pick (next_is s element_type c) (walked done (start_here strict.padding s package_type element_type compound_bit no_room c)) (closing s done c)
walk_from strict (suc left) s done c =
    pick (next_is s element_type c)
    (on_element (λ more e. walk_from strict left s more e) done
    (element_at strict (ids_in done) s c))
    (closing s done c)

-- the elements alone, with nothing around them: the walk ends behind the last one. A package's walk is this one and then the package's
-- end (proofs/Split); and elements that are handed in to be put stand so
unfoldable pub elements_walk : Strictness → ℕ → List ℕ → List Element → Reading → Walk
elements_walk strict zero s done c =
    pick (next_is s element_type c) (walked done (start_here strict.padding s package_type element_type compound_bit no_room c)) (walked done c)
elements_walk strict (suc left) s done c =
    pick (next_is s element_type c)
    (on_element (λ more e. elements_walk strict left s more e) done
    (element_at strict (ids_in done) s c))
    (walked done c)

-- 9, "over 256 elements"
abbrev pub package_walk : Strictness → ℕ → List ℕ → Reading → Walk
package_walk strict outer s c = walk_from strict most_elements s [] (package_start strict.padding outer s c)

-- "After the last end any byte is 5"
abbrev pub finished : List ℕ → Walk → Walk
finished s w = walked w.elements (finish s w.last)

-- an over-long store is 1 first
unfoldable pub store_walk : List ℕ → Walk
store_walk s =
    pick (ltb longest_input (length s)) (walked [] (Refused over_long)) (finished s (package_walk store_strictness nothing_open s (At 0 0)))

-- ---- a store up to its first element, and one without elements whole: so much is read without tables

abbrev pub store_start : List ℕ → Reading
store_start s = package_start store_padding nothing_open s (At 0 0)

unfoldable pub nothing_of : Reading → ReadBeginning
nothing_of (At e v) = beginning.Nothing
nothing_of (Refused r) = beginning.Refused r

unfoldable pub beginning_of : List ℕ → ReadBeginning
beginning_of s =
    pick (ltb longest_input (length s)) (beginning.Refused over_long)
    (pick (next_is s element_type (store_start s)) beginning.Elements (nothing_of (finish s (end_here s package_type (store_start s)))))

-- ---- what is known of a walk

-- no fault stands: where a walk ends so, all of it was read
abbrev pub Stands : Reading → Type 0
Stands (At p v) = Unit {0}
Stands (Refused r) = ⊥

-- ---- what reading a package and a store answers, and what the tables then hold

-- the place behind the package, and how many elements it holds
unfoldable pub packaged_of : ℕ → Reading → Packaged
packaged_of n (At e v) = packaged.Holds e n
packaged_of n (Refused r) = packaged.Refused r

unfoldable pub stored_of : ℕ → Reading → Stored
stored_of n (At e v) = stored.Holds n
stored_of n (Refused r) = stored.Refused r

abbrev pub package_answer : Walk → Packaged
package_answer w = packaged_of (length w.elements) w.last

abbrev pub store_answer : Walk → Stored
store_answer w = stored_of (length w.elements) w.last

-- the rows of the elements that were read, and behind them the table's own numbers
abbrev pub laid_rows : Walk → List ℕ → List ℕ
laid_rows w t = rows_of w.elements ++ drop (length w.elements * row_width) t

abbrev pub laid_ids : Walk → List ℕ → List ℕ
laid_ids w t = ids_of w.elements ++ drop (length w.elements * id_width) t

-- what reading promises: the answer, and both tables at exit
abbrev pub PackageTo : Walk → Packaged → List ℕ → List ℕ → List ℕ → List ℕ → Type 0
PackageTo w r rows rowsExit ids idsExit = (r ≡ package_answer w) × (rowsExit ≡ laid_rows w rows) × (idsExit ≡ laid_ids w ids)

abbrev pub WalkedTo : Walk → Stored → List ℕ → List ℕ → List ℕ → List ℕ → Type 0
WalkedTo w r rows rowsExit ids idsExit = (r ≡ store_answer w) × (rowsExit ≡ laid_rows w rows) × (idsExit ≡ laid_ids w ids)

-- the place behind a package, and how many elements it holds
abbrev pub tell_packaged : Packaged → Told
tell_packaged (packaged.Holds e n) = gives (e ∷ n ∷ [])
tell_packaged (packaged.Refused r) = refuses r

-- how many elements a store holds
abbrev pub tell_stored : Stored → Told
tell_stored (stored.Holds n) = gives (n ∷ [])
tell_stored (stored.Refused r) = refuses r
