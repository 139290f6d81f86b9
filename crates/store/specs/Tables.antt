-- The working tables of a store, and all that hangs on their layout: how many numbers a row and an id have, how many elements there may
-- be, what a row and an id are as numbers, and the elements and keys that stand in the tables, in the store's order. The lent table has its
-- own order, and a rank in each row (`specs/Order` of `order`).
-- Assumes nothing.
use Rattle.std.specs.Prelude.{◌≡◌, false, ℕ, zero, suc, ◌+◌, ◌*◌, ◌%◌, ◌≤◌, List, [], ◌∷◌, ◌++◌, length, get_or}
use Rattle.laws.specs.Once.{seen}
use Rattle.store.specs.Element.{same_key}
use Rattle.store.specs.declared.element.Key.{Key}
use Rattle.store.specs.declared.element.Element.{Element}

-- ---- widths and limits

-- "(place, length, type, serial's GUID as two little-endian numbers, serial's number)", and the three numbers of an id
abbrev pub row_width : ℕ
row_width = 6

abbrev pub id_width : ℕ
id_width = 3

-- where in a row the serial number stands
abbrev pub serial_column : ℕ
serial_column = 3

-- 9, "over 256 elements"
abbrev pub most_elements : ℕ
most_elements = 256

-- a working table with room for the rows of all of them
abbrev pub row_numbers : ℕ
row_numbers = 1536

-- the rows and ids of n elements stand in these tables
pub record RowsStand (rows ids : List ℕ) (n : ℕ) : Type 0 where
  pub row_room : n * row_width ≤ length rows
  pub id_room : n * id_width ≤ length ids

-- ---- keys

-- three numbers at a place
unfoldable pub key_at : List ℕ → ℕ → Key
key_at t at = record { low = get_or t at 0; high = get_or t (at + 1) 0; number = get_or t (at + 2) 0 }

-- the keys of n rows of so many numbers, the first at this place
unfoldable pub keys_at : List ℕ → ℕ → ℕ → ℕ → List Key
keys_at t at width zero = []
keys_at t at width (suc n) = key_at t at ∷ keys_at t (at + width) width n

abbrev pub id_keys : List ℕ → ℕ → List Key
id_keys t n = keys_at t 0 id_width n

abbrev pub serial_keys : List ℕ → ℕ → List Key
serial_keys t n = keys_at t serial_column row_width n

-- ---- marks, so that most keys need no search: a key whose mark is not set was not seen

-- where a key's mark stands, among so many
unfoldable pub mark_of : ℕ → Key → ℕ
mark_of width k = (k.number % width + k.low % width) % width

-- among how many the keys of a store have theirs
abbrev pub key_marks : ℕ
key_marks = 4096

abbrev pub Marked : List ℕ → List Key → Type 0
Marked marks keys = (k : Key) → get_or marks (mark_of key_marks k) 0 ≡ 0 → seen same_key k keys ≡ false

-- the table of ids with n ids in it, and their marks
pub record Lent (ids marks : List ℕ) (n : ℕ) : Type 0 where
  pub id_room : n * id_width ≤ length ids
  pub mark_room : key_marks ≤ length marks
  pub marked : Marked marks (id_keys ids n)

-- ---- what stands in the tables

-- "a row per element (place, length, type, serial's GUID as two little-endian numbers, serial's number)"
abbrev pub row_of : Element → List ℕ
row_of x = x.place ∷ x.length ∷ x.kind ∷ x.serial.low ∷ x.serial.high ∷ x.serial.number ∷ []

abbrev pub id_of : Key → List ℕ
id_of k = k.low ∷ k.high ∷ k.number ∷ []

-- the numbers of each element, one behind the other
unfoldable pub flat : (Element → List ℕ) → List Element → List ℕ
flat row [] = []
flat row (x ∷ xs) = row x ++ flat row xs

abbrev pub rows_of : List Element → List ℕ
rows_of done = flat row_of done

abbrev pub ids_of : List Element → List ℕ
ids_of done = flat (λ x. id_of x.id) done

-- ---- the elements that stand there

-- the id of row i
abbrev pub id_in_row : List ℕ → ℕ → Key
id_in_row ids i = key_at ids (i * id_width)

-- the element of row i
unfoldable pub element_in_row : List ℕ → List ℕ → ℕ → Element
element_in_row rows ids i =
    record {
      place = get_or rows (i * row_width) 0;
      length = get_or rows (i * row_width + 1) 0;
      kind = get_or rows (i * row_width + 2) 0;
      id = id_in_row ids i;
      serial = key_at rows (i * row_width + serial_column);
    }

-- n of them, from row i on
unfoldable pub elements_in_rows : List ℕ → List ℕ → ℕ → ℕ → List Element
elements_in_rows rows ids i zero = []
elements_in_rows rows ids i (suc n) = element_in_row rows ids i ∷ elements_in_rows rows ids (suc i) n

abbrev pub elements_in : List ℕ → List ℕ → ℕ → List Element
elements_in rows ids n = elements_in_rows rows ids 0 n
