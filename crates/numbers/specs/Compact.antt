-- The compact integer (document 01, 'Numbers and names'; 000, 2.2.1.1), by one rule for all its forms: the first byte has
-- k zero bits below its lowest set bit, and form k is a little-endian number of k + 1 bytes (9 where k is 7) whose k + 1
-- low bits are 2 ^ k and whose other bits are the value. The byte 0 stands for 0. `CompactTable` has the document's table.
-- Assumes nothing.
use Rattle.std.specs.Prelude.{ℕ, zero, suc, ◌+◌, ◌*◌, ◌/◌, ◌^◌, Bool, true, false, List, [], ◌∷◌, length, get_or, take, ltb, eqb}
use Rattle.std.specs.Int.Count.{count_trailing_zeros}
use Rattle.laws.specs.Pick.{pick}
use Rattle.laws.specs.Bytes.{le, bytes}
use Rattle.numbers.specs.Refusals.{fault}
use Rattle.numbers.specs.Results.Compact.{Compact, Refused, Value}

-- how many bytes form k takes: the table's column 'bytes'
unfoldable pub size_of : ℕ → ℕ
size_of k = pick (eqb k 7) 9 (k + 1)

-- the value of an item of form k at the front of s: the number without its k + 1 low bits
unfoldable pub compact_value : ℕ → List ℕ → ℕ
compact_value k s = le (take (size_of k) s) / 2 ^ (k + 1)

-- form k: 2 where it runs past the end; else the value, the bytes used, and the mark that it was padded: a shorter form would do
-- (the table's column 'range' starts at 128 ^ k)
unfoldable pub read_form : ℕ → List ℕ → Compact
read_form k s =
    pick (ltb (length s) (size_of k)) (Refused (fault 2))
    (Value (compact_value k s) (size_of k) (ltb (compact_value k s) (128 ^ k)))

-- "Reading a compact integer shall .. give the value and a mark that it was padded" (document 02, Q-10)
unfoldable pub read_compact : List ℕ → Compact
read_compact s =
    pick (eqb (length s) 0) (Refused (fault 2))
    (pick (eqb (get_or s 0 0) 0) (Value 0 1 false) (read_form (count_trailing_zeros 8 (get_or s 0 0)) s))

-- ---- "Every caller decides" whether padding is taken

abbrev pub padding_taken : Bool
padding_taken = true

abbrev pub padding_refused : Bool
padding_refused = false

-- where it is not, a padded number is 3
abbrev pub accepted : Bool → Compact → Compact
accepted padding (Value v n padded) = pick padded (pick padding (Value v n padded) (Refused (fault 3))) (Value v n padded)
accepted padding (Refused r) = Refused r

unfoldable pub compact_for : Bool → List ℕ → Compact
compact_for padding s = accepted padding (read_compact s)

-- ---- written

-- the least form that has room for a value, seven bits more for each; the last one takes what is left
unfoldable pub form_from : ℕ → ℕ → ℕ
form_from zero v = 0
form_from (suc f) v = pick (ltb v 128) 0 (suc (form_from f (v / 128)))

unfoldable pub form_of : ℕ → ℕ
form_of v = form_from 7 v

-- the number that stands for v in form k
unfoldable pub with_form : ℕ → ℕ → ℕ
with_form k v = v * 2 ^ (k + 1) + 2 ^ k

-- the bytes that stand for v: the form whose range has it
unfoldable pub compact_bytes : ℕ → List ℕ
compact_bytes v = pick (eqb v 0) (0 ∷ []) (bytes (size_of (form_of v)) (with_form (form_of v) v))
