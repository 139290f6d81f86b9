-- The table of compact forms (document 01, 'Numbers and names'), row by row, and what a row says by itself: which bytes stand
-- for a value, and what bytes that begin with its low bits are read as. That the rule of `Compact` says the same is proved once
-- for all rows (`proofs/CompactTable`): who has compared the nine rows with the document knows what the rule does.
-- Assumes nothing.
use Rattle.std.specs.Prelude.{◌≡◌, ℕ, ◌+◌, ◌-◌, ◌*◌, ◌/◌, ◌%◌, ◌^◌, ◌≤◌, ◌<◌, false, List, [], ◌∷◌, ◌++◌, length, get_or, take, ltb}
use Rattle.laws.specs.Pick.{pick}
use Rattle.laws.specs.Bytes.{AllBytes, le, bytes}
use Rattle.numbers.specs.Refusals.{fault}
use Rattle.numbers.specs.Compact.{read_compact, compact_bytes}
use Rattle.numbers.specs.Results.Compact.{Compact, Refused, Value}

pub record FormRow : Type 0 where
  pub form : ℕ  -- the document's name, which is how many bits there are for the value; the rule counts the same forms by k
  pub low_bits : ℕ  -- how many low bits
  pub low : ℕ  -- and what they are
  pub size : ℕ  -- the column 'bytes'
  pub first : ℕ  -- the column 'range'
  pub last : ℕ

infix 70 │◌│◌bits=◌│◌│◌to◌│
-- a row, as the document prints it
abbrev │◌│◌bits=◌│◌│◌to◌│ : ℕ → ℕ → ℕ → ℕ → ℕ → ℕ → FormRow
│◌│◌bits=◌│◌│◌to◌│ form low_bits low size first last =
    record { form = form; low_bits = low_bits; low = low; size = size; first = first; last = last }

-- where the document says 'byte', 8 bits: the first row is "zero", "byte 0", the last "byte 128, then 8 bytes"
unfoldable pub form_table : List FormRow
form_table =
    │ 0 │ 8 bits= 0 │ 1 │ 0 to 0 │
    ∷ │ 7 │ 1 bits= 1 │ 1 │ 1 to 0x7F │
    ∷ │ 14 │ 2 bits= 2 │ 2 │ 0x80 to 0x3FFF │
    ∷ │ 21 │ 3 bits= 4 │ 3 │ 0x4000 to 0x1FFFFF │
    ∷ │ 28 │ 4 bits= 8 │ 4 │ 0x200000 to 0xFFFFFFF │
    ∷ │ 35 │ 5 bits= 16 │ 5 │ 0x10000000 to 0x7FFFFFFFF │
    ∷ │ 42 │ 6 bits= 32 │ 6 │ 0x800000000 to 0x3FFFFFFFFFF │
    ∷ │ 49 │ 7 bits= 64 │ 7 │ 0x40000000000 to 0x1FFFFFFFFFFFF │
    ∷ │ 64 │ 8 bits= 128 │ 9 │ 0x2000000000000 to 2 ^ 64 - 1 │
    ∷ []

-- ---- what a row says

-- v is in the row's range
abbrev pub InRange : FormRow → ℕ → Type 0
InRange r v = (r.first ≤ v) × (v ≤ r.last)

-- the bytes that stand for v: a little-endian number of the row's size, whose low bits are the row's and whose other bits are v
unfoldable pub row_bytes : FormRow → ℕ → List ℕ
row_bytes r v = bytes r.size (v * 2 ^ r.low_bits + r.low)

-- the first byte has the row's low bits
abbrev pub HasLowBits : FormRow → ℕ → Type 0
HasLowBits r b = b % 2 ^ r.low_bits ≡ r.low

-- the value of an item of the row at the front of s: the number without its low bits
unfoldable pub row_value : FormRow → List ℕ → ℕ
row_value r s = le (take r.size s) / 2 ^ r.low_bits

-- such an item: 2 where it "runs past the input", else the value, the size, and the mark where the value is below the row's range
unfoldable pub row_reads : FormRow → List ℕ → Compact
row_reads r s =
    pick (ltb (length s) r.size) (Refused (fault 2))
    (Value (row_value r s) r.size (ltb (row_value r s) r.first))

-- ---- the rule says the same

-- the rule does what one row says
pub record RuleFollows (r : FormRow) : Type 0 where
  -- the bits for the value and the low bits make up the bytes, and there is a value
  pub filled : r.form + r.low_bits ≡ 8 * r.size
  pub ordered : r.first ≤ r.last
  -- a value in the range is written as the row lays it down,
  pub laid_down : (v : ℕ) → InRange r v → compact_bytes v ≡ row_bytes r v
  -- and read from there, whatever follows
  pub read_back : (v : ℕ) → InRange r v → (t : List ℕ) → read_compact (row_bytes r v ++ t) ≡ Value v r.size false
  -- no bytes hold more than the range's last value
  pub topped : (s : List ℕ) → AllBytes s → row_value r s ≤ r.last
  -- any bytes that begin with the low bits are read as the row says, refusals included
  pub read : (s : List ℕ) → AllBytes s → 0 < length s → HasLowBits r (get_or s 0 0) → read_compact s ≡ row_reads r s

-- the row at a place of the table; no place that is asked for is past the last
abbrev pub row_at : ℕ → FormRow
row_at i = get_or form_table i (│ 0 │ 0 bits= 0 │ 0 │ 0 to 0 │)

-- there is such a row, and no other
abbrev pub ExactlyOneRow : (FormRow → Type 0) → Type 0
ExactlyOneRow Such =
    (i : ℕ) × (i < length form_table) × Such (row_at i) × ((j : ℕ) → j < length form_table → Such (row_at j) → j ≡ i)

-- the rule follows every row, every value and every first byte has exactly one, and where there is no byte it is 2
pub record RuleIsTable : Type 0 where
  pub every_row : (i : ℕ) → i < length form_table → RuleFollows (row_at i)
  pub every_value : (v : ℕ) → v < 2 ^ 64 → ExactlyOneRow (λ r. InRange r v)
  pub every_first_byte : (b : ℕ) → b < 256 → ExactlyOneRow (λ r. HasLowBits r b)
  pub no_byte : read_compact [] ≡ Refused (fault 2)
