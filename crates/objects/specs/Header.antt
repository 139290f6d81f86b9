-- Stream object headers (document 01, 'Objects within objects'; 000, 2.2.1.5): "Lowest two bits of a header: 0 a 16-bit start,
-- 2 a 32-bit start, 1 an 8-bit end, 3 a 16-bit end. Starts: then one compound bit; then type (6 bits, or 14) and length (7
-- bits, or 15). Ends: then type (6 bits, or 14)."
-- Assumes nothing.
use Rattle.std.specs.Prelude.{ℕ, ◌+◌, ◌*◌, ◌/◌, ◌%◌, ◌^◌, Bool, List, ◌++◌, length, get_or, take, drop, ltb, eqb}
use Rattle.laws.specs.Pick.{pick}
use Rattle.laws.specs.Bytes.{le, bytes}
use Rattle.numbers.specs.Refusals.{fault_at, refusal_number}
use Rattle.numbers.specs.Compact.{padding_taken, compact_for, compact_bytes}
use Rattle.numbers.specs.Results.Compact.{Compact}
use Rattle.numbers.specs.Results.Compact as compact
use Rattle.objects.specs.Results.Header.{End, ReadHeader, Refused, Start}
use Rattle.objects.specs.Results.Length.{Is, Length}
use Rattle.objects.specs.Results.Length as length'

-- a start that is the little-endian number w of n bytes; `span` is 2 to the bits that its type has
unfoldable pub start_of : ℕ → ℕ → ℕ → ReadHeader
start_of span n w = Start (w / 8 % span) (eqb (w / 4 % 2) 1) (w / 8 / span) n

-- an end that is the number w of n bytes
unfoldable pub end_of : ℕ → ℕ → ReadHeader
end_of n w = End (w / 4) n

-- a header of n bytes at the front of t, the place `at` of the input: 2 where it runs past the end
unfoldable pub sized : ℕ → ℕ → (ℕ → ℕ → ReadHeader) → List ℕ → ReadHeader
sized at n form t = pick (ltb (length t) n) (Refused (fault_at 2 at)) (form n (le (take n t)))

unfoldable pub header_of : ℕ → List ℕ → ReadHeader
header_of at t =
    pick (eqb (length t) 0) (Refused (fault_at 2 at))
    (pick (eqb (get_or t 0 0 % 4) 0) (sized at 2 (start_of (2 ^ 6)) t)
    (pick (eqb (get_or t 0 0 % 4) 1) (sized at 1 end_of t)
    (pick (eqb (get_or t 0 0 % 4) 2) (sized at 4 (start_of (2 ^ 14)) t) (sized at 2 end_of t))))

-- the header at a place of the input
unfoldable pub header_at : List ℕ → ℕ → ReadHeader
header_at s at = header_of at (drop at s)

-- ---- "A 32-bit start with length 32,767 is followed by a compact integer, the true length": an item of its own, which may be padded
-- where padding is taken

abbrev pub escape : ℕ
escape = 32767

-- the data's length, and the place where the data begins
abbrev pub length_on : ℕ → Compact → Length
length_on at (compact.Value v n padded) = Is v (at + n)
length_on at (compact.Refused r) = length'.Refused (fault_at (refusal_number r) at)

-- behind a header with the length n that ends at `at`
unfoldable pub length_at : Bool → List ℕ → ℕ → ℕ → Length
length_at padding s at n = pick (eqb n escape) (length_on at (compact_for padding (drop at s))) (Is n at)

-- a single header, true length included: padding is taken
abbrev pub lengthened : ℕ → Bool → Length → ReadHeader
lengthened k c (Is v from) = Start k c v from
lengthened k c (length'.Refused r) = Refused r

abbrev pub with_length : List ℕ → ReadHeader → ReadHeader
with_length t (Start k c n u) = lengthened k c (length_at padding_taken t u n)
with_length t (End k u) = End k u
with_length t (Refused r) = Refused r

unfoldable pub whole_header : List ℕ → ReadHeader
whole_header t = with_length t (header_of 0 t)

-- ---- written: "writing uses the shortest"

-- the number of a start: its low bits, the compound bit, the type, the length
unfoldable pub start_number : ℕ → ℕ → Bool → ℕ → ℕ → ℕ
start_number low span c k n = low + pick c 4 0 + (k + n * span) * 8

-- 32 bits, with the true length behind where the length's own bits do not have it
unfoldable pub long_start : ℕ → Bool → ℕ → List ℕ
long_start k c n =
    pick (ltb n escape) (bytes 4 (start_number 2 (2 ^ 14) c k n)) (bytes 4 (start_number 2 (2 ^ 14) c k escape) ++ compact_bytes n)

-- 16 bits, if the type has at most 6 and the length at most 7
unfoldable pub start_bytes : ℕ → Bool → ℕ → List ℕ
start_bytes k c n = pick (ltb k 64) (pick (ltb n 128) (bytes 2 (start_number 0 (2 ^ 6) c k n)) (long_start k c n)) (long_start k c n)

-- 8 bits, if the type has at most 6
unfoldable pub end_bytes : ℕ → List ℕ
end_bytes k = pick (ltb k 64) (bytes 1 (1 + k * 4)) (bytes 2 (3 + k * 4))
