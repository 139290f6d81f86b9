-- The steps of which every layout is made, on a state that does nothing after a fault, so that the first fault from left to
-- right stays: "Within an input, items .. are read left to right and the first at fault gives the place; at one item the
-- lowest number counts." A layout is a chain of steps, `At 0 0 ▹ number padding s ▹ ..`. The state carries the place and the number
-- that was read last. A step that reads a compact integer is told whether padding is taken (document 02, Q-10: "Every caller decides").
-- Assumes nothing.
use Rattle.std.specs.Prelude.{ℕ, ◌+◌, ◌-◌, ◌≤◌, ◌≡◌, Bool, true, false, List, [], length, take, drop, ltb, eqb, Ok, Err}
use Rattle.laws.specs.Pick.{pick}
use Rattle.laws.specs.Bytes.{le}
use Rattle.numbers.specs.Refusals.{fault_at, refusal_number}
use Rattle.numbers.specs.Compact.{compact_for}
use Rattle.numbers.specs.Guid.{guid_at}
use Rattle.numbers.specs.ExtendedGuid.{read_extended_guid}
use Rattle.numbers.specs.Serial.{read_serial}
use Rattle.numbers.specs.declared.refusal.Refusal.{Refusal}
use Rattle.numbers.specs.Results.Compact.{Compact}
use Rattle.numbers.specs.Results.Compact as compact
use Rattle.numbers.specs.Results.ExtendedGuid as id
use Rattle.numbers.specs.Results.ReadExtendedGuid.{ReadExtendedGuid}
use Rattle.numbers.specs.Results.ReadExtendedGuid as extended
use Rattle.numbers.specs.Results.ReadSerial.{ReadSerial}
use Rattle.numbers.specs.Results.ReadSerial as serial
use Rattle.objects.specs.Header.{header_at, length_at}
use Rattle.objects.specs.Nesting.{run_at}
use Rattle.objects.specs.Results.Header.{ReadHeader}
use Rattle.objects.specs.Results.Header as header
use Rattle.objects.specs.Results.Length.{Length}
use Rattle.objects.specs.Results.Length as length'
use Rattle.objects.specs.Results.Passed.{Passed}
use Rattle.objects.specs.Results.Passed as passed
use Rattle.objects.specs.Results.Reads.{Reads}
use Rattle.objects.specs.Results.Reading.{At, Reading, Refused}
use Rattle.objects.specs.Results.ReadingGuid.{ReadingGuid}
use Rattle.objects.specs.Results.ReadingGuid as guid'
use Rattle.objects.specs.Results.ReadingId.{ReadingId}
use Rattle.objects.specs.Results.ReadingId as id'
use Rattle.objects.specs.Results.ReadingSerial.{ReadingSerial}
use Rattle.objects.specs.Results.ReadingSerial as serial'

-- one step and then the next
infixl 20 ◌▹◌
abbrev pub ◌▹◌ : {A : Type 0} → Reading → (Reading → A) → A
c ▹ step = step c

-- a step is taken only where no fault stands
abbrev pub then : Reading → (ℕ → Reading) → Reading
then (At at v) step = step at
then (Refused r) step = Refused r

-- two bits are the same
abbrev pub same_bit : Bool → Bool → Bool
same_bit true b = b
same_bit false b = pick b false true

-- refusal k at a place
abbrev pub no : ℕ → ℕ → Reading
no k p = Refused (fault_at k p)

-- the place, and the number that was read last (0 after a fault)
unfoldable pub place_of : Reading → ℕ
place_of (At at v) = at
place_of (Refused r) = 0

unfoldable pub value_of : Reading → ℕ
value_of (At at v) = v
value_of (Refused r) = 0

-- the number to carry on
unfoldable pub valued : ℕ → Reading → Reading
valued v c = then c (λ at. At at v)

-- refusal k at p, unless a test holds
unfoldable pub need : Bool → ℕ → ℕ → Reading → Reading
need fine k p c = then c (λ at. pick fine c (no k p))

-- ---- fields

-- a little-endian number of n bytes, from least to most: 2 where a byte is missing, k outside the bounds
unfoldable pub fixed_in : List ℕ → ℕ → ℕ → ℕ → ℕ → Reading → Reading
fixed_in s n least most k c =
    then c (λ at.
    pick (ltb (length s - at) n) (no 2 at)
    (pick (ltb (le (take n (drop at s))) least) (no k at)
    (pick (ltb most (le (take n (drop at s)))) (no k at) (At (at + n) (le (take n (drop at s)))))))

-- a compact integer: its own 2 and 3
abbrev pub number_on : ℕ → Compact → Reading
number_on at (compact.Value v n padded) = At (at + n) v
number_on at (compact.Refused r) = no (refusal_number r) at

unfoldable pub number : Bool → List ℕ → Reading → Reading
number padding s c = then c (λ at. number_on at (compact_for padding (drop at s)))

-- a compact integer that must be x: its own 2 and 3, then k
abbrev pub number_is_on : ℕ → ℕ → ℕ → Compact → Reading
number_is_on x k at (compact.Value v n padded) = pick (eqb v x) (At (at + n) v) (no k at)
number_is_on x k at (compact.Refused r) = no (refusal_number r) at

unfoldable pub number_is : Bool → List ℕ → ℕ → ℕ → Reading → Reading
number_is padding s x k c = then c (λ at. number_is_on x k at (compact_for padding (drop at s)))

-- an extended GUID that must be null: its own 2 and 3, then k
abbrev pub null_id_on : ℕ → ℕ → ReadExtendedGuid → Reading
null_id_on k at (extended.Value id.Null n) = At (at + n) 0
null_id_on k at (extended.Value (id.Named g x) n) = no k at
null_id_on k at (extended.Refused r) = no (refusal_number r) at

unfoldable pub null_id : List ℕ → ℕ → Reading → Reading
null_id s k c = then c (λ at. null_id_on k at (read_extended_guid (drop at s)))

-- n bytes that are not divided: 2 at the first
unfoldable pub skip : List ℕ → ℕ → Reading → Reading
skip s n c = then c (λ at. pick (ltb (length s - at) n) (no 2 at) (At (at + n) 0))

-- ---- fields that are more than a number; each goes on from behind itself

-- a GUID: 2 where a byte is missing
unfoldable pub guid_here : List ℕ → Reading → ReadingGuid
guid_here s (At at v) = pick (ltb (length s - at) 16) (guid'.Refused (fault_at 2 at)) (guid'.At (at + 16) (guid_at (drop at s)))
guid_here s (Refused r) = guid'.Refused r

-- an extended GUID: its own 2 and 3
abbrev pub id_on : ℕ → ReadExtendedGuid → ReadingId
id_on at (extended.Value x n) = id'.At (at + n) x
id_on at (extended.Refused r) = id'.Refused (fault_at (refusal_number r) at)

unfoldable pub id_here : List ℕ → Reading → ReadingId
id_here s (At at v) = id_on at (read_extended_guid (drop at s))
id_here s (Refused r) = id'.Refused r

-- a serial number: its own 2 and 3
abbrev pub serial_on : ℕ → ReadSerial → ReadingSerial
serial_on at (serial.Value x n) = serial'.At (at + n) x
serial_on at (serial.Refused r) = serial'.Refused (fault_at (refusal_number r) at)

unfoldable pub serial_here : List ℕ → Reading → ReadingSerial
serial_here s (At at v) = serial_on at (read_serial (drop at s))
serial_here s (Refused r) = serial'.Refused r

-- on from behind a field, whatever it is
unfoldable pub on_field : {field : Type 0} → Reads field → Reading
on_field (Ok (p, x)) = At p 0
on_field (Err r) = Refused r

-- ---- objects

-- the number is then the data's length, and the place where the data begins
abbrev pub length_to : Length → Reading
length_to (length'.Is v from) = At from v
length_to (length'.Refused r) = Refused r

-- An end of another type, or with nothing open, is 4; an end of the open object's own type, where the layout still needs an
-- object, is 5 (D-9). Then 5 for another type or compound bit, then 9 where there is no room for one more, then the true
-- length's own 2 and 3 (D-4).
abbrev pub start_on : Bool → List ℕ → ℕ → ℕ → Bool → Bool → ℕ → ReadHeader → Reading
start_on padding s outer kind compound room at (header.Refused r) = Refused r
start_on padding s outer kind compound room at (header.End k u) = pick (eqb k outer) (no 5 at) (no 4 at)
start_on padding s outer kind compound room at (header.Start k b n u) =
    pick (eqb k kind)
    (pick (same_bit b compound) (pick room (length_to (length_at padding s (at + u) n)) (no 9 at)) (no 5 at))
    (no 5 at)

-- the type of no object: nothing is open
abbrev pub nothing_open : ℕ
nothing_open = 0xFFFF

-- the start of an object of this type and compound bit, inside an open object of type `outer`
unfoldable pub start_here : Bool → List ℕ → ℕ → ℕ → Bool → Bool → Reading → Reading
start_here padding s outer kind compound room c = then c (λ at. start_on padding s outer kind compound room at (header_at s at))

-- "A data length that the layout fixes .. is judged at the header, after any fault in its true length": 5 at p
unfoldable pub length_is : ℕ → ℕ → Reading → Reading
length_is n p (At from v) = pick (eqb v n) (At from v) (no 5 p)
length_is n p (Refused r) = Refused r

-- the same start, with the length that the layout fixes
unfoldable pub start_of_length : Bool → List ℕ → ℕ → ℕ → Bool → Bool → ℕ → Reading → Reading
start_of_length padding s outer kind compound room n c = length_is n (place_of c) (start_here padding s outer kind compound room c)

-- the end of the open object of type `kind`: 4 for another end, 5 for an object
abbrev pub end_on : ℕ → ℕ → ReadHeader → Reading
end_on kind at (header.Refused r) = Refused r
end_on kind at (header.End k u) = pick (eqb k kind) (At (at + u) 0) (no 4 at)
end_on kind at (header.Start k b n u) = no 5 at

unfoldable pub end_here : List ℕ → ℕ → Reading → Reading
end_here s kind c = then c (λ at. end_on kind at (header_at s at))

-- whether a start of this type stands here
abbrev pub start_is : ℕ → ReadHeader → Bool
start_is kind (header.Refused r) = false
start_is kind (header.End k u) = false
start_is kind (header.Start k b n u) = eqb k kind

unfoldable pub next_is : List ℕ → ℕ → Reading → Bool
next_is s kind (At at v) = start_is kind (header_at s at)
next_is s kind (Refused r) = false

-- well-nested contents up to the end of the open object of type `kind`, with the depth left
abbrev pub inside_on : Passed → Reading
inside_on (passed.To e) = At e 0
inside_on (passed.Refused r) = Refused r

unfoldable pub inside : Bool → List ℕ → ℕ → ℕ → Reading → Reading
inside padding s d kind c = then c (λ at. inside_on (run_at padding s at d kind))

-- "After the last end any byte is 5."
unfoldable pub finish : List ℕ → Reading → Reading
finish s c = then c (λ at. pick (ltb at (length s)) (no 5 at) c)

-- ---- a data run, "handed on as a part of the input that starts in the middle"

-- a refusal carried back to the whole input
abbrev pub carried : ℕ → Refusal → Refusal
carried from r = record { number = r.number; input = r.input; place = from + r.place; needed = r.needed }

-- the run that begins here, or as much of it as there is
unfoldable pub run_here : List ℕ → Reading → List ℕ
run_here s (At from n) = take n (drop from s)
run_here s (Refused r) = []

-- back from the run, of which m bytes are there, read by its fields to f: their fault; a byte left over, 5, or 2 where the
-- input ends in the run
unfoldable pub closed_at : Reading → ℕ → Reading → Reading
closed_at (Refused r) m f = Refused r
closed_at (At from n) m (Refused r) = Refused (carried from r)
closed_at (At from n) m (At p v) =
    pick (ltb p m) (no 5 (from + p)) (pick (ltb m n) (no 2 (from + m)) (At (from + m) v))

abbrev pub closed : List ℕ → Reading → Reading → Reading
closed s c f = closed_at c (length (run_here s c)) f

-- a run read by its fields
abbrev pub in_run : List ℕ → (List ℕ → Reading) → Reading → Reading
in_run s fields c = closed s c (fields (run_here s c))

-- at or behind a place
abbrev pub Behind : ℕ → Reading → Type 0
Behind p (At at v) = p ≤ at
Behind p (Refused r) = Unit {0}

-- the number of a fault that a layout gives
abbrev pub FaultNumber : ℕ → Type 0
FaultNumber k = (2 ≤ k) × (k ≤ 12)

-- such a fault of the first input, within the m bytes of a part; it needs no length
pub record FaultWithin (m : ℕ) (r : Refusal) : Type 0 where
  pub number : FaultNumber (refusal_number r)
  pub input : r.input ≡ 0
  pub place : r.place ≤ m
  pub needed : r.needed ≡ 0

-- within the m bytes of a part, or such a fault
abbrev pub GoodIn : ℕ → Reading → Type 0
GoodIn m (At p v) = p ≤ m
GoodIn m (Refused r) = FaultWithin m r

abbrev pub Good : List ℕ → Reading → Type 0
Good d f = GoodIn (length d) f
