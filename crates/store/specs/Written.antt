-- An element and a store as they are written. "writing uses the shortest"; the package's one data byte is "reserved: .. zero
-- when written".
-- Assumes nothing.
use Rattle.std.specs.Prelude.{Bool, ◌≡◌, ℕ, ◌+◌, ◌-◌, ◌^◌, ◌<◌, List, [], ◌∷◌, ◌++◌, length, take, drop}
use Rattle.numbers.specs.Compact.{padding_refused, compact_bytes}
use Rattle.numbers.specs.ExtendedGuid.{extended_guid_bytes}
use Rattle.numbers.specs.Serial.{serial_bytes}
use Rattle.numbers.specs.declared.guid.Guid.{Guid}
use Rattle.numbers.specs.Results.ExtendedGuid.{Named}
use Rattle.numbers.specs.Results.Serial.{Numbered}
use Rattle.objects.specs.Types.{element_type, compound_bit, package_type}
use Rattle.objects.specs.Header.{start_bytes, end_bytes}
use Rattle.objects.specs.Nesting.{run_at}
use Rattle.objects.specs.Results.Passed.{To}
use Rattle.objects.specs.Results.Reading.{At, Reading, Refused}
use Rattle.store.specs.Element.{opened}
use Rattle.store.specs.declared.element.Key.{Key}
use Rattle.store.specs.declared.element.Element.{Element}

-- what an element is made of
pub record Content : Type 0 where
  pub id : Key
  pub serial : Key
  pub kind : ℕ
  pub inner : List ℕ  -- what is inside, and the element's end

abbrev pub key_guid : Key → Guid
key_guid k = record { low = k.low; high = k.high }

-- "data = extended GUID, serial number, element type"
unfoldable pub field_bytes : Content → List ℕ
field_bytes c =
    extended_guid_bytes (Named (key_guid c.id) c.id.number)
    ++ (serial_bytes (Numbered (key_guid c.serial) c.serial.number) ++ compact_bytes c.kind)

unfoldable pub written_element : Content → List ℕ
written_element c = start_bytes element_type compound_bit (length (field_bytes c)) ++ (field_bytes c ++ c.inner)

unfoldable pub written_elements : List Content → List ℕ
written_elements [] = []
written_elements (c ∷ cs) = written_element c ++ written_elements cs

-- the package's start and its one data byte
unfoldable pub package_front : List ℕ
package_front = start_bytes package_type compound_bit 1 ++ (0 ∷ [])

-- a package around the bytes of its elements
abbrev pub framed : List ℕ → List ℕ
framed elements = package_front ++ (elements ++ end_bytes package_type)

unfoldable pub package_bytes : List Content → List ℕ
package_bytes cs = framed (written_elements cs)

-- what can be written, with so many levels left for what is inside
pub record ContentFits (padding : Bool) (depth : ℕ) (c : Content) : Type 0 where
  pub id_low : c.id.low < 2 ^ 64
  pub id_high : c.id.high < 2 ^ 64
  pub id_number : c.id.number < 2 ^ 32
  pub serial_low : c.serial.low < 2 ^ 64
  pub serial_high : c.serial.high < 2 ^ 64
  pub serial_number : c.serial.number < 2 ^ 64
  pub kind : c.kind < 2 ^ 64
  pub nested : run_at padding c.inner 0 depth element_type ≡ To (length c.inner)

abbrev pub AllFit : Bool → ℕ → List Content → Type 0
AllFit padding depth [] = Unit {0}
AllFit padding depth (c ∷ cs) = ContentFits padding depth c × AllFit padding depth cs

-- ---- what was read, written anew

-- from behind the data, which an element's own header tells, up to a place
abbrev pub behind_data : List ℕ → ℕ → Reading → List ℕ
behind_data s end (At from n) = take (end - (from + n)) (drop (from + n) s)
behind_data s end (Refused r) = []

-- what is inside an element that was read, and its end; it was read where padding is refused
unfoldable pub inside_of : List ℕ → Element → List ℕ
inside_of s x = behind_data s (x.place + x.length) (opened padding_refused s (At x.place 0))

-- the same element with this serial number
abbrev pub content_in : List ℕ → Element → Key → Content
content_in s x serial = record { id = x.id; serial = serial; kind = x.kind; inner = inside_of s x }

-- ---- what a reader finds

-- the element that stands at a place
abbrev pub element_of : ℕ → Content → Element
element_of at c = record { place = at; length = length (written_element c); kind = c.kind; id = c.id; serial = c.serial }

-- elements one behind the other
unfoldable pub elements_from : ℕ → List Content → List Element
elements_from at [] = []
elements_from at (c ∷ cs) = element_of at c ∷ elements_from (at + length (written_element c)) cs
