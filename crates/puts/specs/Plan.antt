-- The new store as the code writes it, by a plan (`Plan` of the crate enter): how long an element is as it enters, what a number of the plan
-- stands for, and what the functions are lent. All of it is for the code only: what a put does does not speak of it, and a reader of
-- NewStore and Applied can skip it.
-- Assumes nothing.
use Rattle.std.specs.Prelude.{◌≡◌, List, [], ◌∷◌, ◌++◌, ℕ, ◌+◌, ◌-◌, ◌^◌, ◌≤◌, ◌<◌, length, take, drop, get_or, ltb}
use Rattle.laws.specs.Pick.{pick}
use Rattle.numbers.specs.Compact.{compact_bytes}
use Rattle.numbers.specs.ExtendedGuid.{extended_guid_bytes}
use Rattle.numbers.specs.Serial.{serial_bytes}
use Rattle.numbers.specs.declared.guid.Guid.{Guid}
use Rattle.numbers.specs.Results.Serial.{Numbered}
use Rattle.numbers.specs.Results.ExtendedGuid.{Named}
use Rattle.objects.specs.Types.{element_type, compound_bit}
use Rattle.objects.specs.Header.{start_bytes}
use Rattle.objects.specs.Steps.{place_of, value_of, skip}
use Rattle.objects.specs.Results.Reading.{At}
use Rattle.talk.specs.Ranges.{insert}
use Rattle.talk.specs.declared.range.Range.{Range}
use Rattle.store.specs.Element.{key_of, opened}
use Rattle.store.specs.Tables.{most_elements, RowsStand, element_in_row, elements_in}
use Rattle.store.specs.Held.{StoreHeld, stored_bytes, key_range}
use Rattle.store.specs.Written.{key_guid, written_element, inside_of, content_in}
use Rattle.store.specs.declared.element.Key.{Key}
use Rattle.store.specs.declared.element.Element.{Element}
use Rattle.store.specs.declared.held.Held.{Held}
use Rattle.puts.specs.declared.new_store.Inputs.{Inputs}
use Rattle.request.specs.Filter.{request_padding}
use Rattle.puts.specs.Put.{put_walk}
-- ---- which elements there are then, by the ids alone: it stands in enter, and is passed on here

pub use Rattle.enter.specs.Plan.{is_among}
unfoldable pub use Rattle.enter.specs.Plan.{place_among, kept_source, kept_sources, new_sources, sources}

-- ---- where what is inside an element begins, and how long the element is as it enters

-- behind the data of its start
unfoldable pub inside_from : List ℕ → Element → ℕ
inside_from q x =
    place_of (skip q (value_of (opened request_padding q (At x.place 0))) (opened request_padding q (At x.place 0)))

-- its data: the id, the serial number, the type
unfoldable pub entering_data : Key → Element → List ℕ
entering_data serial x =
    extended_guid_bytes (Named (key_guid x.id) x.id.number) ++ (serial_bytes (Numbered (key_guid serial) serial.number) ++ compact_bytes x.kind)

-- how long it is: a serial number has 25 bytes
unfoldable pub data_length : Element → ℕ
data_length x = length (extended_guid_bytes (Named (key_guid x.id) x.id.number)) + 25 + length (compact_bytes x.kind)

unfoldable pub entering_length : List ℕ → Element → ℕ
entering_length q x = length (start_bytes element_type compound_bit (data_length x)) + data_length x + (x.place + x.length - inside_from q x)

-- what is known of an element that was read in a put: it lies in the put, and what is inside it lies in it
pub record Enters (q : List ℕ) (x : Element) : Type 0 where
  pub within : x.place + x.length ≤ length q
  pub inside : inside_from q x ≤ x.place + x.length
  pub inner : inside_of q x ≡ take (x.place + x.length - inside_from q x) (drop (inside_from q x) q)
  pub number : x.id.number < 2 ^ 32
  pub short : length q ≤ 2 ^ 24

-- ---- what the numbers of the plan stand for

-- both inputs, their working tables, the hub's GUID and the highest number under it
pub record Sides : Type 0 where
  pub store : List ℕ
  pub rows : List ℕ
  pub ids : List ℕ
  pub request : List ℕ
  pub handed_rows : List ℕ
  pub handed_ids : List ℕ
  pub guid : Guid
  pub highest : ℕ

abbrev pub sides : List ℕ → List ℕ → List ℕ → List ℕ → List ℕ → List ℕ → Guid → ℕ → Sides
sides s rows ids q handed_rows handed_ids g highest =
    record {
      store = s;
      rows = rows;
      ids = ids;
      request = q;
      handed_rows = handed_rows;
      handed_ids = handed_ids;
      guid = g;
      highest = highest;
    }

abbrev pub sides_of : Inputs → Sides
sides_of a =
    sides a.stored.bytes.now a.stored.elements.rows.now a.stored.elements.ids.now a.handed.bytes.now a.handed.elements.rows.now a.handed.elements.ids.now a.guid a.highest

-- which row of the put
abbrev pub handed_row : ℕ → ℕ
handed_row source = source - most_elements

unfoldable pub source_serial : List ℕ → List ℕ → Guid → ℕ → ℕ → Key
source_serial rows ids g highest source =
    pick (ltb source most_elements) (element_in_row rows ids source).serial (key_of g (highest + 1 + handed_row source))

unfoldable pub source_bytes : Sides → ℕ → List ℕ
source_bytes a source =
    pick (ltb source most_elements) (stored_bytes a.store (element_in_row a.rows a.ids source))
    (written_element (content_in a.request (element_in_row a.handed_rows a.handed_ids (handed_row source)) (key_of a.guid (a.highest + 1 + handed_row source))))

unfoldable pub source_length : List ℕ → List ℕ → List ℕ → List ℕ → List ℕ → ℕ → ℕ
source_length rows ids q handed_rows handed_ids source =
    pick (ltb source most_elements) (element_in_row rows ids source).length (entering_length q (element_in_row handed_rows handed_ids (handed_row source)))

-- what is lent to whoever looks up one number of the plan
pub record SourceStands (rows ids q handed_rows handed_ids : List ℕ) (source : ℕ) : Type 0 where
  pub kept : source < most_elements → RowsStand rows ids (source + 1)
  pub short : source < most_elements → (element_in_row rows ids source).length ≤ 2 ^ 24
  pub handed : most_elements ≤ source → RowsStand handed_rows handed_ids (handed_row source + 1)
  pub enters : most_elements ≤ source → Enters q (element_in_row handed_rows handed_ids (handed_row source))

-- all of a plan, one behind the other
unfoldable pub planned_bytes : Sides → List ℕ → List ℕ
planned_bytes a [] = []
planned_bytes a (source ∷ plan) = source_bytes a source ++ planned_bytes a plan

unfoldable pub planned_length : List ℕ → List ℕ → List ℕ → List ℕ → List ℕ → List ℕ → ℕ
planned_length rows ids q handed_rows handed_ids [] = 0
planned_length rows ids q handed_rows handed_ids (source ∷ plan) =
    source_length rows ids q handed_rows handed_ids source + planned_length rows ids q handed_rows handed_ids plan

unfoldable pub planned_ranges : List ℕ → List ℕ → Guid → ℕ → List Range → List ℕ → List Range
planned_ranges rows ids g highest l [] = l
planned_ranges rows ids g highest l (source ∷ plan) = planned_ranges rows ids g highest (insert (key_range (source_serial rows ids g highest source)) l) plan

-- ---- what is lent to whoever goes through a plan

-- a number of the plan that stands for an element in its input, with a serial number that is left
pub record SourceFits (s rows ids q handed_rows handed_ids : List ℕ) (highest source : ℕ) : Type 0 where
  pub stands : SourceStands rows ids q handed_rows handed_ids source
  pub stored : source < most_elements → (element_in_row rows ids source).place + (element_in_row rows ids source).length ≤ length s
  pub left : most_elements ≤ source → highest + 1 + handed_row source < 2 ^ 64

pub record Planning (s rows ids q handed_rows handed_ids : List ℕ) (highest : ℕ) (plan : List ℕ) : Type 0 where
  pub few : length plan ≤ most_elements
  pub fits : (k : ℕ) → k < length plan → SourceFits s rows ids q handed_rows handed_ids highest (get_or plan k 0)

-- the same as the code has it
abbrev pub HasSource : Inputs → ℕ → Type 0
HasSource a source =
    SourceFits a.stored.bytes.now a.stored.elements.rows.now a.stored.elements.ids.now a.handed.bytes.now a.handed.elements.rows.now a.handed.elements.ids.now a.highest source

abbrev pub HasPlan : Inputs → List ℕ → Type 0
HasPlan a plan = Planning a.stored.bytes.now a.stored.elements.rows.now a.stored.elements.ids.now a.handed.bytes.now a.handed.elements.rows.now a.handed.elements.ids.now a.highest plan

-- ---- a put that was read: the rows and the ids of its m elements stand in the working tables

pub record PutHeld (q rows ids : List ℕ) (m : ℕ) : Type 0 where
  pub held : elements_in rows ids m ≡ (put_walk q).elements
  pub most : m ≤ most_elements
  pub stand : RowsStand rows ids m
  pub enters : (j : ℕ) → j < m → Enters q (element_in_row rows ids j)

abbrev pub HoldsStore : Held → Type 0
HoldsStore x = StoreHeld x.bytes.now x.elements.rows.now x.elements.ids.now x.elements.count

abbrev pub HoldsPut : Held → Type 0
HoldsPut x = PutHeld x.bytes.now x.elements.rows.now x.elements.ids.now x.elements.count
