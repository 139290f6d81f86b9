-- "Knowledge: cell knowledge (specialized, GUID 327A35F6-0761-4414-9686-51E900667A4D, one 0x14 inside) holds ranges (GUID,
-- from, to, both ends known) and entries (one serial number; null adds nothing). Several cell knowledges are united." It is
-- read from left to right, and each range goes into the list as it is read; a fault ends the reading with the ranges before it.
-- Who reads it says whether padding is taken, in its headers and in its ranges.
-- Assumes nothing.
use Rattle.std.specs.Prelude.{◌≡◌, ℕ, zero, suc, ◌+◌, ◌-◌, ◌*◌, ◌≤◌, Bool, true, false, List, [], ◌∷◌, length, leb, eqb}
use Rattle.laws.specs.Pick.{pick}
use Rattle.laws.specs.Loop.{Turn, iterate}
use Rattle.laws.specs.Loop.Turn.{more, done}
use Rattle.numbers.specs.Refusals.{Told, gives, refuses, fault_at}
use Rattle.numbers.specs.declared.guid.Guid.{Guid}
use Rattle.numbers.specs.Results.Serial as number
use Rattle.objects.specs.Types.{cell_type, range_type, plain_bit, with_room, entry_type, no_room, knowledge_type, specialized_type, compound_bit}
use Rattle.objects.specs.Steps.{place_of, value_of, need, guid_here, serial_here, start_here, start_of_length, run_here, closed, end_here, next_is, inside, on_field}
use Rattle.objects.specs.Steps as steps
use Rattle.objects.specs.Results.Reading.{At, Reading, Refused}
use Rattle.objects.specs.Results.ReadingGuid.{ReadingGuid}
use Rattle.objects.specs.Results.ReadingGuid as guid'
use Rattle.objects.specs.Results.ReadingSerial.{ReadingSerial}
use Rattle.objects.specs.Results.ReadingSerial as serial'
use Rattle.talk.specs.Ranges.{insert, Normal}
use Rattle.talk.specs.declared.range.Range.{Range}
use Rattle.ranges.specs.Ranged.{range_of}
use Rattle.ranges.specs.RangeTable.{range_width, ranges_at, laid_ranges}
use Rattle.store.specs.Results.Item.{Item}
use Rattle.store.specs.Results.Item as item
use Rattle.store.specs.declared.item.RangeFields.{RangeFields}
use Rattle.store.specs.declared.knowledge.Known.{Known}
use Rattle.store.specs.Results.ReadKnowledge.{ReadKnowledge}
use Rattle.store.specs.Results.ReadKnowledge as read

-- ---- ranges and entries

-- the GUID that was read (zero after a fault)
unfoldable pub guid_in : ReadingGuid → Guid
guid_in (guid'.At p g) = g
guid_in (guid'.Refused r) = record { low = 0; high = 0 }

-- "ranges (GUID, from, to ..)": the fields in the range's data run d
abbrev pub guid_field : List ℕ → ReadingGuid
guid_field d = guid_here d (At 0 0)

abbrev pub from_field : Bool → List ℕ → Reading
from_field padding d = steps.number padding d (on_field (guid_field d))

abbrev pub to_field : Bool → List ℕ → Reading
to_field padding d = steps.number padding d (from_field padding d)

-- 12, "from above to (at the to)", which stands behind the from
unfoldable pub range_fields : Bool → List ℕ → RangeFields
range_fields padding d =
    record {
      range = range_of (guid_in (guid_field d)) (value_of (from_field padding d)) (value_of (to_field padding d));
      last = need (leb (value_of (from_field padding d)) (value_of (to_field padding d))) 12 (place_of (from_field padding d)) (to_field padding d);
    }

-- a range, if no fault stands behind it
unfoldable pub item_of : Range → Reading → Item
item_of x (At e v) = item.Adds e x
item_of x (Refused r) = item.Refused r

abbrev pub range_start : Bool → List ℕ → Reading → Reading
range_start padding s c = start_here padding s cell_type range_type plain_bit with_room c

unfoldable pub range_item : Bool → List ℕ → Reading → Item
range_item padding s c =
    item_of (range_fields padding (run_here s (range_start padding s c))).range
    (closed s (range_start padding s c) (range_fields padding (run_here s (range_start padding s c))).last)

-- "entries (one serial number; null adds nothing)"
unfoldable pub entry_of : ReadingSerial → Reading → Item
entry_of k (Refused r) = item.Refused r
entry_of (serial'.At q number.Null) (At e v) = item.Nothing e
entry_of (serial'.At q (number.Numbered g x)) (At e v) = item.Adds e (range_of g x x)
entry_of (serial'.Refused r) (At e v) = item.Refused r  -- never: a serial number at fault leaves its run at fault

abbrev pub entry_start : Bool → List ℕ → Reading → Reading
entry_start padding s c = start_here padding s cell_type entry_type plain_bit with_room c

abbrev pub entry_serial : List ℕ → ReadingSerial
entry_serial d = serial_here d (At 0 0)

unfoldable pub entry_item : Bool → List ℕ → Reading → Item
entry_item padding s c =
    entry_of (entry_serial (run_here s (entry_start padding s c)))
    (closed s (entry_start padding s c) (on_field (entry_serial (run_here s (entry_start padding s c)))))

-- whether a range or an entry stands here, and which
unfoldable pub item_next : List ℕ → Reading → Bool
item_next s c = pick (next_is s range_type c) true (next_is s entry_type c)

unfoldable pub item_kind : List ℕ → Reading → ℕ
item_kind s c = pick (next_is s range_type c) range_type entry_type

unfoldable pub item_at : Bool → List ℕ → Reading → Item
item_at padding s c = pick (next_is s range_type c) (range_item padding s c) (entry_item padding s c)

-- the ranges with it
unfoldable pub united : Item → List Range → List Range
united (item.Adds e x) l = insert x l
united (item.Nothing e) l = l
united (item.Refused r) l = l

-- ---- what is known so far

-- "over .. 512 ranges and entries": what a knowledge may say in all, and the numbers of a table that has a row for each
abbrev pub most_said : ℕ
most_said = 512

abbrev pub said_numbers : ℕ
said_numbers = most_said * range_width

pub record Knowing : Type 0 where
  pub ranges : List Range
  pub table : List ℕ  -- the working table that holds them
  pub left : ℕ  -- how many more ranges and entries may come
  pub last : Reading  -- where the reading stands

abbrev pub knowing : List Range → List ℕ → ℕ → Reading → Knowing
knowing l t left c = record { ranges = l; table = t; left = left; last = c }

abbrev pub standing : Reading → Knowing → Knowing
standing c k = knowing k.ranges k.table k.left c

-- ---- the ranges and entries of one cell knowledge, and its end; 9 at the first header too many, null entries
-- counted (D-17)

unfoldable pub items_from : Bool → ℕ → List ℕ → List Range → List ℕ → Reading → Knowing
items_from padding zero s l t c =
    pick (item_next s c) (knowing l t 0 (start_here padding s cell_type (item_kind s c) plain_bit no_room c))
    (knowing l t 0 (end_here s cell_type c))
items_from padding (suc left) s l t c =
    pick (item_next s c)
    (items_from padding left s (united (item_at padding s c) l) (laid_ranges (united (item_at padding s c) l) t) (on_field (item_at padding s c)))
    (knowing l t (suc left) (end_here s cell_type c))

-- ---- one specialized knowledge

-- the sixteen bytes of 327A35F6-0761-4414-9686-51E900667A4D
abbrev pub cell_guid : Guid
cell_guid = record { low = 0x44140761327A35F6; high = 0x4D7A6600E9518696 }

unfoldable pub is_cell : ReadingGuid → Bool
is_cell (guid'.At p g) = pick (eqb g.low cell_guid.low) (eqb g.high cell_guid.high) false
is_cell (guid'.Refused r) = false

-- "specialized knowledge 16"
unfoldable pub specialized_guid : Bool → List ℕ → Reading → ReadingGuid
specialized_guid padding s c = guid_here s (start_of_length padding s knowledge_type specialized_type compound_bit with_room 16 c)

-- its end
abbrev pub cell_end : List ℕ → Knowing → Knowing
cell_end s k = standing (end_here s specialized_type k.last) k

-- "one 0x14 inside"
unfoldable pub cell_from : Bool → List ℕ → Knowing → Reading → Knowing
cell_from padding s k c = cell_end s (items_from padding k.left s k.ranges k.table (start_of_length padding s specialized_type cell_type compound_bit with_room 0 c))

-- other kinds are "checked for nesting and passed over", with so many levels left inside
unfoldable pub specialized_from : Bool → ℕ → List ℕ → Knowing → Knowing
specialized_from padding depth s k =
    pick (is_cell (specialized_guid padding s k.last)) (cell_from padding s k (on_field (specialized_guid padding s k.last)))
    (standing (inside padding s depth specialized_type (on_field (specialized_guid padding s k.last))) k)

-- ---- the whole

unfoldable pub knowledge_turn : Bool → ℕ → List ℕ → Knowing → Turn Knowing Knowing
knowledge_turn padding depth s k =
    pick (next_is s specialized_type k.last) (more (specialized_from padding depth s k)) (done (standing (end_here s knowledge_type k.last) k))

-- the bytes that are left: they fall with each turn
unfoldable pub to_go : List ℕ → Reading → ℕ
to_go s (At p v) = suc (length s - p)
to_go s (Refused r) = 0

-- never the answer, as the turns do not run out before the bytes do
abbrev pub unreached : Knowing
unreached = knowing [] [] 0 (Refused (fault_at 0 0))

unfoldable pub knowledge_from : Bool → ℕ → List ℕ → Knowing → Knowing
knowledge_from padding depth s k = iterate (λ m. knowledge_turn padding depth s m) (λ m. to_go s m.last) unreached k

-- with so many ranges and entries allowed in all; the knowledge has no fields, and stands inside an open object of type `outer`
unfoldable pub knowledge_at : Bool → ℕ → ℕ → ℕ → List ℕ → List ℕ → Reading → Knowing
knowledge_at padding allowed depth outer s t c = knowledge_from padding depth s (knowing [] t allowed (start_of_length padding s outer knowledge_type compound_bit with_room 0 c))

-- ---- what reading answers, and what the working table then holds

unfoldable pub knowledge_answer : ℕ → Reading → ReadKnowledge
knowledge_answer n (At e v) = read.Holds e n
knowledge_answer n (Refused r) = read.Refused r

-- what is known so far, as the code has it: rows of the table
pub record KnownIs (k : Knowing) (r : Known) (t : List ℕ) : Type 0 where
  pub rows : r.rows ≡ length k.ranges
  pub left : r.left ≡ k.left
  pub last : r.last ≡ k.last
  pub table : t ≡ k.table
  pub held : ranges_at t 0 r.rows ≡ k.ranges
  pub room : (r.rows + r.left) * range_width ≤ length t
  pub normal : Normal k.ranges

-- what reading promises: the answer, and the table at exit, whose first rows are the ranges, in normal form
abbrev pub ReadsKnowledge : Knowing → ReadKnowledge → List ℕ → Type 0
ReadsKnowledge k r t =
    (r ≡ knowledge_answer (length k.ranges) k.last) × (t ≡ k.table) × (ranges_at t 0 (length k.ranges) ≡ k.ranges) × Normal k.ranges

-- the place behind it and the number of rows
abbrev pub tell_read_knowledge : ReadKnowledge → Told
tell_read_knowledge (read.Holds e n) = gives (e ∷ n ∷ [])
tell_read_knowledge (read.Refused r) = refuses r

-- the place behind it, and the range that it adds
abbrev pub tell_item : Item → Told
tell_item (item.Adds e x) = gives (e ∷ x.upper ∷ x.lower ∷ x.from ∷ x.to ∷ [])
tell_item (item.Nothing e) = gives (e ∷ [])
tell_item (item.Refused r) = refuses r
