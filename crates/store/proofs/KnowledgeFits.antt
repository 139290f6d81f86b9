-- The ranges of a knowledge that was read from bytes are ranges of 64-bit numbers.
-- Assumes nothing.
use mathlib.Core.Bool.{Bool}
use mathlib.Core.Path.{◌≡◌, refl}
use mathlib.Core.List.{List}
use Prim.Native.Nat.{ℕ, ◌^◌, ◌<◌}
use native.Mathlib.Omega.{arith}
use lib.ListN.{drop}
use Rattle.laws.specs.Bytes.{AllBytes}
use Rattle.laws.proofs.Cases.{pick_all}
use Rattle.laws.proofs.Numbers.{take_bytes, drop_bytes}
use Rattle.numbers.specs.Compact.{compact_for}
use Rattle.numbers.specs.Serial.{read_serial}
use Rattle.numbers.specs.Results.Compact.{Compact}
use Rattle.numbers.specs.Results.Compact as compact
use Rattle.numbers.specs.declared.guid.Guid.{Guid}
use Rattle.numbers.specs.Results.Serial as number
use Rattle.numbers.specs.Results.ReadSerial.{ReadSerial}
use Rattle.numbers.specs.Results.ReadSerial as serial
use Rattle.numbers.proofs.RoundTrip.{taken_fits}
use Rattle.numbers.proofs.Guids.{swapped_fits}
use Rattle.numbers.proofs.Serials.{serial_written_read}
use Rattle.objects.specs.Steps.{value_of, number_on, serial_on, serial_here, run_here, next_is, on_field}
use Rattle.objects.specs.Steps as steps
use Rattle.objects.specs.Results.Reading.{At, Reading, Refused}
use Rattle.talk.specs.Ranges.{RangeFits, AllFit}
use Rattle.talk.specs.declared.range.Range.{Range}
use Rattle.talk.proofs.Bounds.{insert_fits}
use Rattle.store.specs.Knowledge.{guid_in, guid_field, from_field, to_field, range_fields, item_of, range_start, range_item, entry_of, entry_start, entry_serial, entry_item, item_at, united, knowledge_at}
use Rattle.ranges.specs.Ranged.{range_of}
use Rattle.store.specs.Results.Item.{Item}
use Rattle.store.specs.Results.Item as item
use Rattle.store.proofs.KnowledgeHeld.{kept}

-- ---- fields

number_on_lem : (padding : Bool) (d : List ℕ) (at : ℕ) (r : Compact) → AllBytes d → compact_for padding (drop at d) ≡ r → value_of (number_on at r) < 2 ^ 64
unfolding value_of
number_on_lem padding d at (compact.Value v n padded) b e = taken_fits padding (drop at d) v n padded (drop_bytes at d b) e
number_on_lem padding d at (compact.Refused r) b e = omega arith

pub number_fits : (padding : Bool) (d : List ℕ) (c : Reading) → AllBytes d → value_of (steps.number padding d c) < 2 ^ 64
unfolding steps.number value_of
number_fits padding d (At at v) b = number_on_lem padding d at (compact_for padding (drop at d)) b refl
number_fits padding d (Refused r) b = omega arith

pub range_fits : (g : Guid) (a b : ℕ) → a < 2 ^ 64 → b < 2 ^ 64 → RangeFits (range_of g a b)
unfolding range_of
range_fits g a b h k = (swapped_fits g.low, swapped_fits g.high, h, k)

pub run_bytes : (s : List ℕ) (c : Reading) → AllBytes s → AllBytes (run_here s c)
unfolding run_here
run_bytes s (At from n) b = take_bytes n (drop from s) (drop_bytes from s b)
run_bytes s (Refused r) b = λ i. omega arith

-- ---- items

abbrev ItemFits : Item → Type 0
ItemFits (item.Adds e x) = RangeFits x
ItemFits (item.Nothing e) = Unit {0}
ItemFits (item.Refused r) = Unit {0}

of_range : (x : Range) (c : Reading) → RangeFits x → ItemFits (item_of x c)
unfolding item_of
of_range x (At e v) f = f
of_range x (Refused r) f = tt

fields_fit : (padding : Bool) (d : List ℕ) → AllBytes d → RangeFits (range_fields padding d).range
unfolding range_fields
fields_fit padding d b = range_fits (guid_in (guid_field d)) (value_of (from_field padding d)) (value_of (to_field padding d)) (number_fits padding d (on_field (guid_field d)) b) (number_fits padding d (from_field padding d) b)

of_serial : (d : List ℕ) (r : ReadSerial) (c : Reading) → AllBytes d → read_serial (drop 0 d) ≡ r → ItemFits (entry_of (serial_on 0 r) c)
unfolding entry_of
of_serial d r (Refused q) b e = tt
of_serial d (serial.Value number.Null n) (At p v) b e = tt
of_serial d (serial.Value (number.Numbered g x) n) (At p v) b e =
    let f = (serial_written_read (drop 0 d) (number.Numbered g x) n (drop_bytes 0 d b) e).1 in
    range_fits g x x f.1 f.1
of_serial d (serial.Refused q) (At p v) b e = tt

entry_fits : (d : List ℕ) (c : Reading) → AllBytes d → ItemFits (entry_of (entry_serial d) c)
unfolding serial_here
entry_fits d c b = of_serial d (read_serial (drop 0 d)) c b refl

item_fits : (padding : Bool) (s : List ℕ) (c : Reading) → AllBytes s → ItemFits (item_at padding s c)
unfolding item_at range_item entry_item
item_fits padding s c b =
    pick_all ItemFits (next_is s 0x0F c) _ _
    (λ e. of_range (range_fields padding (run_here s (range_start padding s c))).range _ (fields_fit padding (run_here s (range_start padding s c)) (run_bytes s (range_start padding s c) b)))
    (λ e. entry_fits (run_here s (entry_start padding s c)) _ (run_bytes s (entry_start padding s c) b))

united_fits : (i : Item) (l : List Range) → ItemFits i → AllFit l → AllFit (united i l)
unfolding united
united_fits (item.Adds e x) l f g = insert_fits x l f g
united_fits (item.Nothing e) l f g = g
united_fits (item.Refused r) l f g = g

-- ---- the whole

pub knowledge_fits : (padding : Bool) (allowed depth outer : ℕ) (s t : List ℕ) (c : Reading) → AllBytes s → AllFit (knowledge_at padding allowed depth outer s t c).ranges
unfolding AllFit
knowledge_fits padding allowed depth outer s t c b = kept padding (λ l v left. AllFit l) s (λ d l v left g. united_fits (item_at padding s d) l (item_fits padding s d b) g) allowed depth outer t c tt
