-- "Filters: all elements start in. Each filter in turn sets those it matches in or out, by its operation. Kinds taken: All (1),
-- Data Element Type (2), Data Element IDs (6), laid out as in 000, 2.2.2.1.3.1." A filter is a compound object of two bytes,
-- its kind and its operation, in which the kind's own object stands (none for All). Padding is refused (`request_padding`).
-- Assumes nothing.
use Rattle.std.specs.Prelude.{ℕ, zero, suc, ◌-◌, Bool, true, false, List, eqb}
use Rattle.laws.specs.Pick.{pick}
use Rattle.numbers.specs.Compact.{padding_refused}
use Rattle.objects.specs.Types.{filter_type, filter_of_type_type, plain_bit, with_room, filter_of_ids_type, sub_request_type, compound_bit, no_room}
use Rattle.objects.specs.Steps.{◌▹◌, place_of, value_of, need, fixed_in, id_here, start_here, run_here, closed, in_run, end_here, next_is, valued, on_field}
use Rattle.objects.specs.Steps as steps
use Rattle.objects.specs.Results.Reading.{At, Reading}
use Rattle.request.specs.declared.filter.FilterFields.{FilterFields}

-- "Refusals: 3 for padding only in requests, at the same place" (document 02, Q-10): in every part of a request, what is passed over
-- included, and in what is handed in to be written into one
abbrev pub request_padding : Bool
request_padding = padding_refused

-- ---- the fields, in the filter's data run d

-- 8, "other .. filter kind"
unfoldable pub kind_taken : ℕ → Bool
kind_taken k = pick (eqb k 1) true (pick (eqb k 2) true (eqb k 6))

abbrev pub kind_byte : List ℕ → Reading
kind_byte d = fixed_in d 1 0 255 8 (At 0 0)

abbrev pub kind_field : List ℕ → Reading
kind_field d = need (kind_taken (value_of (kind_byte d))) 8 0 (kind_byte d)

-- 8, "other .. filter operation": 0 sets out, 1 sets in
unfoldable pub filter_fields : List ℕ → FilterFields
filter_fields d =
    record {
      kind = value_of (kind_field d);
      operation = value_of (fixed_in d 1 0 1 8 (kind_field d));
      last = fixed_in d 1 0 1 8 (kind_field d);
    }

-- ---- the kind's own object

-- a data run of one number
unfoldable pub one_number : List ℕ → Reading
one_number d = At 0 0 ▹ steps.number request_padding d

-- Data Element Type: one number, the type
unfoldable pub type_part : List ℕ → Reading → Reading
type_part s c = c ▹ start_here request_padding s filter_type filter_of_type_type plain_bit with_room ▹ in_run s one_number

-- Data Element IDs: their count, and so many extended GUIDs (000, 2.2.1.8). "9 .. 64 ids in a filter" falls on the 65th id, after
-- its own 2 and 3 (D-17)
abbrev pub id_step : List ℕ → Reading → Reading
id_step d c = on_field (id_here d c)

unfoldable pub ids_from : ℕ → List ℕ → ℕ → Reading → Reading
ids_from zero d n c = pick (eqb n 0) c (need false 9 (place_of c) (id_step d c))
ids_from (suc left) d n c = pick (eqb n 0) c (ids_from left d (n - 1) (id_step d c))

unfoldable pub ids_field : List ℕ → Reading
ids_field d = ids_from 64 d (value_of (one_number d)) (one_number d)

unfoldable pub ids_part : List ℕ → Reading → Reading
ids_part s c = c ▹ start_here request_padding s filter_type filter_of_ids_type plain_bit with_room ▹ in_run s ids_field

unfoldable pub kind_part : List ℕ → ℕ → Reading → Reading
kind_part s kind c = pick (eqb kind 2) (type_part s c) (pick (eqb kind 6) (ids_part s c) c)

-- ---- the filter at c, in a sub-request

abbrev pub filter_start : List ℕ → Reading → Reading
filter_start s c = start_here request_padding s sub_request_type filter_type compound_bit with_room c

-- behind its two bytes
unfoldable pub filter_opened : List ℕ → Reading → Reading
filter_opened s c = closed s (filter_start s c) (filter_fields (run_here s (filter_start s c))).last

abbrev pub filter_kind : List ℕ → Reading → ℕ
filter_kind s c = (filter_fields (run_here s (filter_start s c))).kind

unfoldable pub filter_at : List ℕ → Reading → Reading
filter_at s c = end_here s filter_type (kind_part s (filter_kind s c) (filter_opened s c))

-- so many more filters are allowed, of 16: 9 at the first header too many. Their number is carried on
unfoldable pub filters_from : ℕ → List ℕ → Reading → Reading
filters_from zero s c = pick (next_is s filter_type c) (start_here request_padding s sub_request_type filter_type compound_bit no_room c) (valued 16 c)
filters_from (suc left) s c = pick (next_is s filter_type c) (filters_from left s (filter_at s c)) (valued (16 - suc left) c)
