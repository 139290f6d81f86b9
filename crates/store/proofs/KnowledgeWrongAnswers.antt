-- For the calls on the working table and on a knowledge, wrong answers that their promises rule out, each tried on a named
-- input.
-- Assumes nothing.
use mathlib.Core.Path.{◌≡◌, sym, ap, ◌∙◌}
use mathlib.Core.Bool.{true, false}
use mathlib.Core.List.{List, [], ◌∷◌}
use Prim.Native.Nat.{ℕ, ◌^◌, ◌≤◌}
use native.Mathlib.Omega.{arith}
use lib.ListN.{length, get_or}
use lib.Count.{count_trailing_zeros}
use Rattle.laws.specs.Bytes.{le, bytes, be}
use Rattle.laws.specs.Loop.{turns, iterate}
use Rattle.laws.proofs.Cases.{impossible}
use Rattle.laws.proofs.Placing.{placed_fits}
use Rattle.numbers.specs.Refusals.{Told, too_short}
use Rattle.numbers.specs.Calls.{written, Writes}
use Rattle.numbers.specs.Compact.{compact_bytes, form_of, form_from, size_of, with_form, read_form, read_compact, compact_for, padding_refused}
use Rattle.numbers.specs.Compact as compact
use Rattle.numbers.specs.Guid.{guid_at, guid_bytes, swapped}
use Rattle.numbers.specs.Results.Wrote.{Done, Refused}
use Rattle.objects.specs.Header.{start_bytes, long_start, start_number, end_bytes, start_of, end_of, sized, header_of, header_at, length_at}
use Rattle.objects.specs.Steps.{place_of, value_of, number, guid_here, start_here, length_is, start_of_length, end_here, next_is, on_field}
use Rattle.objects.specs.Results.Reading.{At}
use Rattle.talk.specs.Ranges.{range, within, holds, is_before, joined, absorb, insert}
use Rattle.talk.specs.declared.range.Range.{Range}
use Rattle.ranges.specs.RangeTable.{ranges_at, numbers_of, added_to, laid_in}
use Rattle.ranges.specs.Results.Added.{Rows}
use Rattle.store.specs.Results.ReadKnowledge.{Holds}
use Rattle.store.specs.Knowledge.{guid_in, range_fields, knowledge_turn, to_go, knowledge_from, knowledge_at, knowledge_answer, ReadsKnowledge}
use Rattle.ranges.specs.Ranged.{range_of, knows}
use Rattle.store.specs.KnowledgeWritten.{range_guid, range_data, range_bytes, ranges_bytes, cell_front, cell_back, knowledge_bytes}

-- one row: the GUID 1, 2, and the numbers from 3 to 4
abbrev one : List ℕ
one = 1 ∷ 2 ∷ 3 ∷ 4 ∷ []

-- ---- knowledge_length

-- no row: 3, and not the 28 bytes of a cell knowledge without ranges
cell_without_ranges : 28 ≡ length (knowledge_bytes (ranges_at [] 0 0)) → ⊥
unfolding knowledge_bytes ranges_at start_bytes end_bytes bytes
cell_without_ranges h = omega arith

-- one row: 48, and not 44
ends_not_counted : 44 ≡ length (knowledge_bytes (ranges_at one 0 1)) → ⊥
unfolding knowledge_bytes ranges_at ranges_bytes range_bytes range_data cell_front cell_back start_bytes long_start end_bytes guid_bytes compact_bytes form_of form_from size_of bytes
ends_not_counted h = omega arith

-- ---- write_knowledge

-- no row, and no room
end_not_counted : Writes (knowledge_bytes (ranges_at [] 0 0)) [] (Refused (too_short 2)) [] → ⊥
unfolding written knowledge_bytes ranges_at start_bytes end_bytes bytes
end_not_counted h = let z : ◌≡◌ {A = ℕ} 2 3 = ap (λ (t : Told). t.needed) h.0 in omega arith

-- one row: its GUID's first byte, the 27th of all, is 0, and not 1
bytes_of_the_row : (out exit : List ℕ) → length out ≡ 48 → get_or exit 26 0 ≡ 1 → Writes (knowledge_bytes (ranges_at one 0 1)) out (Done 48) exit → ⊥
unfolding knowledge_bytes ranges_at ranges_bytes range_bytes range_data range_guid cell_front cell_back start_bytes long_start start_number end_bytes guid_bytes swapped be compact_bytes form_of form_from size_of with_form bytes
bytes_of_the_row out exit l e h =
    let w = knowledge_bytes (ranges_at one 0 1) in
    let f : length w ≤ length out = omega arith in
    let z : ◌≡◌ {A = ℕ} 1 0 = sym e ∙ ap (λ (s : List ℕ). get_or s 26 0) (h.1 ∙ placed_fits w out f) in
    omega arith

-- ---- range_length

-- the header counts
header_left_out : 18 ≡ length (range_bytes (range 0 0 0 0)) → ⊥
unfolding range_bytes range_data range_guid guid_bytes bytes compact_bytes start_bytes start_number
header_left_out h = omega arith

-- a range is as long as its numbers need
always_longest : 36 ≡ length (range_bytes (range 0 0 0 0)) → ⊥
unfolding range_bytes range_data range_guid guid_bytes bytes compact_bytes start_bytes start_number
always_longest h = omega arith

-- ---- read_knowledge, on `84 00 41`, which holds nothing, and on a table of one number

one_row_held : ReadsKnowledge (knowledge_at padding_refused 0 12 0x42 (0x84 ∷ 0x00 ∷ 0x41 ∷ []) (7 ∷ []) (At 0 0)) (Holds 3 1) (7 ∷ []) → ⊥
unfolding knowledge_at knowledge_from knowledge_turn to_go knowledge_answer iterate turns start_of_length length_is place_of start_here next_is end_here header_at header_of sized start_of end_of length_at le
one_row_held h = impossible (grind arith)

table_cleared : ReadsKnowledge (knowledge_at padding_refused 0 12 0x42 (0x84 ∷ 0x00 ∷ 0x41 ∷ []) (7 ∷ []) (At 0 0)) (Holds 3 0) (0 ∷ []) → ⊥
unfolding knowledge_at knowledge_from knowledge_turn to_go knowledge_answer iterate turns start_of_length length_is place_of start_here next_is end_here header_at header_of sized start_of end_of length_at le
table_cleared h = impossible (cc)

-- ---- a range's data run, the GUID of sixteen zero bytes and the numbers 1 and 2: it goes from 1 to 2, and not from 2 to 1

from_and_to_turned :
    (range_fields padding_refused (0 ∷ 0 ∷ 0 ∷ 0 ∷ 0 ∷ 0 ∷ 0 ∷ 0 ∷ 0 ∷ 0 ∷ 0 ∷ 0 ∷ 0 ∷ 0 ∷ 0 ∷ 0 ∷ 0x03 ∷ 0x05 ∷ [])).range ≡ range 0 0 2 1 → ⊥
unfolding range_fields guid_in guid_here on_field guid_at number value_of read_compact compact_for read_form compact.compact_value count_trailing_zeros range_of size_of swapped be bytes le
from_and_to_turned h = let z : ◌≡◌ {A = ℕ} 1 2 = ap (λ (r : Range). r.from) h in omega arith

-- ---- add_range: 5 to 6 put to 1 to 4, in a table with room for two rows

abbrev before_adding : List ℕ
before_adding = 0 ∷ 1 ∷ 1 ∷ 4 ∷ 9 ∷ 9 ∷ 9 ∷ 9 ∷ []

-- ranges that touch are one row
two_rows : Rows 2 ≡ added_to before_adding (insert (range 0 1 5 6) (ranges_at before_adding 0 1)) → ⊥
unfolding insert absorb is_before joined ranges_at
two_rows h = impossible (cc)

-- what stands behind the rows stays
row_cleared : 0 ∷ 1 ∷ 1 ∷ 6 ∷ 0 ∷ 0 ∷ 0 ∷ 0 ∷ [] ≡ laid_in before_adding (insert (range 0 1 5 6) (ranges_at before_adding 0 1)) → ⊥
unfolding insert absorb is_before joined ranges_at numbers_of
row_cleared h = impossible (cc)

-- ---- is_known, of 1 to 4 under the GUID of fifteen zero bytes and a 1

-- a number that touches a range is not in it
touching_known : true ≡ knows (ranges_at before_adding 0 1) (record { low = 0; high = 2 ^ 56 }) 5 → ⊥
unfolding knows swapped bytes be holds within ranges_at
touching_known h = impossible (cc)

-- "both ends known"
end_unknown : false ≡ knows (ranges_at before_adding 0 1) (record { low = 0; high = 2 ^ 56 }) 4 → ⊥
unfolding knows swapped bytes be holds within ranges_at
end_unknown h = impossible (cc)
