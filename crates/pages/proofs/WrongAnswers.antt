-- For each part of the answering calls, wrong answers that its promise rules out, each tried on a named input.
-- Assumes nothing.
use mathlib.Core.Path.{◌≡◌, refl, ap, ◌∙◌}
use mathlib.Core.Bool.{true, false}
use mathlib.Core.List.{List, [], ◌∷◌}
use mathlib.Core.Logic.{inl}
use Prim.Native.Nat.{ℕ}
use native.Mathlib.Omega.{arith}
use lib.ListN.{length, get_or, length-append}
use Rattle.std.specs.Prelude.{Ok}
use Rattle.laws.specs.Bytes.{le, bytes, be}
use Rattle.laws.proofs.Cases.{impossible}
use Rattle.numbers.specs.Compact.{compact_bytes, size_of, form_of, form_from, with_form}
use Rattle.numbers.specs.ExtendedGuid.{extended_guid_bytes}
use Rattle.numbers.specs.Guid.{swapped}
use Rattle.numbers.specs.Refusals.{fault_at, refusal_number}
use Rattle.numbers.specs.Results.ExtendedGuid.{Null}
use Rattle.objects.specs.Header.{header_at, header_of, sized, start_of, end_of, length_at}
use Rattle.objects.specs.Steps.{valued, fixed_in, start_of_length, length_is, place_of, start_here, run_here, closed_at, inside, skip, next_is, end_here, finish}
use Rattle.talk.specs.Ranges.{range, within, holds, insert}
use Rattle.ranges.specs.Ranged.{knows}
use Rattle.store.specs.KnowledgeWritten.{range_guid, range_bytes, ranges_bytes}
use Rattle.store.specs.Held.{ranges_with, StoreHeld}
use Rattle.store.specs.Store.{package_start, walk_from, store_walk, nothing_of, beginning_of}
use Rattle.store.proofs.Beginning.{nothing_held}
use Rattle.store.proofs.KnowledgeLengths.{length_range}
use Rattle.ranges.specs.RangeTable.{ranges_at}
use Rattle.store.specs.declared.element.Key.{Key}
use Rattle.store.specs.declared.element.Element.{Element}
use Rattle.request.specs.Choice.{set_flags}
use Rattle.request.specs.Message.{query_changes_request, request_knowing, knowledge_part, versions, user_agent, sub_request, query_changes, arguments, constraint, package_part, identified, constrained_from, request_end, request_answer, request_in, in_request}
use Rattle.request.specs.Filter.{filters_from}
use Rattle.request.specs.Response.{sub_response_data}
use Rattle.order.specs.Groups.{stored_length}
use Rattle.pages.specs.Choice.{is_known}
use Rattle.pages.specs.Decision.{is_sendable, decision}
use Rattle.pages.specs.Written.{changes_data, partial_byte}
use Rattle.pages.specs.Weighed.{weighed}
use Rattle.pages.specs.Tables.{whole_of, fixed_length, Priced, Decides}
use Rattle.pages.specs.Answer.{range_rows, answer_of, answer_told, tell_answered, rows_after, TellsLength, WritesAnswer}
use Rattle.pages.specs.declared.price.Price.{Price}
use Rattle.pages.specs.declared.page.Bounds.{Bounds}
use Rattle.pages.specs.Results.Decided.{Decided, Sent, Crowded, Short}
use Rattle.pages.specs.Held.{reckoned_for, reckoned_of, RequestReckoned, StoreReckoned}
use Rattle.pages.specs.Results.Answered as answer
use Rattle.pages.specs.Results.Reckoned.{Reckoned}
use Rattle.pages.specs.Results.Reckoned as reckoned
use Rattle.pages.proofs.Refusing.{thirteen_if}

abbrev key : ℕ → Key
key n = record { low = 0; high = 0; number = n }

-- an element of this type, its id and its serial number numbered n
abbrev element : ℕ → ℕ → Element
element kind n = record { place = 3; length = 46; kind = kind; id = key n; serial = key n }

-- ---- clear_known: a known one stays wanted; an unknown one does not

known_kept : set_flags (is_known (range 0 0 1 4 ∷ [])) 0 (element 5 4 ∷ []) (1 ∷ []) ≡ 1 ∷ [] → ⊥
unfolding set_flags is_known knows swapped be bytes holds within
known_kept h = impossible (cc)

unknown_cleared : set_flags (is_known (range 0 0 1 4 ∷ [])) 0 (element 5 5 ∷ []) (1 ∷ []) ≡ 0 ∷ [] → ⊥
unfolding set_flags is_known knows swapped be bytes holds within
unknown_cleared h = impossible (cc)

-- ---- price_of, in an empty table: no row for a new range; its GUID not counted

abbrev price_of : ℕ → ℕ → Price
price_of ranges spelled = record { at = 0; next = 0; range = range 0 0 7 7; ranges = ranges; spelled = spelled }

no_row : Priced [] 0 (range 0 0 7 7) (price_of 0 20) → ⊥
unfolding insert ranges_at
no_row h = let z = h.counted in omega arith

guid_forgotten : Priced [] 0 (range 0 0 7 7) (price_of 1 4) → ⊥
unfolding insert ranges_at ranges_bytes compact_bytes size_of form_of form_from bytes
guid_forgotten h =
    let z = h.priced in
    let l = length_range (range 0 0 7 7) in
    let p = length-append (range_bytes (range 0 0 7 7)) [] in
    omega arith

-- ---- whole_of: the cell knowledge's 25 bytes left out; counted where there is no range

cell_forgotten : 107 ≡ whole_of 41 46 1 20 → ⊥
unfolding whole_of
cell_forgotten h = omega arith

cell_always : 66 ≡ whole_of 41 0 0 0 → ⊥
unfolding whole_of
cell_always h = omega arith

-- ---- is_sendable: the limit put to a page of 1; a page of 2 over it; the 513th range

first_limited : false ≡ is_sendable 512 45 1000 1 46 1 132 → ⊥
unfolding is_sendable
first_limited h = impossible (cc)

one_range_more : true ≡ is_sendable 512 1000 100000 1 46 513 20000 → ⊥
unfolding is_sendable
one_range_more h = impossible (cc)

second_unlimited : true ≡ is_sendable 512 91 1000 2 92 1 178 → ⊥
unfolding is_sendable
second_unlimited h = impossible (cc)

-- ---- Weights::row, where the columns are of one number: the length that stands in the row; that of the next row

abbrev length_weighed : ℕ
length_weighed = (weighed (3 ∷ 46 ∷ 5 ∷ 0 ∷ 0 ∷ 7 ∷ []) (0 ∷ 0 ∷ 7 ∷ []) (100 ∷ 200 ∷ []) (record { width = 1; at = 0 }) 0).length

own_length : 46 ≡ length_weighed → ⊥
unfolding weighed
own_length h = omega arith

next_length : 200 ≡ length_weighed → ⊥
unfolding weighed
next_length h = omega arith

-- ---- decide, with nothing wanted and nothing known: sent without room; a needed length that is the room

abbrev bounds : ℕ → Bounds
bounds room = record { most = 512; limit = 0; fixed = 41; room = room }

abbrev needed_by : Decided → ℕ
needed_by (Ok x) = 0
needed_by Crowded = 0
needed_by (Short n) = n

sent_without_room : Decides [] [] (bounds 40) (Sent 0 41 0 false) (7 ∷ []) (7 ∷ []) → ⊥
unfolding decision whole_of stored_length ranges_with ranges_bytes
sent_without_room h = impossible (cc h.0)

room_needed : Decides [] [] (bounds 40) (Short 40) (7 ∷ []) (7 ∷ []) → ⊥
unfolding decision whole_of stored_length ranges_with ranges_bytes
room_needed h = let z : ◌≡◌ {A = ℕ} 40 41 = ap needed_by h.0 in omega arith

-- ---- fixed_length: the null id not counted; the ends counted twice

null_forgotten : 40 ≡ fixed_length 1 Null → ⊥
unfolding fixed_length compact_bytes size_of form_of form_from bytes extended_guid_bytes
null_forgotten h = omega arith

ends_twice : 45 ≡ fixed_length 1 Null → ⊥
unfolding fixed_length compact_bytes size_of form_of form_from bytes extended_guid_bytes
ends_twice h = omega arith

-- ---- copy_ranges: the GUID's halves as the working table has them; the halves turned

bytes_turned : 1 ∷ 0 ∷ 7 ∷ 9 ∷ [] ≡ range_rows (range 1 0 7 9 ∷ []) → ⊥
unfolding range_rows range_guid swapped be bytes
bytes_turned h = impossible (cc)

halves_turned : 0 ∷ 0x0100000000000000 ∷ 7 ∷ 9 ∷ [] ≡ range_rows (range 1 0 7 9 ∷ []) → ⊥
unfolding range_rows range_guid swapped be bytes
halves_turned h = impossible (cc)

-- ---- write_answer, part by part: a partial answer not marked; another type of sub-request named

not_marked : 0 ∷ 0 ∷ [] ≡ changes_data Null true → ⊥
unfolding changes_data extended_guid_bytes partial_byte
not_marked h = impossible (cc)

put_named : 0x03 ∷ 0x0B ∷ 0 ∷ [] ≡ sub_response_data query_changes_request 1 → ⊥
unfolding sub_response_data compact_bytes size_of form_of form_from bytes with_form
put_named h = let z : ◌≡◌ {A = ℕ} 0x0B 5 = ap (λ (l : List ℕ). get_or l 1 0) h in omega arith

-- ---- deciding, of no store: another number than 2; a queue that is written to

another_fault : StoreReckoned [] [] 0 (reckoned.Refused (fault_at 3 0)) [] [] [] [] [] [] [] [] → ⊥
unfolding reckoned_of store_walk package_start start_of_length length_is place_of start_here skip walk_from next_is end_here finish header_at header_of
another_fault h = let z : ◌≡◌ {A = ℕ} 3 2 = ap number_of h.0 in omega arith
  where
    number_of : Reckoned → ℕ
    number_of (Ok x) = 0
    number_of (reckoned.Refused r) = refusal_number r

queue_written : StoreReckoned [] [] 0 (reckoned.Refused (fault_at 2 0)) [] [] [] [] [] [] (7 ∷ []) (0 ∷ []) → ⊥
unfolding store_walk package_start start_of_length length_is place_of start_here skip walk_from next_is end_here finish header_at header_of
queue_written h = impossible (cc h.4)

-- of a store without elements, `AC 02 00 55`, and no request: the first input for the second; a table of ranges that is written to

abbrev empty : List ℕ
empty = 0xAC ∷ 0x02 ∷ 0x00 ∷ 0x55 ∷ []

empty_held : StoreHeld empty [] [] 0
unfolding beginning_of nothing_of package_start start_of_length length_is place_of start_here skip next_is end_here finish header_at header_of sized start_of end_of length_at le
empty_held = nothing_held empty refl

first_input : RequestReckoned [] [] [] 0 0 (reckoned.Refused (fault_at 2 0)) [] [] [] [] → ⊥
unfolding reckoned_for request_knowing knowledge_part versions user_agent sub_request query_changes arguments constraint package_part identified constrained_from filters_from request_end request_answer request_in fixed_in valued skip start_here length_is start_of_length run_here closed_at inside end_here next_is finish place_of le
first_input h = let z : ◌≡◌ {A = ℕ} 0 1 = ap input_of (h empty empty_held).0 in omega arith
  where
    input_of : Reckoned → ℕ
    input_of (Ok x) = 0
    input_of (reckoned.Refused r) = r.input

ranges_written : RequestReckoned [] [] [] 0 0 (reckoned.Refused (in_request (fault_at 2 0))) (7 ∷ []) (0 ∷ []) [] [] → ⊥
unfolding request_knowing knowledge_part versions user_agent sub_request query_changes arguments constraint package_part identified constrained_from filters_from request_end request_answer request_in fixed_in valued skip start_here length_is start_of_length run_here closed_at inside end_here next_is finish place_of le
ranges_written h = impossible (cc (h empty empty_held).1)

-- ---- length and write: with a table too short, the store's fault before 13; a number of a table put to 0; 13 below 1,536 numbers alone,
-- which rows without their ranks would take

told_fault_first : TellsLength [] [] 0 (answer.Refused (fault_at 2 0)) (7 ∷ []) (7 ∷ []) [] [] → ⊥
unfolding answer_of answer_told
told_fault_first h = let z : ◌≡◌ {A = ℕ} 2 13 = ap (λ t. t.number) h.0 in omega arith

told_table_cleared : TellsLength [] [] 0 (answer.Refused (fault_at 13 0)) (7 ∷ []) (0 ∷ []) [] [] → ⊥
unfolding answer_of rows_after
told_table_cleared h = impossible (cc h.1)

told_without_room_for_ranks : (rows rows' ranges ranges' : List ℕ) → length rows ≡ 1791 → TellsLength [] [] 0 (answer.Refused (fault_at 2 0)) rows rows' ranges ranges' → ⊥
unfolding answer_told
told_without_room_for_ranks rows rows' ranges ranges' e h =
    let z : ◌≡◌ {A = ℕ} 2 13 = ap (λ t. t.number) h.0 ∙ ap (λ o. (tell_answered (answer_told o)).number) (thirteen_if [] [] (length rows) (length ranges) 0 (inl (omega arith))) in
    omega arith

written_fault_first : WritesAnswer [] [] (answer.Refused (fault_at 2 0)) (7 ∷ []) (7 ∷ []) [] [] [] [] → ⊥
unfolding answer_of answer_told
written_fault_first h = let z : ◌≡◌ {A = ℕ} 2 13 = ap (λ t. t.number) h.0 in omega arith

written_table_cleared : WritesAnswer [] [] (answer.Refused (fault_at 13 0)) (7 ∷ []) (0 ∷ []) [] [] [] [] → ⊥
unfolding answer_of rows_after
written_table_cleared h = impossible (cc h.1)

written_without_room_for_ranks : (rows rows' ranges ranges' out out' : List ℕ) → length rows ≡ 1791 → WritesAnswer [] [] (answer.Refused (fault_at 2 0)) rows rows' ranges ranges' out out' → ⊥
unfolding answer_told
written_without_room_for_ranks rows rows' ranges ranges' out out' e h =
    let z : ◌≡◌ {A = ℕ} 2 13 = ap (λ t. t.number) h.0 ∙ ap (λ o. (tell_answered (answer_told o)).number) (thirteen_if [] [] (length rows) (length ranges) (length out) (inl (omega arith))) in
    omega arith
