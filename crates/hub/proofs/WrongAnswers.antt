-- For each exported call, wrong answers that its promise rules out, each tried on a named input: no store and no request, no answer,
-- no element, all of which are refused with 2; a request of 45 bytes and a put of 44 for which there is no room; a put that enters; and an answer that is kept.
-- Assumes nothing.
use mathlib.Core.Path.{◌≡◌, ap, ◌∙◌}
use mathlib.Core.List.{List, [], ◌∷◌}
use Prim.Native.Nat.{ℕ}
use lib.ListN.{take, drop}
use native.Mathlib.Omega.{arith}
use Rattle.laws.specs.Placed.{placed}
use Rattle.laws.specs.Bytes.{le, bytes}
use Rattle.laws.specs.Loop.{turns, iterate}
use Rattle.laws.proofs.Cases.{impossible}
use Rattle.numbers.specs.Compact.{size_of, form_from, form_of, compact_bytes}
use Rattle.numbers.specs.ExtendedGuid.{extended_guid_bytes}
use Rattle.objects.specs.Header.{start_bytes, long_start, end_bytes, start_of, end_of, sized, header_of, header_at, length_at}
use Rattle.objects.specs.Steps.{place_of, valued, fixed_in, start_here, length_is, start_of_length, run_here, closed_at, skip, end_here, next_is, finish}
use Rattle.store.specs.Accessor.{element_in, found_in}
use Rattle.store.specs.Knowledge.{knowledge_turn, to_go, knowledge_from, knowledge_at}
use Rattle.store.specs.Store.{package_start, walk_from, elements_walk, store_walk}
use Rattle.store.specs.Written.{package_front}
use Rattle.request.specs.Filter.{filters_from}
use Rattle.request.specs.Message.{versions}
use Rattle.request.specs.Response.{version_bytes}
use Rattle.pages.specs.Answer.{number_in, on_store, outcome, answer_of}
use Rattle.puts.specs.Applied as puts
use Rattle.puts.specs.Applied.{Outcome, put_outcome, store_after}
use Rattle.puts.proofs.PutExample.{store, put, new_bytes, answer, put_entered}
use Rattle.client.specs.AskWritten.{user_agent_bytes, sub_request_data, sub_request_bytes, identified_bytes, query_bytes, argument_data, argument_bytes, constraint_bytes, ask_front, ask_ends, ask_bytes}
use Rattle.client.specs.Ask.{no_more, filters_given, knowledge_of, knowledge_given, written_in, judged_second, judged_first, ask_wrote, ask_output}
use Rattle.client.specs.Read.{response_start, sub_response, changes, knowledge_in, ends_of, rest_of, answer_end, answer_on, answer_in}
use Rattle.client.specs.Accessor.{received_at}
use Rattle.client.specs.PutWritten.{put_changes_data, put_changes_bytes, put_front_bytes, put_ends_bytes, put_bytes, elements_given, put_wrote}
use Rattle.client.specs.ReadPut.{put_rest_of, put_answer_end, put_answer_on, put_answer_in}
use Rattle.book.specs.Keep as keep
use Rattle.book.specs.Keep.{on_book, keep_outcome, book_after}
use Rattle.book.proofs.KeepExample as kept
use Rattle.report.specs.Report.{numbers_bytes, three_numbers}
use Rattle.hub.specs.Call.{report_bytes, HubTellsLength, HubWritesAnswer}
use Rattle.hub.specs.Bench.{element_found, report_after, HubAsks, HubReads, HubFinds}
use Rattle.hub.specs.Put.{put_number, put_report, HubPuts}
use Rattle.hub.specs.Keep.{keep_number, keep_report, HubKeeps}
use Rattle.hub.specs.BenchPut.{expected_of, too_wide, put_asked, put_report_after, HubAsksPut, HubReadsPut}

-- ---- hub_length and hub_write

-- 0, as if there were an answer
refused_as_told : HubTellsLength [] [] 0 0 [] [] → ⊥
unfolding answer_of outcome on_store number_in store_walk package_start start_of_length length_is place_of start_here skip walk_from next_is end_here finish header_at header_of
refused_as_told h = let z = h.0 in omega arith

refused_as_written : HubWritesAnswer [] [] 0 [] [] [] [] → ⊥
unfolding answer_of outcome on_store number_in store_walk package_start start_of_length length_is place_of start_here skip walk_from next_is end_here finish header_at header_of
refused_as_written h = let z = h.0 in omega arith

-- a report of under 24 bytes that is written to
short_report_told : HubTellsLength [] [] 0 2 (7 ∷ []) (0 ∷ []) → ⊥
unfolding answer_of outcome on_store report_bytes numbers_bytes placed store_walk package_start start_of_length length_is place_of start_here skip walk_from next_is end_here finish header_at header_of bytes
short_report_told h = impossible (cc h.1)

short_report_written : HubWritesAnswer [] [] 2 [] [] (7 ∷ []) (0 ∷ []) → ⊥
unfolding answer_of outcome on_store report_bytes numbers_bytes placed store_walk package_start start_of_length length_is place_of start_here skip walk_from next_is end_here finish header_at header_of bytes
short_report_written h = impossible (cc h.2)

-- ---- hub_ask, with the id 1 and no limit

-- 0 for a knowledge of one byte, which is no whole header
taken_knowledge : HubAsks 1 0xFFFFFFFFFFFFFFFF [] (0 ∷ []) 0 [] [] [] [] → ⊥
unfolding ask_wrote judged_first judged_second filters_given no_more filters_from knowledge_given knowledge_of knowledge_at knowledge_from knowledge_turn to_go iterate turns start_of_length start_here length_is place_of end_here next_is valued finish header_at header_of sized start_of end_of length_at le
taken_knowledge h = let z = h.0 in omega arith

-- an output with no room for the request that is written to
short_output_written : HubAsks 1 0xFFFFFFFFFFFFFFFF [] [] 14 (7 ∷ []) (0 ∷ []) [] [] → ⊥
unfolding ask_wrote judged_first judged_second ask_output filters_given no_more filters_from knowledge_given knowledge_of valued finish next_is header_at header_of sized start_of end_of le written_in ask_bytes ask_front identified_bytes version_bytes user_agent_bytes sub_request_bytes sub_request_data query_bytes argument_bytes argument_data constraint_bytes ask_ends start_bytes long_start end_bytes extended_guid_bytes compact_bytes size_of form_of form_from bytes
short_output_written h = impossible (cc h.1)

-- ---- hub_read and hub_element, of no bytes

-- 0, as if an answer had come
nothing_read : HubReads [] 0 [] [] → ⊥
unfolding answer_in answer_on answer_end rest_of ends_of sub_response changes knowledge_in knowledge_at knowledge_from knowledge_turn to_go iterate turns response_start versions fixed_in package_start walk_from start_of_length start_here length_is place_of run_here closed_at skip end_here next_is valued finish header_at header_of le
nothing_read h = let z = h.0 in omega arith

-- 9 before the fault of the answer
position_first : HubFinds 1 [] 0 9 [] [] → ⊥
unfolding element_found received_at answer_end rest_of ends_of sub_response changes knowledge_in knowledge_at knowledge_from knowledge_turn to_go iterate turns response_start versions fixed_in package_start walk_from start_of_length start_here length_is place_of run_here closed_at skip end_here next_is valued finish header_at header_of le
position_first h = let z = h.0 in omega arith

-- a report of under 24 bytes that is written to
short_report_read : HubReads [] 2 (7 ∷ []) (0 ∷ []) → ⊥
unfolding answer_in answer_on answer_end report_after numbers_bytes placed bytes rest_of ends_of sub_response changes knowledge_in knowledge_at knowledge_from knowledge_turn to_go iterate turns response_start versions fixed_in package_start walk_from start_of_length start_here length_is place_of run_here closed_at skip end_here next_is valued finish header_at header_of le
short_report_read h = impossible (cc h.1)

-- an element of the store without bytes
nothing_found : HubFinds 0 [] 0 0 [] [] → ⊥
unfolding element_found found_in store_walk package_start start_of_length length_is place_of start_here skip walk_from next_is end_here finish header_at header_of
nothing_found h = let z = h.0 in omega arith

-- kind 0 is a store: of one without elements 9 is told, and not 7, as these bytes would give if they were read as an answer
store_as_answer : HubFinds 0 (0xAC ∷ 0x02 ∷ 0x00 ∷ 0x55 ∷ []) 0 7 [] [] → ⊥
unfolding element_found element_in found_in store_walk package_start start_of_length length_is place_of start_here skip walk_from next_is end_here finish header_at header_of sized start_of end_of length_at le
store_as_answer h = let z = h.0 in omega arith

-- ---- hub_put, of no store and no put

-- 0, as if it had entered
no_put_applied : HubPuts [] [] 1 0 0 [] [] [] [] [] [] → ⊥
unfolding put_number put_outcome puts.on_store store_walk package_start start_of_length length_is place_of start_here skip walk_from next_is end_here finish header_at header_of
no_put_applied h = let z = h.0 in omega arith

-- a new store that is written to
refused_store_written : HubPuts [] [] 1 0 2 (7 ∷ []) (0 ∷ []) [] [] [] [] → ⊥
unfolding store_after put_outcome puts.on_store store_walk package_start start_of_length length_is place_of start_here skip walk_from next_is end_here finish header_at header_of
refused_store_written h = impossible (cc h.1)

-- of the put of 96 and 80 bytes in PutExample of `puts`: a report with the new store's length in place of the answer's
abbrev lent : List ℕ
lent = numbers_bytes (0 ∷ 0 ∷ 0 ∷ 0 ∷ [])

lengths_exchanged : (new' out' : List ℕ) → HubPuts store put 0x0807060504030201 0x100F0E0D0C0B0A09 0 new_bytes new' answer out' lent (numbers_bytes (0 ∷ 0 ∷ 96 ∷ 80 ∷ [])) → ⊥
unfolding put_report numbers_bytes placed bytes le
lengths_exchanged new' out' h =
    let z = ap (λ (l : List ℕ). le (take 1 (drop 16 l))) (h.3 ∙ ap (λ (o : Outcome). put_report o lent) put_entered) in
    let w : ◌≡◌ {A = ℕ} 96 80 = z in
    omega arith

-- ---- hub_ask_put, with the id 1, no elements and no room

-- 14 where the number has 33 bits, which is 3 first
short_before_wide : HubAsksPut 1 1 0 0 0x100000000 [] 14 [] [] [] [] → ⊥
unfolding put_asked too_wide
short_before_wide h = let z = h.0 in omega arith

-- 3 for that number where no storage index is named
wide_of_none : HubAsksPut 1 0 0 0 0x100000000 [] 3 [] [] [] [] → ⊥
unfolding put_asked too_wide expected_of put_wrote judged_first elements_given elements_walk valued no_more next_is header_at header_of sized start_of end_of le written_in put_bytes put_front_bytes identified_bytes version_bytes user_agent_bytes sub_request_bytes sub_request_data put_changes_bytes put_changes_data package_front put_ends_bytes start_bytes long_start end_bytes extended_guid_bytes compact_bytes size_of form_of form_from bytes
wide_of_none h = let z = h.0 in omega arith

-- ---- hub_read_put, of no bytes

-- 0, as if an answer had come
no_put_answered : HubReadsPut [] 0 [] [] → ⊥
unfolding put_answer_in put_answer_on put_answer_end put_rest_of ends_of sub_response knowledge_in knowledge_at knowledge_from knowledge_turn to_go iterate turns response_start versions fixed_in package_start walk_from start_of_length start_here length_is place_of run_here closed_at skip end_here next_is valued finish header_at header_of le
no_put_answered h = let z = h.0 in omega arith

-- a report of under 24 bytes that is written to
short_report_put : HubReadsPut [] 2 (7 ∷ []) (0 ∷ []) → ⊥
unfolding put_answer_in put_answer_on put_answer_end put_report_after numbers_bytes placed bytes put_rest_of ends_of sub_response knowledge_in knowledge_at knowledge_from knowledge_turn to_go iterate turns response_start versions fixed_in package_start walk_from start_of_length start_here length_is place_of run_here closed_at skip end_here next_is valued finish header_at header_of le
short_report_put h = impossible (cc h.1)

-- ---- hub_keep, of no book and no answer

-- 0, as if it were kept
nothing_kept : HubKeeps [] [] 0 [] [] [] [] → ⊥
unfolding keep_number keep_outcome on_book store_walk package_start start_of_length length_is place_of start_here skip walk_from next_is end_here finish header_at header_of
nothing_kept h = let z = h.0 in omega arith

-- a new book that is written to
refused_book_written : HubKeeps [] [] 2 (7 ∷ []) (0 ∷ []) [] [] → ⊥
unfolding book_after keep_outcome on_book store_walk package_start start_of_length length_is place_of start_here skip walk_from next_is end_here finish header_at header_of
refused_book_written h = impossible (cc h.1)

-- of the book of 96 bytes in KeepExample of `book`, which is then one of 142: a report with the old length
abbrev told : List ℕ
told = three_numbers 0 0 0

old_length_told : (new' : List ℕ) → HubKeeps kept.book kept.answer 0 kept.new_book new' told (three_numbers 0 0 96) → ⊥
unfolding keep_report numbers_bytes placed bytes le
old_length_told new' h =
    let z = ap (λ (l : List ℕ). le (take 1 (drop 16 l))) (h.2 ∙ ap (λ (o : keep.Outcome). placed (keep_report o) told) kept.answer_kept) in
    let w : ◌≡◌ {A = ℕ} 96 142 = z in
    omega arith
