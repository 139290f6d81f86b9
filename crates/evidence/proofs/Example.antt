-- Document 01's small example, computed by the prover over bytes: "One element with a 5-bit id, type 5 and nothing inside is 46 bytes; with
-- serial number 7 its answer is 132 bytes. Three such elements and ample buffers: limit 0, 46 or 91 gives pages 1, 1, 1; 92 gives 2, 1; 137
-- gives 2, 1; 138 gives 3." The stores stand here byte by byte; requests, answers and what a bench reads in them are computed by the
-- definitions that the calls' promises name. A reader needs `one`, `three`, `answers_under` and the statements marked `pub`, and can skip
-- the part 'what the prover looks through', which only lists names.
-- Assumes nothing.
use mathlib.Core.Path.{◌≡◌, refl, sym, ap}
use mathlib.Core.Bool.{Bool, true, false}
use mathlib.Core.List.{List, [], ◌∷◌, ◌++◌, map}
use Prim.Native.Nat.{ℕ, zero, suc, ◌+◌, ◌*◌, ◌^◌, ◌<◌}
use native.Mathlib.Omega.{arith}
use lib.ListN.{length, take, drop, replicate, length-replicate}
use lib.Count.{count_trailing_zeros}
use Rattle.laws.specs.Bytes.{le, bytes, be}
use Rattle.laws.specs.Loop.{turns, iterate}
use Rattle.laws.specs.Once.{seen}
use Rattle.laws.specs.Pick.{pick}
use Rattle.laws.specs.Placed.{placed}
use Rattle.numbers.specs.Compact.{compact_bytes, size_of, form_of, form_from, with_form, read_form, compact_for, read_compact}
use Rattle.numbers.specs.Compact as compact
use Rattle.numbers.specs.Guid.{guid_at, guid_bytes, tagged_bytes, swapped}
use Rattle.numbers.specs.ExtendedGuid.{extended_guid_bytes, named_bytes, short_bytes, read_extended_guid, form_of_id, short_form, named_of}
use Rattle.numbers.specs.Refusals.{too_short, tell_wrote}
use Rattle.numbers.specs.Serial.{serial_bytes, read_serial, numbered}
use Rattle.numbers.specs.Results.ExtendedGuid.{Null}
use Rattle.objects.specs.Header.{start_bytes, long_start, end_bytes, start_number, start_of, end_of, sized, header_of, header_at, length_at}
use Rattle.objects.specs.Nesting.{run_at}
use Rattle.objects.specs.Steps.{place_of, value_of, valued, need, number, number_is, null_id, fixed_in, skip, start_here, length_is, start_of_length, run_here, closed_at, inside, end_here, next_is, finish, id_here, serial_here, guid_here, on_field}
use Rattle.objects.specs.Results.Reading.{At}
use Rattle.talk.specs.Page.{grow, page_count}
use Rattle.talk.specs.Ranges.{within, holds, is_before, joined, absorb, insert}
use Rattle.talk.specs.Wanted.{keep, is_wanted, wanted}
use Rattle.talk.specs.declared.range.Range.{Range}
use Rattle.store.specs.Element.{same_key, named_key, numbered_key, fresh_key, key_here, id_field, serial_field, fields_of, data_of, element_on, element_at}
use Rattle.store.specs.Knowledge.{guid_in, range_fields, item_of, range_item, item_next, item_at, united, items_from, is_cell, specialized_guid, cell_from, specialized_from, knowledge_turn, to_go, knowledge_from, knowledge_at}
use Rattle.ranges.specs.Ranged.{range_of, knows}
use Rattle.store.specs.KnowledgeWritten as knowledge
use Rattle.store.specs.KnowledgeWritten.{range_data, range_bytes, ranges_bytes, cell_front, cell_back, knowledge_bytes}
use Rattle.store.specs.Store.{walked, package_start, walk_from, store_walk}
use Rattle.store.specs.Written.{Content, key_guid, field_bytes, written_element, written_elements, package_front, package_bytes}
use Rattle.store.specs.Held.{key_range, serial_range, ranges_with, storage_index, stored_bytes, elements_bytes, package_of}
use Rattle.store.specs.declared.element.Key.{Key}
use Rattle.store.specs.declared.element.Element.{Element}
use Rattle.request.specs.Filter.{one_number, filters_from}
use Rattle.request.specs.Meaning.{left_in, filters_read}
use Rattle.request.specs.Message.{versions, user_agent, sub_request_fields, sub_request, query_changes, argument_fields, arguments, constraint, knowledge_part, package_part, identified, constrained_from, request_end, request_knowing, request_answer, request_in, id_in}
use Rattle.request.specs.Response.{version_bytes, response_bytes, sub_response_data, sub_response_bytes, ends_bytes}
use Rattle.order.specs.Order.{rank_of, ordered}
use Rattle.order.specs.Groups.{members_of, groups_behind, some_of, stored_length}
use Rattle.pages.specs.Choice.{lets_group, wanted_in}
use Rattle.pages.specs.Decision.{is_sendable, decision}
use Rattle.pages.specs.Written.{partial_byte, changes_data, changes_bytes, answer_bytes}
use Rattle.pages.specs.Answer as answer
use Rattle.pages.specs.Answer.{Outcome, refused, answered, number_in, page_ranges, page_bytes, page_measure, on_decided, page_decided, page_outcome, on_request, on_store, outcome}
use Rattle.client.specs.Ask.{no_more, filters_given, knowledge_of, knowledge_given, written_in, judged_second, judged_first, ask_wrote, ask_output}
use Rattle.client.specs.AskWritten.{user_agent_bytes, sub_request_data, sub_request_bytes, identified_bytes, query_bytes, argument_data, argument_bytes, constraint_bytes, ask_front, ask_ends, ask_bytes}
use Rattle.client.specs.Read.{status_byte, response_fields, response_start, package_in, sub_response_fields, sub_response, changes_fields, changes, knowledge_in, ends_of, received_from, rest_of, answer_end, answer_on, answer_in, received_numbers, id_numbers, tell_read_answer}
use Rattle.client.specs.declared.answer.Received.{Received}
use Rattle.client.specs.Results.ReadAnswer.{ReadAnswer}
use Rattle.client.specs.Results.ReadAnswer as read
use Rattle.report.specs.Report.{numbers_bytes}
use Rattle.hub.specs.Call.{report_bytes, hub_outcome}
use Rattle.hub.specs.Bench.{wrote_report, report_after}
use Rattle.talk.specs.Series.{Chain}
use Rattle.talk.specs.Series.Chain.{done, next}
use Rattle.evidence.specs.Calling.{report_number}
use Rattle.evidence.specs.Bench.{Exchange, BenchTalk}

-- ---- what the prover looks through: a definition computes where it is named, and to name one of these is to name all of its line

-- numbers and names
numbers : Unit {0}
unfolding le bytes be compact_bytes size_of form_of form_from with_form read_form compact_for read_compact compact.compact_value count_trailing_zeros guid_at guid_bytes tagged_bytes swapped extended_guid_bytes named_bytes short_bytes read_extended_guid form_of_id short_form named_of serial_bytes read_serial numbered
numbers = tt

-- headers, and the steps of a layout
objects : Unit {0}
unfolding numbers start_bytes long_start end_bytes start_number start_of end_of sized header_of header_at length_at run_at iterate turns place_of value_of valued need number number_is null_id fixed_in skip start_here length_is start_of_length run_here closed_at inside end_here next_is finish id_here on_field serial_here guid_here
objects = tt

-- stores and knowledge
stores : Unit {0}
unfolding objects seen same_key named_key numbered_key fresh_key key_here on_field id_field serial_field fields_of data_of element_on element_at package_start walk_from store_walk field_bytes written_element written_elements package_front package_bytes
stores = tt

unfoldable pub knowledges : Unit {0}
unfolding objects range_of guid_in range_fields item_of range_item item_next item_at on_field united knows items_from is_cell specialized_guid cell_from specialized_from knowledge_turn to_go knowledge_from knowledge_at knowledge.range_guid range_data range_bytes ranges_bytes cell_front cell_back knowledge_bytes within holds is_before joined absorb insert
knowledges = tt

-- requests, written and read
requests : Unit {0}
unfolding knowledges version_bytes user_agent_bytes sub_request_data sub_request_bytes identified_bytes query_bytes argument_data argument_bytes constraint_bytes ask_front ask_ends ask_bytes versions user_agent sub_request_fields sub_request query_changes argument_fields arguments constraint knowledge_part package_part identified constrained_from request_end request_knowing request_answer request_in one_number filters_from filters_read left_in
requests = tt

-- the answering calls
answering : Unit {0}
unfolding stores requests keep is_wanted wanted rank_of ordered groups_behind some_of members_of lets_group wanted_in serial_range key_range ranges_with stored_length storage_index grow page_count is_sendable decision response_bytes stored_bytes elements_bytes package_of sub_response_data sub_response_bytes partial_byte changes_data changes_bytes ends_bytes answer_bytes page_ranges page_bytes page_measure on_decided page_decided page_outcome on_request on_store outcome
answering = tt

-- an answer read
reading : Unit {0}
unfolding answering status_byte response_fields response_start sub_response_fields sub_response changes_fields changes id_in knowledge_in ends_of received_from rest_of answer_end answer_on answer_in
reading = tt

-- the exported calls
unfoldable pub exporting : Unit {0}
unfolding reading no_more filters_given knowledge_of knowledge_given written_in judged_second judged_first ask_wrote ask_output placed wrote_report numbers_bytes report_bytes number_in answer.answer_of answer.output_after report_after received_numbers id_numbers
exporting = tt

-- ---- the stores

-- "One element with a 5-bit id, type 5 and nothing inside": its start (type 1, compound, 43 bytes), the id (a 5-bit number, a GUID), the
-- serial number (0x80, the GUID, 8 bytes), the type, its end. The GUID is 01 02 .. 10 in both
abbrev pub element : ℕ → ℕ → List ℕ
element id serial =
    0x0C ∷ 0x56 ∷ (id * 8 + 4) ∷ 0x01 ∷ 0x02 ∷ 0x03 ∷ 0x04 ∷ 0x05 ∷ 0x06 ∷ 0x07 ∷ 0x08 ∷ 0x09 ∷ 0x0A ∷ 0x0B ∷ 0x0C ∷ 0x0D ∷ 0x0E ∷ 0x0F ∷ 0x10
    ∷ 0x80 ∷ 0x01 ∷ 0x02 ∷ 0x03 ∷ 0x04 ∷ 0x05 ∷ 0x06 ∷ 0x07 ∷ 0x08 ∷ 0x09 ∷ 0x0A ∷ 0x0B ∷ 0x0C ∷ 0x0D ∷ 0x0E ∷ 0x0F ∷ 0x10
    ∷ serial ∷ 0x00 ∷ 0x00 ∷ 0x00 ∷ 0x00 ∷ 0x00 ∷ 0x00 ∷ 0x00 ∷ 0x0B ∷ 0x05 ∷ []

-- a store with one of them, "with serial number 7", and one with "Three such elements", whose serial numbers are 7, 8 and 9
abbrev pub one : List ℕ
one = 0xAC ∷ 0x02 ∷ 0x00 ∷ (element 1 7 ++ (0x55 ∷ []))

abbrev pub three : List ℕ
three = 0xAC ∷ 0x02 ∷ 0x00 ∷ (element 1 7 ++ (element 2 8 ++ (element 3 9 ++ (0x55 ∷ []))))

-- "is 46 bytes"
pub forty_six : (length (element 1 7) ≡ 46) × (length (element 2 8) ≡ 46) × (length (element 3 9) ≡ 46)
forty_six = (refl, refl, refl)

-- an id or a serial number under the GUID, and an element as the layout writes it: nothing is inside, so behind its fields comes its end
abbrev pub key : ℕ → Key
key n = record { low = 0x0807060504030201; high = 0x100F0E0D0C0B0A09; number = n }

abbrev pub content : ℕ → ℕ → Content
content id serial = record { id = key id; serial = key serial; kind = 5; inner = 0x05 ∷ [] }

pub three_written : three ≡ package_bytes (content 1 7 ∷ content 2 8 ∷ content 3 9 ∷ [])
unfolding stores
three_written = refl

-- the three as they are read
abbrev pub stored : ℕ → ℕ → ℕ → Element
stored place id serial = record { place = place; length = 46; kind = 5; id = key id; serial = key serial }

pub three_read : store_walk three ≡ walked (stored 3 1 7 ∷ stored 49 2 8 ∷ stored 95 3 9 ∷ []) (At 142 0)
unfolding stores
three_read = refl

-- ---- one element

-- a request with the id 1, some filters, a limit and a knowledge; and one with no filters
abbrev pub asking_with : List ℕ → ℕ → List ℕ → List ℕ
asking_with filters limit knowledge = ask_bytes 1 limit filters knowledge

abbrev pub asking : ℕ → List ℕ → List ℕ
asking limit knowledge = asking_with [] limit knowledge

-- the numbers from a to b under the GUID
abbrev pub numbers_to : ℕ → ℕ → Range
numbers_to a b = range_of (key_guid (key a)) a b

-- the bytes of such a range: its start, the GUID, from and to
abbrev pub range_written : ℕ → ℕ → List ℕ
range_written a b =
    0x78 ∷ 0x24 ∷ 0x01 ∷ 0x02 ∷ 0x03 ∷ 0x04 ∷ 0x05 ∷ 0x06 ∷ 0x07 ∷ 0x08 ∷ 0x09 ∷ 0x0A ∷ 0x0B ∷ 0x0C ∷ 0x0D ∷ 0x0E ∷ 0x0F ∷ 0x10 ∷ (a * 2 + 1) ∷ (b * 2 + 1) ∷ []

-- a knowledge of some ranges: cell knowledge with its GUID, the ranges, ends; and of one range, from 7 to n
abbrev pub known_ranges : List ℕ → List ℕ
known_ranges ranges =
    0x84 ∷ 0x00 ∷ 0x26 ∷ 0x02 ∷ 0x20 ∷ 0x00 ∷ 0xF6 ∷ 0x35 ∷ 0x7A ∷ 0x32 ∷ 0x61 ∷ 0x07 ∷ 0x14 ∷ 0x44 ∷ 0x96 ∷ 0x86 ∷ 0x51 ∷ 0xE9 ∷ 0x00 ∷ 0x66 ∷ 0x7A ∷ 0x4D ∷ 0xA4 ∷ 0x00
    ∷ (ranges ++ (0x51 ∷ 0x13 ∷ 0x01 ∷ 0x41 ∷ []))

abbrev pub known : ℕ → List ℕ
known n = known_ranges (range_written 7 n)

pub known_written : (known 7 ≡ knowledge_bytes (numbers_to 7 7 ∷ [])) × (known 8 ≡ knowledge_bytes (numbers_to 7 8 ∷ [])) × (known 9 ≡ knowledge_bytes (numbers_to 7 9 ∷ []))
unfolding knowledges
known_written = (refl, refl, refl)

-- an answer with these elements, this partial byte and that knowledge: version, minimum and signature; response and its zero byte; package;
-- sub-response (id 1, type 2, zero byte); 0x5F with no storage index and the partial byte; knowledge; ends
abbrev pub answer_telling : List ℕ → ℕ → List ℕ → List ℕ
answer_telling elements partial knowledge =
    (0x0C ∷ 0x00 ∷ 0x0B ∷ 0x00 ∷ 0x9D ∷ 0xCF ∷ 0x29 ∷ 0xF3 ∷ 0x39 ∷ 0x94 ∷ 0x06 ∷ 0x9B ∷ 0x16 ∷ 0x03 ∷ 0x02 ∷ 0x00 ∷ 0x00 ∷ 0xAC ∷ 0x02 ∷ 0x00 ∷ [])
    ++ (elements
    ++ ((0x55 ∷ 0x0E ∷ 0x02 ∷ 0x06 ∷ 0x00 ∷ 0x03 ∷ 0x05 ∷ 0x00 ∷ 0xFA ∷ 0x02 ∷ 0x04 ∷ 0x00 ∷ 0x00 ∷ partial ∷ [])
    ++ (knowledge ++ (0x07 ∷ 0x01 ∷ 0x8B ∷ 0x01 ∷ []))))

-- and one with the knowledge from 7 to n
abbrev pub answer_with : List ℕ → ℕ → ℕ → List ℕ
answer_with elements partial n = answer_telling elements partial (known n)

-- "with serial number 7 its answer is 132 bytes"
pub one_answered :
    (outcome one (asking 0 []) 132 ≡ answered (answer_with (element 1 7) 0 7) (stored 3 1 7 ∷ []) (numbers_to 7 7 ∷ []))
    × (length (answer_with (element 1 7) 0 7) ≡ 132)
unfolding answering
one_answered = (refl, refl)

-- in a byte less it is refused, and 132 is the needed length
pub one_refused : outcome one (asking 0 []) 131 ≡ refused (too_short 132)
unfolding answering
one_refused = refl

-- the same element with its type padded (document 02, Q-10): 16 00, in place of 0B. Its row has the value, and it goes out as it is stored
abbrev pub padded : List ℕ
padded =
    0x0C ∷ 0x58 ∷ 0x0C ∷ 0x01 ∷ 0x02 ∷ 0x03 ∷ 0x04 ∷ 0x05 ∷ 0x06 ∷ 0x07 ∷ 0x08 ∷ 0x09 ∷ 0x0A ∷ 0x0B ∷ 0x0C ∷ 0x0D ∷ 0x0E ∷ 0x0F ∷ 0x10
    ∷ 0x80 ∷ 0x01 ∷ 0x02 ∷ 0x03 ∷ 0x04 ∷ 0x05 ∷ 0x06 ∷ 0x07 ∷ 0x08 ∷ 0x09 ∷ 0x0A ∷ 0x0B ∷ 0x0C ∷ 0x0D ∷ 0x0E ∷ 0x0F ∷ 0x10
    ∷ 0x07 ∷ 0x00 ∷ 0x00 ∷ 0x00 ∷ 0x00 ∷ 0x00 ∷ 0x00 ∷ 0x00 ∷ 0x16 ∷ 0x00 ∷ 0x05 ∷ []

pub padded_answered :
    outcome (0xAC ∷ 0x02 ∷ 0x00 ∷ (padded ++ (0x55 ∷ []))) (asking 0 []) 133
    ≡ answered (answer_with padded 0 7) (record { place = 3; length = 47; kind = 5; id = key 1; serial = key 7 } ∷ []) (numbers_to 7 7 ∷ [])
unfolding answering
padded_answered = refl

-- "Empty store, empty knowledge, id 1: 41 bytes; a buffer of 40 is refused, needed 41"
pub none_answered :
    (outcome (0xAC ∷ 0x02 ∷ 0x00 ∷ 0x55 ∷ []) (asking 0 []) 41 ≡ answered (answer_telling [] 0 (0x84 ∷ 0x00 ∷ 0x41 ∷ [])) [] [])
    × (length (answer_telling [] 0 (0x84 ∷ 0x00 ∷ 0x41 ∷ [])) ≡ 41)
    × (outcome (0xAC ∷ 0x02 ∷ 0x00 ∷ 0x55 ∷ []) (asking 0 []) 40 ≡ refused (too_short 41))
unfolding answering
none_answered = (refl, refl, refl)

-- ---- three elements: whole talks

-- the answer's bytes (none where the call refuses)
abbrev pub bytes_in : Outcome → List ℕ
bytes_in (refused r) = []
bytes_in (answered w all l) = w

-- "ample buffers": 1,000 bytes
unfoldable pub answer_to : List ℕ → ℕ → List ℕ → List ℕ
answer_to filters limit knowledge = bytes_in (outcome three (asking_with filters limit knowledge) 1000)

-- what a bench reads in an answer (no more than zeros where reading refuses)
abbrev pub received_in : ReadAnswer → Received
received_in (read.Is x) = x
received_in (read.Refused r) = record { id = 0; partial = false; index = Null; elements = 0; count = 0; knowledge = 0; length = 0 }

unfoldable pub received : List ℕ → Received
received w = received_in (answer_in w)

-- the answer with the padded element it reads, with one element at 20
pub padded_received : ((received (answer_with padded 0 7)).count ≡ 1) × ((received (answer_with padded 0 7)).elements ≡ 20)
unfolding reading received
padded_received = (refl, refl)

-- the knowledge in it, to be sent back
unfoldable pub sent_back : List ℕ → List ℕ
sent_back w = take (received w).length (drop (received w).knowledge w)

-- "The client asks again with the last answer's knowledge": the answers under some filters and one limit, until one is unmarked, at most
-- so many
unfoldable pub answers_from : ℕ → List ℕ → ℕ → List ℕ → List (List ℕ)
answers_from zero filters limit knowledge = []
answers_from (suc left) filters limit knowledge =
    let w = answer_to filters limit knowledge in
    w ∷ pick (received w).partial (answers_from left filters limit (sent_back w)) []

-- the first knowledge is empty; five answers would be allowed
abbrev pub answers_with : List ℕ → ℕ → List (List ℕ)
answers_with filters limit = answers_from 5 filters limit []

-- and with no filters
abbrev pub answers_under : ℕ → List (List ℕ)
answers_under limit = answers_with [] limit

-- how many elements each answer has, as a bench reads it
abbrev pub pages_of : List (List ℕ) → List ℕ
pages_of given = map (λ (w : List ℕ). (received w).count) given

abbrev pub pages_under : ℕ → List ℕ
pages_under limit = pages_of (answers_under limit)

-- "limit 0, 46 or 91 gives pages 1, 1, 1; 92 gives 2, 1; 137 gives 2, 1; 138 gives 3"
pub pages :
    (pages_under 0 ≡ 1 ∷ 1 ∷ 1 ∷ [])
    × (pages_under 46 ≡ 1 ∷ 1 ∷ 1 ∷ [])
    × (pages_under 91 ≡ 1 ∷ 1 ∷ 1 ∷ [])
    × (pages_under 92 ≡ 2 ∷ 1 ∷ [])
    × (pages_under 137 ≡ 2 ∷ 1 ∷ [])
    × (pages_under 138 ≡ 3 ∷ [])
unfolding reading answer_to received sent_back answers_from
pages = (refl, refl, refl, refl, refl, refl)

-- the answers byte by byte: one by one, ..
abbrev pub first : List ℕ
first = answer_with (element 1 7) 1 7

abbrev pub second : List ℕ
second = answer_with (element 2 8) 1 8

abbrev pub third : List ℕ
third = answer_with (element 3 9) 0 9

-- .. two together, and all together
abbrev pub first_two : List ℕ
first_two = answer_with (element 1 7 ++ element 2 8) 1 8

abbrev pub all_three : List ℕ
all_three = answer_with (element 1 7 ++ (element 2 8 ++ element 3 9)) 0 9

-- "limit 0, 46 or 91 gives pages 1, 1, 1; 92 gives 2, 1; 137 gives 2, 1; 138 gives 3": each answer in all of its bytes
pub answers :
    (answers_under 0 ≡ first ∷ second ∷ third ∷ [])
    × (answers_under 46 ≡ first ∷ second ∷ third ∷ [])
    × (answers_under 91 ≡ first ∷ second ∷ third ∷ [])
    × (answers_under 92 ≡ first_two ∷ third ∷ [])
    × (answers_under 137 ≡ first_two ∷ third ∷ [])
    × (answers_under 138 ≡ all_three ∷ [])
unfolding reading answer_to received sent_back answers_from
answers = (refl, refl, refl, refl, refl, refl)

-- what a bench reads in them: the serial numbers of the elements, the mark, and the length
pub record Page : Type 0 where
  pub serials : List ℕ
  pub marked : Bool
  pub length : ℕ

abbrev pub page : List ℕ → Bool → ℕ → Page
page serials marked n = record { serials = serials; marked = marked; length = n }

abbrev pub page_in : List ℕ → Page
page_in w = page (map (λ (x : Element). x.serial.number) (package_in w).elements) (received w).partial (length w)

-- 7, 8 and 9, all of one rank, come in store order, each once; all but the last answer are marked; an element more is 46 bytes more
pub answers_read :
    (map page_in (first ∷ second ∷ third ∷ []) ≡ page (7 ∷ []) true 132 ∷ page (8 ∷ []) true 132 ∷ page (9 ∷ []) false 132 ∷ [])
    × (map page_in (first_two ∷ third ∷ []) ≡ page (7 ∷ 8 ∷ []) true 178 ∷ page (9 ∷ []) false 132 ∷ [])
    × (map page_in (all_three ∷ []) ≡ page (7 ∷ 8 ∷ 9 ∷ []) false 224 ∷ [])
unfolding reading received
answers_read = (refl, refl, refl)

-- ---- the same talks by the exported calls alone

-- buffers of zeros: the outputs, and the reports
abbrev pub output : List ℕ
output = replicate 1000 0

abbrev pub report : List ℕ
report = replicate 24 0

-- the block that is allocated for an answer
abbrev block : ℕ → List ℕ
block n = replicate n 0

-- what hub_ask, hub_length, hub_write and hub_read promise to leave in them: the request and its report, ..
abbrev asked_output : List ℕ → ℕ → List ℕ → List ℕ
asked_output f limit k = ask_output (ask_wrote 1 limit f k (length output)) (asking_with f limit k) output

abbrev ask_report : List ℕ → ℕ → List ℕ → List ℕ
ask_report f limit k = placed (wrote_report (ask_wrote 1 limit f k (length output))) report

abbrev request_under : List ℕ → ℕ → List ℕ → List ℕ
request_under f limit k = take (report_number 2 (ask_report f limit k)) (asked_output f limit k)

-- .. the report with the answer's length, where 1,000 bytes are offered, ..
abbrev offered_room : ℕ
offered_room = 1000

abbrev length_report : List ℕ → ℕ → List ℕ → List ℕ
length_report f limit k = placed (report_bytes (hub_outcome three (request_under f limit k) offered_room)) report

-- .. the answer, in exactly so many bytes, and its report, ..
abbrev answer_block : List ℕ → ℕ → List ℕ → List ℕ
answer_block f limit k = block (report_number 2 (length_report f limit k))

abbrev hub_outcome_under : List ℕ → ℕ → List ℕ → Outcome
hub_outcome_under f limit k = hub_outcome three (request_under f limit k) (length (answer_block f limit k))

abbrev answer_under : List ℕ → ℕ → List ℕ → List ℕ
answer_under f limit k = answer.output_after (hub_outcome_under f limit k) (answer_block f limit k)

abbrev answer_report : List ℕ → ℕ → List ℕ → List ℕ
answer_report f limit k = placed (report_bytes (hub_outcome_under f limit k)) report

-- .. and the place and length of the knowledge in it
abbrev read_report : List ℕ → List ℕ
read_report w = report_after (answer_in w) report

-- what the four calls return, and the bytes that come of them
pub record Returned : Type 0 where
  pub asked : ℕ
  pub told : ℕ
  pub answered : ℕ
  pub read : ℕ
  pub answer : List ℕ
  pub knowledge : List ℕ

unfoldable pub returned : List ℕ → ℕ → List ℕ → List ℕ → Returned
returned f limit k w =
    record {
      asked = (tell_wrote (ask_wrote 1 limit f k (length output))).number;
      told = number_in (hub_outcome three (request_under f limit k) offered_room);
      answered = number_in (hub_outcome_under f limit k);
      read = (tell_read_answer (answer_in w)).number;
      answer = answer_under f limit k;
      knowledge = take (report_number 2 (read_report w)) (drop (report_number 1 (read_report w)) w);
    }

-- each returns 0, the answer is w, and k' is the knowledge in it
abbrev pub TurnFine : List ℕ → ℕ → List ℕ → List ℕ → List ℕ → Type 0
TurnFine f limit k w k' = returned f limit k w ≡ record { asked = 0; told = 0; answered = 0; read = 0; answer = w; knowledge = k' }

-- a turn with some filters under a limit, and with none
abbrev pub TurnWith : List ℕ → ℕ → List ℕ → List ℕ → List ℕ → Type 0
TurnWith f limit k w k' = (t : Exchange three f k w k') × (t.choice.limit ≡ limit)

abbrev pub TurnUnder : ℕ → List ℕ → List ℕ → List ℕ → Type 0
TurnUnder limit k w k' = TurnWith [] limit k w k'

-- where the four calls return so, it is one
pub turn_with : (f : List ℕ) (limit : ℕ) (k w k' : List ℕ) → limit < 2 ^ 64 → TurnFine f limit k w k' → TurnWith f limit k w k'
unfolding returned
turn_with f limit k w k' h e = (
  record {
    choice =
        record {
          id = 1;
          limit = limit;
          ask_out = output;
          report_of_ask = report;
          offered = offered_room;
          report_of_length = report;
          block = block;
          report = report;
          report_of_read = report;
        };
    lends =
        record {
          id = omega arith;
          limit = h;
          offered = omega arith;
          report_of_ask = omega arith;
          report_of_length = omega arith;
          block = λ n. length-replicate {A = ℕ} n 0;
          report = omega arith;
          report_of_read = omega arith;
        };
    ask_out = asked_output f limit k;
    report_of_ask = ask_report f limit k;
    asks = (sym (ap (λ (t : Returned). t.asked) e), refl, refl);
    report_of_length = length_report f limit k;
    tells = (sym (ap (λ (t : Returned). t.told) e), refl);
    report = answer_report f limit k;
    writes = (sym (ap (λ (t : Returned). t.answered) e), sym (ap (λ (t : Returned). t.answer) e), refl);
    report_of_read = read_report w;
    reads = (sym (ap (λ (t : Returned). t.read) e), refl);
    next = sym (ap (λ (t : Returned). t.knowledge) e);
  },
  refl,
)

-- the answers of a talk under a limit, from no knowledge to that of 7 to 9
abbrev pub TalkUnder : ℕ → List (List ℕ) → Type 0
TalkUnder limit answers = Chain (TurnUnder limit) [] answers (known 9)

-- one by one, two and one, or all at once
one_by_one : (limit : ℕ) → limit < 2 ^ 64 → TurnFine [] limit [] first (known 7) × TurnFine [] limit (known 7) second (known 8) × TurnFine [] limit (known 8) third (known 9)
    → TalkUnder limit (first ∷ second ∷ third ∷ [])
one_by_one limit h f =
    next (turn_with [] limit [] first (known 7) h f.0)
    (next (turn_with [] limit (known 7) second (known 8) h f.1) (next (turn_with [] limit (known 8) third (known 9) h f.2) done))

two_and_one : (limit : ℕ) → limit < 2 ^ 64 → TurnFine [] limit [] first_two (known 8) × TurnFine [] limit (known 8) third (known 9) → TalkUnder limit (first_two ∷ third ∷ [])
two_and_one limit h f = next (turn_with [] limit [] first_two (known 8) h f.0) (next (turn_with [] limit (known 8) third (known 9) h f.1) done)

all_at_once : (limit : ℕ) → limit < 2 ^ 64 → TurnFine [] limit [] all_three (known 9) → TalkUnder limit (all_three ∷ [])
all_at_once limit h f = next (turn_with [] limit [] all_three (known 9) h f) done

-- under each of document 01's limits a bench gets these answers by hub_ask, hub_length, hub_write and hub_read, handing on the knowledge
-- that it read
pub bench_talks :
    TalkUnder 0 (first ∷ second ∷ third ∷ [])
    × TalkUnder 46 (first ∷ second ∷ third ∷ [])
    × TalkUnder 91 (first ∷ second ∷ third ∷ [])
    × TalkUnder 92 (first_two ∷ third ∷ [])
    × TalkUnder 137 (first_two ∷ third ∷ [])
    × TalkUnder 138 (all_three ∷ [])
unfolding exporting returned
bench_talks = (
  one_by_one 0 (omega arith) (refl, refl, refl),
  one_by_one 46 (omega arith) (refl, refl, refl),
  one_by_one 91 (omega arith) (refl, refl, refl),
  two_and_one 92 (omega arith) (refl, refl),
  two_and_one 137 (omega arith) (refl, refl),
  all_at_once 138 (omega arith) refl,
)

-- each is a talk of a bench as the demands have it; so is one with filters
pub bench_talk_with : {f : List ℕ} {limit : ℕ} {k k' : List ℕ} {given : List (List ℕ)} → Chain (TurnWith f limit) k given k' → BenchTalk three f k given k'
bench_talk_with done = done
bench_talk_with (next t rest) = next t.0 (bench_talk_with rest)

pub bench_talk_under : {limit : ℕ} {k k' : List ℕ} {given : List (List ℕ)} → Chain (TurnUnder limit) k given k' → BenchTalk three [] k given k'
bench_talk_under talk = bench_talk_with talk
