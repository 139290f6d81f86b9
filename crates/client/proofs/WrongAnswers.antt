-- For write_request, read_answer, find_received, received_bytes, write_put and read_put_answer, wrong answers that their promises rule
-- out, each tried on a named input.
-- Assumes nothing.
use mathlib.Core.Path.{◌≡◌, ap}
use mathlib.Core.Bool.{true, false}
use mathlib.Core.List.{List, [], ◌∷◌}
use Prim.Native.Nat.{ℕ}
use native.Mathlib.Omega.{arith}
use lib.ListN.{get_or}
use lib.Count.{count_trailing_zeros}
use Rattle.laws.specs.Bytes.{le, bytes}
use Rattle.laws.specs.Loop.{turns, iterate}
use Rattle.laws.specs.Once.{seen}
use Rattle.laws.proofs.Cases.{impossible}
use Rattle.numbers.specs.Refusals.{Told, fault_at, too_short}
use Rattle.numbers.specs.Compact.{size_of, form_from, form_of, compact_bytes, read_form, compact_for, read_compact}
use Rattle.numbers.specs.Compact as compact
use Rattle.numbers.specs.ExtendedGuid.{extended_guid_bytes, read_extended_guid, form_of_id, short_form, named_of}
use Rattle.numbers.specs.Guid.{guid_at}
use Rattle.numbers.specs.Serial.{read_serial, numbered}
use Rattle.numbers.specs.Results.ExtendedGuid as id
use Rattle.numbers.specs.Results.Wrote.{Done, Refused}
use Rattle.objects.specs.Header.{start_bytes, long_start, end_bytes, start_of, end_of, sized, header_of, header_at, length_at}
use Rattle.objects.specs.Nesting.{run_at, object_at}
use Rattle.objects.specs.Steps.{place_of, value_of, valued, need, fixed_in, number, number_is, id_here, serial_here, inside, skip, start_here, length_is, start_of_length, run_here, closed_at, end_here, next_is, finish, on_field}
use Rattle.store.specs.Accessor.{element_in}
use Rattle.store.specs.Element.{element_at, element_on, data_of, fields_of, serial_field, id_field, key_here, fresh_key, numbered_key, named_key, same_key}
use Rattle.store.specs.Knowledge.{knowledge_turn, to_go, knowledge_from, knowledge_at}
use Rattle.store.specs.Store.{package_start, walk_from, elements_walk}
use Rattle.store.specs.Written.{package_front}
use Rattle.store.specs.Results.Found as found
use Rattle.request.specs.Filter.{filters_from}
use Rattle.request.specs.Message.{versions, id_in}
use Rattle.request.specs.Response.{version_bytes}
use Rattle.client.specs.AskWritten.{user_agent_bytes, sub_request_data, sub_request_bytes, identified_bytes, query_bytes, argument_data, argument_bytes, constraint_bytes, ask_front, ask_ends, ask_bytes}
use Rattle.client.specs.Ask.{no_more, filters_given, knowledge_of, knowledge_given, written_in, judged_second, judged_first, ask_wrote, WritesRequest}
use Rattle.client.specs.Read.{status_byte, response_fields, response_start, sub_response_fields, sub_response, changes_fields, changes, knowledge_in, ends_of, received_from, rest_of, answer_end, answer_on, answer_in, id_numbers, received_numbers, ReadsAnswer}
use Rattle.client.specs.Accessor.{received_at, FindsReceived, received_bytes}
use Rattle.client.specs.PutWritten.{put_changes_data, put_changes_bytes, put_front_bytes, put_ends_bytes, put_bytes, elements_given, put_wrote, WritesPut}
use Rattle.client.specs.ReadPut.{received_put_from, put_rest_of, put_answer_end, put_answer_on, put_answer_in, ReadsPutAnswer}
use Rattle.client.specs.declared.answer.Received.{Received}
use Rattle.client.specs.Results.ReadAnswer as answer
use Rattle.client.specs.declared.put_answer.ReceivedPut.{ReceivedPut}
use Rattle.client.specs.Results.ReadPutAnswer as put_answer

-- ---- write_request

-- one byte 0 as the knowledge is no whole header: a fault of the second input, and not of the first
first_input : WritesRequest 1 0xFFFFFFFFFFFFFFFF [] (0 ∷ []) (Refused (fault_at 2 0)) [] [] → ⊥
unfolding ask_wrote judged_first judged_second filters_given no_more filters_from knowledge_given knowledge_of knowledge_at knowledge_from knowledge_turn to_go iterate turns start_of_length start_here length_is place_of end_here next_is valued finish header_at header_of sized start_of end_of length_at le
first_input h = let z : ◌≡◌ {A = ℕ} 0 1 = ap (λ (t : Told). t.input) h.0 in omega arith

-- a knowledge whose true length 0 is padded is refused with 3, and not written into a request
padding_written : WritesRequest 1 0xFFFFFFFFFFFFFFFF [] (0x86 ∷ 0x00 ∷ 0xFE ∷ 0xFF ∷ 0x01 ∷ 0x41 ∷ []) (Done 51) [] [] → ⊥
unfolding ask_wrote judged_first judged_second filters_given no_more filters_from knowledge_given knowledge_of knowledge_at knowledge_from knowledge_turn to_go iterate turns start_of_length start_here length_is place_of end_here next_is valued finish header_at header_of sized start_of end_of length_at le compact_for read_compact read_form compact.compact_value size_of count_trailing_zeros
padding_written h = let z : ◌≡◌ {A = ℕ} 0 3 = ap (λ (t : Told). t.number) h.0 in omega arith

-- without filters, knowledge, limit and room: 45, and not 44
one_byte_short : WritesRequest 1 0xFFFFFFFFFFFFFFFF [] [] (Refused (too_short 44)) [] [] → ⊥
unfolding ask_wrote judged_first judged_second filters_given no_more filters_from knowledge_given knowledge_of valued finish next_is header_at header_of sized start_of end_of le written_in ask_bytes ask_front identified_bytes version_bytes user_agent_bytes sub_request_bytes sub_request_data query_bytes argument_bytes argument_data constraint_bytes ask_ends start_bytes long_start end_bytes extended_guid_bytes compact_bytes size_of form_of form_from bytes
one_byte_short h = let z : ◌≡◌ {A = ℕ} 44 45 = ap (λ (t : Told). t.needed) h.0 in omega arith

-- with a limit of 5 the same needs its constraint too: the limit left out
limit_dropped : WritesRequest 1 5 [] [] (Refused (too_short 45)) [] [] → ⊥
unfolding ask_wrote judged_first judged_second filters_given no_more filters_from knowledge_given knowledge_of valued finish next_is header_at header_of sized start_of end_of le written_in ask_bytes ask_front identified_bytes version_bytes user_agent_bytes sub_request_bytes sub_request_data query_bytes argument_bytes argument_data constraint_bytes ask_ends start_bytes long_start end_bytes extended_guid_bytes compact_bytes size_of form_of form_from bytes
limit_dropped h = let z : ◌≡◌ {A = ℕ} 45 50 = ap (λ (t : Told). t.needed) h.0 in omega arith

-- ---- read_answer

-- nothing lacks its version: 2, and not 7
version_first : ReadsAnswer [] (answer.Refused (fault_at 7 0)) → ⊥
unfolding versions fixed_in le response_start start_here run_here closed_at package_start start_of_length length_is place_of skip walk_from next_is end_here sub_response changes knowledge_in knowledge_at knowledge_from knowledge_turn to_go iterate turns valued ends_of finish rest_of answer_end answer_on answer_in
version_first h = let z : ◌≡◌ {A = ℕ} 7 2 = ap (λ (t : Told). t.number) h in omega arith

-- an answer read out of nothing
abbrev nothing_came : Received
nothing_came = record { id = 0; partial = false; index = id.Null; elements = 0; count = 0; knowledge = 0; length = 0 }

read_from_nothing : ReadsAnswer [] (answer.Is nothing_came) → ⊥
unfolding versions fixed_in le response_start start_here run_here closed_at package_start start_of_length length_is place_of skip walk_from next_is end_here sub_response changes knowledge_in knowledge_at knowledge_from knowledge_turn to_go iterate turns valued ends_of finish rest_of answer_end answer_on answer_in
read_from_nothing h = let z : ◌≡◌ {A = ℕ} 0 2 = ap (λ (t : Told). t.number) h in omega arith

-- ---- find_received

-- nothing is at fault, which comes before any position: 2, and not 9
position_first : FindsReceived [] 0 (found.Refused (fault_at 9 0)) → ⊥
unfolding versions fixed_in le response_start start_here run_here closed_at package_start start_of_length length_is place_of skip walk_from next_is end_here sub_response changes knowledge_in knowledge_at knowledge_from knowledge_turn to_go iterate turns valued ends_of finish rest_of answer_end received_at
position_first h = let z : ◌≡◌ {A = ℕ} 9 2 = ap (λ (t : Told). t.number) h in omega arith

-- an element at the front of nothing
found_in_nothing : FindsReceived [] 0 (found.At 0 0) → ⊥
unfolding versions fixed_in le response_start start_here run_here closed_at package_start start_of_length length_is place_of skip walk_from next_is end_here sub_response changes knowledge_in knowledge_at knowledge_from knowledge_turn to_go iterate turns valued ends_of finish rest_of answer_end received_at
found_in_nothing h = let z : ◌≡◌ {A = ℕ} 0 2 = ap (λ (t : Told). t.number) h in omega arith

-- ---- received_bytes

-- one byte is no answer: the empty part, and not the byte
byte_given : 0x0C ∷ [] ≡ received_bytes (0x0C ∷ []) 0 → ⊥
unfolding versions fixed_in le response_start start_here run_here closed_at package_start start_of_length length_is place_of skip walk_from next_is end_here sub_response changes knowledge_in knowledge_at knowledge_from knowledge_turn to_go iterate turns valued ends_of finish rest_of answer_end received_at received_bytes
byte_given h = impossible (cc)

-- ---- the smallest answer, of 41 bytes: no element, no storage index and no range

abbrev smallest : List ℕ
smallest =
    0x0C ∷ 0x00 ∷ 0x0B ∷ 0x00 ∷ 0x9D ∷ 0xCF ∷ 0x29 ∷ 0xF3 ∷ 0x39 ∷ 0x94 ∷ 0x06 ∷ 0x9B ∷ 0x16 ∷ 0x03 ∷ 0x02 ∷ 0x00 ∷ 0x00 ∷ 0xAC ∷ 0x02 ∷ 0x00 ∷ 0x55 ∷ 0x0E ∷ 0x02 ∷ 0x06 ∷ 0x00 ∷ 0x03 ∷ 0x05 ∷ 0x00 ∷ 0xFA ∷ 0x02 ∷ 0x04 ∷ 0x00 ∷ 0x00 ∷ 0x00 ∷ 0x84 ∷ 0x00 ∷ 0x41 ∷ 0x07 ∷ 0x01 ∷ 0x8B ∷ 0x01 ∷ []

-- read_answer: it is not marked partial
abbrev marked : Received
marked = record { id = 1; partial = true; index = id.Null; elements = 20; count = 0; knowledge = 34; length = 3 }

marked_partial : ReadsAnswer smallest (answer.Is marked) → ⊥
unfolding versions fixed_in le response_start start_here run_here closed_at package_start start_of_length length_is place_of skip walk_from next_is end_here sub_response changes knowledge_in knowledge_at knowledge_from knowledge_turn to_go iterate turns valued ends_of finish rest_of answer_end header_at header_of sized start_of end_of length_at status_byte response_fields sub_response_fields changes_fields need value_of number number_is id_here on_field read_compact compact_for read_form compact.compact_value size_of read_extended_guid form_of_id count_trailing_zeros answer_on answer_in received_from id_in id_numbers received_numbers
marked_partial h = let z : ◌≡◌ {A = ℕ} 1 0 = ap (λ (t : Told). get_or t.values 3 0) h in omega arith

-- and with a status byte that announces an error it is refused with 5, and not read
abbrev failed : List ℕ
failed =
    0x0C ∷ 0x00 ∷ 0x0B ∷ 0x00 ∷ 0x9D ∷ 0xCF ∷ 0x29 ∷ 0xF3 ∷ 0x39 ∷ 0x94 ∷ 0x06 ∷ 0x9B ∷ 0x16 ∷ 0x03 ∷ 0x02 ∷ 0x00 ∷ 0x01 ∷ 0xAC ∷ 0x02 ∷ 0x00 ∷ 0x55 ∷ 0x0E ∷ 0x02 ∷ 0x06 ∷ 0x00 ∷ 0x03 ∷ 0x05 ∷ 0x00 ∷ 0xFA ∷ 0x02 ∷ 0x04 ∷ 0x00 ∷ 0x00 ∷ 0x00 ∷ 0x84 ∷ 0x00 ∷ 0x41 ∷ 0x07 ∷ 0x01 ∷ 0x8B ∷ 0x01 ∷ []

error_taken : (x : Received) → ReadsAnswer failed (answer.Is x) → ⊥
unfolding versions fixed_in le response_start start_here run_here closed_at package_start start_of_length length_is place_of skip walk_from next_is end_here sub_response changes knowledge_in knowledge_at knowledge_from knowledge_turn to_go iterate turns valued ends_of finish rest_of answer_end header_at header_of sized start_of end_of length_at status_byte response_fields sub_response_fields changes_fields need value_of number number_is id_here on_field read_compact compact_for read_form compact.compact_value size_of read_extended_guid form_of_id count_trailing_zeros answer_on answer_in received_from id_in id_numbers received_numbers
error_taken x h = let z : ◌≡◌ {A = ℕ} 0 5 = ap (λ (t : Told). t.number) h in omega arith

-- and with an id of 0 that is padded it is read, and not refused with 3
abbrev padded_id : List ℕ
padded_id =
    0x0C ∷ 0x00 ∷ 0x0B ∷ 0x00 ∷ 0x9D ∷ 0xCF ∷ 0x29 ∷ 0xF3 ∷ 0x39 ∷ 0x94 ∷ 0x06 ∷ 0x9B ∷ 0x16 ∷ 0x03 ∷ 0x02 ∷ 0x00 ∷ 0x00 ∷ 0xAC ∷ 0x02 ∷ 0x00 ∷ 0x55 ∷ 0x0E ∷ 0x02 ∷ 0x06 ∷ 0x00 ∷ 0x01 ∷ 0x05 ∷ 0x00 ∷ 0xFA ∷ 0x02 ∷ 0x04 ∷ 0x00 ∷ 0x00 ∷ 0x00 ∷ 0x84 ∷ 0x00 ∷ 0x41 ∷ 0x07 ∷ 0x01 ∷ 0x8B ∷ 0x01 ∷ []

padding_refused_lem : ReadsAnswer padded_id (answer.Refused (fault_at 3 25)) → ⊥
unfolding versions fixed_in le response_start start_here run_here closed_at package_start start_of_length length_is place_of skip walk_from next_is end_here sub_response changes knowledge_in knowledge_at knowledge_from knowledge_turn to_go iterate turns valued ends_of finish rest_of answer_end header_at header_of sized start_of end_of length_at status_byte response_fields sub_response_fields changes_fields need value_of number number_is id_here on_field read_compact compact_for read_form compact.compact_value size_of read_extended_guid form_of_id count_trailing_zeros answer_on answer_in received_from id_in id_numbers received_numbers
padding_refused_lem h = let z : ◌≡◌ {A = ℕ} 3 0 = ap (λ (t : Told). t.number) h in omega arith

-- ---- an answer that holds one element, of 46 bytes from place 20 on

abbrev of_one : List ℕ
of_one =
    0x0C ∷ 0x00 ∷ 0x0B ∷ 0x00 ∷ 0x9D ∷ 0xCF ∷ 0x29 ∷ 0xF3 ∷ 0x39 ∷ 0x94 ∷ 0x06 ∷ 0x9B ∷ 0x16 ∷ 0x03 ∷ 0x02 ∷ 0x00 ∷ 0x00 ∷ 0xAC ∷ 0x02 ∷ 0x00 ∷ 0x0C ∷ 0x56 ∷ 0x0C ∷ 0x01 ∷ 0x00 ∷ 0x00 ∷ 0x00 ∷ 0x00 ∷ 0x00 ∷ 0x00 ∷ 0x00 ∷ 0x00 ∷ 0x00 ∷ 0x00 ∷ 0x00 ∷ 0x00 ∷ 0x00 ∷ 0x00 ∷ 0x00 ∷ 0x80 ∷ 0x02 ∷ 0x00 ∷ 0x00 ∷ 0x00 ∷ 0x00 ∷ 0x00 ∷ 0x00 ∷ 0x00 ∷ 0x00 ∷ 0x00 ∷ 0x00 ∷ 0x00 ∷ 0x00 ∷ 0x00 ∷ 0x00 ∷ 0x00 ∷ 0x03 ∷ 0x00 ∷ 0x00 ∷ 0x00 ∷ 0x00 ∷ 0x00 ∷ 0x00 ∷ 0x00 ∷ 0x03 ∷ 0x05 ∷ 0x55 ∷ 0x0E ∷ 0x02 ∷ 0x06 ∷ 0x00 ∷ 0x03 ∷ 0x05 ∷ 0x00 ∷ 0xFA ∷ 0x02 ∷ 0x04 ∷ 0x00 ∷ 0x00 ∷ 0x00 ∷ 0x84 ∷ 0x00 ∷ 0x41 ∷ 0x07 ∷ 0x01 ∷ 0x8B ∷ 0x01 ∷ []

-- find_received: 9, though it is there
refused_there : FindsReceived of_one 0 (found.Refused (fault_at 9 0)) → ⊥
unfolding versions fixed_in le response_start start_here run_here closed_at package_start start_of_length length_is place_of skip walk_from next_is end_here sub_response changes knowledge_in knowledge_at knowledge_from knowledge_turn to_go iterate turns valued ends_of finish rest_of answer_end header_at header_of sized start_of end_of length_at status_byte response_fields sub_response_fields changes_fields need value_of number number_is id_here on_field read_compact compact_for read_form compact.compact_value size_of read_extended_guid form_of_id count_trailing_zeros element_at element_on data_of fields_of serial_field id_field key_here fresh_key numbered_key named_key seen same_key serial_here read_serial numbered guid_at short_form named_of inside run_at object_at element_in received_at
refused_there h = let z : ◌≡◌ {A = ℕ} 9 0 = ap (λ (t : Told). t.number) h in omega arith

-- received_bytes: nothing, though it is there
none_given : [] ≡ received_bytes of_one 0 → ⊥
unfolding versions fixed_in le response_start start_here run_here closed_at package_start start_of_length length_is place_of skip walk_from next_is end_here sub_response changes knowledge_in knowledge_at knowledge_from knowledge_turn to_go iterate turns valued ends_of finish rest_of answer_end header_at header_of sized start_of end_of length_at status_byte response_fields sub_response_fields changes_fields need value_of number number_is id_here on_field read_compact compact_for read_form compact.compact_value size_of read_extended_guid form_of_id count_trailing_zeros element_at element_on data_of fields_of serial_field id_field key_here fresh_key numbered_key named_key seen same_key serial_here read_serial numbered guid_at short_form named_of inside run_at object_at element_in received_at received_bytes
none_given h = impossible (cc)

-- ---- write_put, with the id 1 and no storage index

-- of no elements: 44, and not 43
put_byte_short : WritesPut 1 id.Null [] (Refused (too_short 43)) [] [] → ⊥
unfolding put_wrote judged_first elements_given elements_walk valued no_more next_is header_at header_of sized start_of end_of le written_in put_bytes put_front_bytes identified_bytes version_bytes user_agent_bytes sub_request_bytes sub_request_data put_changes_bytes put_changes_data package_front put_ends_bytes start_bytes long_start end_bytes extended_guid_bytes compact_bytes size_of form_of form_from bytes
put_byte_short h = let z : ◌≡◌ {A = ℕ} 43 44 = ap (λ (t : Told). t.needed) h.0 in omega arith

-- one byte 0 is half a header: one that runs past the input, and not a byte that does not belong there
half_as_left : WritesPut 1 id.Null (0 ∷ []) (Refused (fault_at 5 0)) [] [] → ⊥
unfolding put_wrote judged_first elements_given elements_walk valued no_more start_here next_is header_at header_of sized start_of end_of length_at le
half_as_left h = let z : ◌≡◌ {A = ℕ} 5 2 = ap (λ (t : Told). t.number) h.0 in omega arith

-- ---- read_put_answer

-- nothing lacks its version: 2, and not 7
put_version_first : ReadsPutAnswer [] (put_answer.Refused (fault_at 7 0)) → ⊥
unfolding versions fixed_in le response_start start_here run_here closed_at package_start start_of_length length_is place_of skip walk_from next_is end_here sub_response knowledge_in knowledge_at knowledge_from knowledge_turn to_go iterate turns valued ends_of finish put_rest_of put_answer_end put_answer_on put_answer_in
put_version_first h = let z : ◌≡◌ {A = ℕ} 7 2 = ap (λ (t : Told). t.number) h in omega arith

-- the smallest answer to a put, of 35 bytes: no range
abbrev smallest_put : List ℕ
smallest_put =
    0x0C ∷ 0x00 ∷ 0x0B ∷ 0x00 ∷ 0x9D ∷ 0xCF ∷ 0x29 ∷ 0xF3 ∷ 0x39 ∷ 0x94 ∷ 0x06 ∷ 0x9B ∷ 0x16 ∷ 0x03 ∷ 0x02 ∷ 0x00 ∷ 0x00 ∷ 0xAC ∷ 0x02 ∷ 0x00 ∷ 0x55 ∷ 0x0E ∷ 0x02 ∷ 0x06 ∷ 0x00 ∷ 0x03 ∷ 0x0B ∷ 0x00 ∷ 0x84 ∷ 0x00 ∷ 0x41 ∷ 0x07 ∷ 0x01 ∷ 0x8B ∷ 0x01 ∷ []

-- its knowledge stands at 28, and not where the ends do
abbrev at_the_ends : ReceivedPut
at_the_ends = record { id = 1; knowledge = 31; length = 3 }

ends_for_knowledge : ReadsPutAnswer smallest_put (put_answer.Is at_the_ends) → ⊥
unfolding versions fixed_in le response_start start_here run_here closed_at package_start start_of_length length_is place_of skip walk_from next_is end_here sub_response knowledge_in knowledge_at knowledge_from knowledge_turn to_go iterate turns valued ends_of finish header_at header_of sized start_of end_of length_at status_byte response_fields sub_response_fields need value_of number number_is read_compact compact_for read_form compact.compact_value size_of count_trailing_zeros put_rest_of put_answer_end put_answer_on put_answer_in received_put_from
ends_for_knowledge h = let z : ◌≡◌ {A = ℕ} 31 28 = ap (λ (t : Told). get_or t.values 0 0) h in omega arith

-- and the smallest answer to a request, whose type is 2, is none to a put
request_answered : (x : ReceivedPut) → ReadsPutAnswer smallest (put_answer.Is x) → ⊥
unfolding versions fixed_in le response_start start_here run_here closed_at package_start start_of_length length_is place_of skip walk_from next_is end_here sub_response knowledge_in knowledge_at knowledge_from knowledge_turn to_go iterate turns valued ends_of finish header_at header_of sized start_of end_of length_at status_byte response_fields sub_response_fields need value_of number number_is read_compact compact_for read_form compact.compact_value size_of count_trailing_zeros put_rest_of put_answer_end put_answer_on put_answer_in received_put_from
request_answered x h = let z : ◌≡◌ {A = ℕ} 0 8 = ap (λ (t : Told). t.number) h in omega arith
