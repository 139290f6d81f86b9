-- A put over bytes, computed by the prover: a store with one element (id 1, serial number 7, type 5, nothing inside: document 01's, of 46
-- bytes), and a put with two elements that came with no serial number, of the ids 1 and 2, which expects no storage index. The first is
-- replaced in its position, the second follows, and they get the numbers 8 and 9; the answer knows 8 to 9. In a byte less, either buffer is
-- refused with the length that is needed. So the laws of AfterPut are not about nothing.
-- Assumes nothing.
use mathlib.Core.Path.{◌≡◌, refl, ap, ◌∙◌}
use mathlib.Core.List.{List, [], ◌∷◌, ◌++◌}
use Prim.Native.Nat.{ℕ, ◌+◌, ◌*◌}
use native.Mathlib.Omega.{arith}
use lib.Count.{count_trailing_zeros}
use lib.ListN.{take, drop}
use Rattle.laws.specs.Bytes.{le, bytes, be}
use Rattle.laws.specs.Loop.{turns, iterate}
use Rattle.laws.specs.Once.{seen}
use Rattle.numbers.specs.Compact.{compact_bytes, size_of, form_of, form_from, with_form, read_form, compact_for, read_compact, compact_value}
use Rattle.numbers.specs.ExtendedGuid.{extended_guid_bytes, named_bytes, short_bytes, read_extended_guid, form_of_id, short_form, named_of}
use Rattle.numbers.specs.Guid.{guid_at, guid_bytes, tagged_bytes, swapped}
use Rattle.numbers.specs.Refusals.{too_short, fault_at}
use Rattle.numbers.specs.Serial as serial
use Rattle.numbers.specs.Serial.{serial_bytes, read_serial}
use Rattle.numbers.specs.declared.guid.Guid.{Guid}
use Rattle.numbers.proofs.OneAnswers.{values_of}
use Rattle.objects.specs.Header as header
use Rattle.objects.specs.Header.{start_bytes, long_start, end_bytes, start_number, start_of, end_of, header_of, header_at, length_at}
use Rattle.objects.specs.Nesting.{run_at}
use Rattle.objects.specs.Steps.{place_of, value_of, valued, need, number, number_is, fixed_in, skip, start_here, length_is, start_of_length, run_here, closed_at, inside, end_here, next_is, finish, id_here, serial_here, on_field}
use Rattle.talk.specs.Ranges as ranges
use Rattle.talk.specs.Ranges.{within, holds, is_before, absorb, insert}
use Rattle.ranges.specs.Ranged.{range_of}
use Rattle.store.specs.Element.{same_key, named_key, numbered_key, any_key, fresh_key, key_here, id_field, serial_field, fields_of, data_of, element_on, element_at}
use Rattle.store.specs.Held.{storage_index, stored_bytes, key_range}
use Rattle.store.specs.KnowledgeWritten.{range_guid, range_data, range_bytes, ranges_bytes, cell_front, cell_back, knowledge_bytes}
use Rattle.store.specs.Store.{package_start, walk_from, store_walk}
use Rattle.store.specs.Written.{field_bytes, written_element, package_front, inside_of}
use Rattle.request.specs.Message.{versions, user_agent, sub_request_fields, sub_request, knowledge_part, identified, id_in}
use Rattle.request.specs.Response.{version_bytes, response_bytes, answer_front, sub_response_data, sub_response_bytes, ends_bytes}
use Rattle.puts.specs.Applied.{Outcome, refused, entered, put_answer_bytes, answered, sized, counted, numbered, same_id, expecting, on_put, on_store, put_outcome, tell_applied, applied_told, store_after, Puts}
use Rattle.puts.specs.Results.Applied.{Applied}
use Rattle.puts.specs.Results.Applied as applied
use Rattle.enter.specs.Entering.{replaced_by, new_to, enter}
use Rattle.enter.specs.Package.{kept_in, joined, packed}
use Rattle.puts.specs.NewStore.{entering, entering_from, under_guid, highest_under, new_elements, ranges_of}
use Rattle.puts.specs.Put.{put_fields, put_changes, flag_fields, additional_flags, undivided, optional_bytes, client_knowledge, before_package, put_package, put_end, put_walk, put_read, put_in}

-- ---- what the prover looks through: a definition computes where it is named, and to name one of these is to name all of its line

-- numbers and names, headers, and the steps of a layout
layouts : Unit {0}
unfolding le bytes be compact_bytes size_of form_of form_from with_form read_form compact_for read_compact compact_value count_trailing_zeros guid_at guid_bytes tagged_bytes swapped extended_guid_bytes named_bytes short_bytes read_extended_guid form_of_id short_form named_of serial_bytes read_serial serial.numbered start_bytes long_start end_bytes start_number start_of end_of header.sized header_of header_at length_at run_at iterate turns place_of value_of valued need number number_is fixed_in skip start_here length_is start_of_length run_here closed_at inside end_here next_is finish id_here on_field serial_here
layouts = tt

-- stores, ranges, and what is written
stores : Unit {0}
unfolding layouts seen same_key named_key numbered_key any_key fresh_key key_here on_field id_field serial_field fields_of data_of element_on element_at package_start walk_from store_walk storage_index stored_bytes field_bytes written_element package_front inside_of range_of within holds is_before ranges.joined absorb insert range_guid range_data range_bytes ranges_bytes cell_front cell_back knowledge_bytes version_bytes response_bytes answer_front sub_response_data sub_response_bytes ends_bytes
stores = tt

-- puts
puts : Unit {0}
unfolding stores versions user_agent sub_request_fields sub_request knowledge_part identified id_in put_fields put_changes flag_fields additional_flags undivided optional_bytes client_knowledge before_package put_package put_end put_walk put_read put_in replaced_by new_to enter kept_in entering entering_from under_guid highest_under new_elements joined packed key_range ranges_of put_answer_bytes answered sized counted numbered same_id expecting on_put on_store put_outcome
puts = tt

-- ---- the store, the put, and what comes of them

-- the GUID 01 02 .. 10, of ids, serial numbers and the hub
abbrev pub hub : Guid
hub = record { low = 0x0807060504030201; high = 0x100F0E0D0C0B0A09 }

abbrev guid : List ℕ
guid = 0x01 ∷ 0x02 ∷ 0x03 ∷ 0x04 ∷ 0x05 ∷ 0x06 ∷ 0x07 ∷ 0x08 ∷ 0x09 ∷ 0x0A ∷ 0x0B ∷ 0x0C ∷ 0x0D ∷ 0x0E ∷ 0x0F ∷ 0x10 ∷ []

-- an element with a 5-bit id, the eight bytes of a serial number's number, the byte of a type, and nothing inside; one of type 5; and one
-- that comes with no serial number
abbrev element : ℕ → List ℕ → ℕ → List ℕ
element id number kind = 0x0C ∷ 0x56 ∷ (id * 8 + 4) ∷ (guid ++ (0x80 ∷ (guid ++ (number ++ (kind ∷ 0x05 ∷ [])))))

abbrev stored : ℕ → ℕ → List ℕ
stored id number = element id (number ∷ 0x00 ∷ 0x00 ∷ 0x00 ∷ 0x00 ∷ 0x00 ∷ 0x00 ∷ 0x00 ∷ []) 0x0B

abbrev handed : ℕ → List ℕ
handed id = 0x0C ∷ 0x26 ∷ (id * 8 + 4) ∷ (guid ++ (0x00 ∷ 0x0B ∷ 0x05 ∷ []))

abbrev packaged : List ℕ → List ℕ
packaged elements = 0xAC ∷ 0x02 ∷ 0x00 ∷ (elements ++ (0x55 ∷ []))

abbrev pub store : List ℕ
store = packaged (stored 1 7)

-- versions and signature; request; user agent; sub-request (id 1, type 5, priority 0); 0x5A with two ids and a flag byte; the sub-request's
-- end; the package; the request's end. The second id is the one that counts: null here
abbrev handing_in : List ℕ → List ℕ
handing_in elements =
    0x0C ∷ 0x00 ∷ 0x0B ∷ 0x00 ∷ 0x9C ∷ 0xCF ∷ 0x29 ∷ 0xF3 ∷ 0x39 ∷ 0x94 ∷ 0x06 ∷ 0x9B ∷ 0x06 ∷ 0x02 ∷ 0x00 ∷ 0x00 ∷ 0xEE ∷ 0x02 ∷ 0x00 ∷ 0x00 ∷ 0x77 ∷ 0x01 ∷ 0x16 ∷ 0x02 ∷ 0x06 ∷ 0x00 ∷ 0x03 ∷ 0x0B ∷ 0x00 ∷ 0xD2 ∷ 0x02 ∷ 0x06 ∷ 0x00 ∷ 0x00 ∷ 0x00 ∷ 0x00
    ∷ 0x0B ∷ 0x01 ∷ (packaged elements ++ (0x03 ∷ 0x01 ∷ []))

abbrev pub put : List ℕ
put = handing_in (handed 1 ++ handed 2)

abbrev pub new_bytes : List ℕ
new_bytes = packaged (stored 1 8 ++ stored 2 9)

-- versions and signature; response and its zero byte; an empty package; sub-response (id 1, type 5, zero byte); the knowledge from 8 to 9; ends
abbrev pub answer : List ℕ
answer =
    0x0C ∷ 0x00 ∷ 0x0B ∷ 0x00 ∷ 0x9D ∷ 0xCF ∷ 0x29 ∷ 0xF3 ∷ 0x39 ∷ 0x94 ∷ 0x06 ∷ 0x9B ∷ 0x16 ∷ 0x03 ∷ 0x02 ∷ 0x00 ∷ 0x00 ∷ 0xAC ∷ 0x02 ∷ 0x00 ∷ 0x55 ∷ 0x0E ∷ 0x02 ∷ 0x06 ∷ 0x00 ∷ 0x03 ∷ 0x0B ∷ 0x00 ∷ 0x84 ∷ 0x00 ∷ 0x26 ∷ 0x02 ∷ 0x20 ∷ 0x00 ∷ 0xF6 ∷ 0x35 ∷ 0x7A ∷ 0x32 ∷ 0x61 ∷ 0x07 ∷ 0x14 ∷ 0x44 ∷ 0x96 ∷ 0x86 ∷ 0x51 ∷ 0xE9 ∷ 0x00 ∷ 0x66 ∷ 0x7A ∷ 0x4D ∷ 0xA4 ∷ 0x00 ∷ 0x78 ∷ 0x24
    ∷ (guid ++ (0x11 ∷ 0x13 ∷ 0x51 ∷ 0x13 ∷ 0x01 ∷ 0x41 ∷ 0x07 ∷ 0x01 ∷ 0x8B ∷ 0x01 ∷ []))

pub put_entered : put_outcome store put hub 96 80 ≡ entered answer new_bytes
unfolding puts
put_entered = refl

-- an answer with the new store's buffer as it was is ruled out: it held the store before, and as many bytes behind it
store_left : (r : Applied) (out' : List ℕ) → Puts store put hub r (store ++ stored 2 7) (store ++ stored 2 7) answer out' → ⊥
unfolding store_after le
store_left r out' h =
    let z = ap (λ (l : List ℕ). le (take 8 (drop 39 l))) (h.1 ∙ ap (λ (o : Outcome). store_after o (store ++ stored 2 7)) put_entered) in
    let w : ◌≡◌ {A = ℕ} 7 8 = z in
    omega arith

-- and so is one that says that the answer is as long as the new store
lengths_exchanged : (new' out' : List ℕ) → Puts store put hub (applied.Entered 96 80) new_bytes new' answer out' → ⊥
unfolding applied_told le
lengths_exchanged new' out' h =
    let z = ap (λ (l : List ℕ). le (take 1 l)) (values_of _ _ (h.0 ∙ ap (λ (o : Outcome). tell_applied (applied_told o)) put_entered)) in
    let w : ◌≡◌ {A = ℕ} 96 80 = z in
    omega arith

-- an element that comes behind a header of four bytes enters behind one of two; the long one kept is ruled out
abbrev handed_long : List ℕ
handed_long = 0x0E ∷ 0x00 ∷ 0x26 ∷ 0x00 ∷ 0x0C ∷ (guid ++ (0x00 ∷ 0x0B ∷ 0x05 ∷ []))

pub header_shortest : store_after (put_outcome (packaged []) (handing_in handed_long) hub 50 80) [] ≡ packaged (stored 1 1)
unfolding puts store_after
header_shortest = refl

header_kept : store_after (put_outcome (packaged []) (handing_in handed_long) hub 52 80) [] ≡ packaged (0x0E ∷ 0x00 ∷ 0x56 ∷ 0x00 ∷ drop 2 (stored 1 1)) → ⊥
unfolding puts store_after
header_kept h = let z = ap (λ (l : List ℕ). le (take 1 (drop 3 l))) h in let w : ◌≡◌ {A = ℕ} 0x0C 0x0E = z in omega arith

-- a byte less
pub store_buffer_short : put_outcome store put hub 95 80 ≡ refused (too_short 96)
unfolding puts
store_buffer_short = refl

pub output_short : put_outcome store put hub 96 79 ≡ refused (too_short 80)
unfolding puts
output_short = refl

-- 15, where the store has a storage index, an element of type 1, and the put expects none
pub another_index : put_outcome (packaged (element 1 (0x07 ∷ 0x00 ∷ 0x00 ∷ 0x00 ∷ 0x00 ∷ 0x00 ∷ 0x00 ∷ 0x00 ∷ []) 0x03)) put hub 96 80 ≡ refused (fault_at 15 0)
unfolding puts
another_index = refl

-- 16, behind the serial number 2^64-1; "a put of nothing never meets it"
abbrev last_given : List ℕ
last_given = packaged (element 1 (0xFF ∷ 0xFF ∷ 0xFF ∷ 0xFF ∷ 0xFF ∷ 0xFF ∷ 0xFF ∷ 0xFF ∷ []) 0x0B)

pub no_number_left : put_outcome last_given put hub 96 80 ≡ refused (fault_at 16 0)
unfolding puts
no_number_left = refl

pub nothing_handed : store_after (put_outcome last_given (handing_in []) hub 96 1000) [] ≡ last_given
unfolding puts store_after
nothing_handed = refl
