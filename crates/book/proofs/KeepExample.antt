-- An answer kept in a book, over bytes, computed by the prover: a book with two elements (ids 1 and 3, serial numbers 7 and 5, type 5, nothing
-- inside: document 01's, of 46 bytes), and an answer, not marked, with the ids 2 and 1 and the serial numbers 9 and 8. The element 1 is replaced
-- in its place, 3 stays, and 2 follows. In a byte less the buffer is refused with the length that is needed. And wrong answers that the
-- promise rules out. So the laws of AfterKeep are not about nothing.
-- Assumes nothing.
use mathlib.Core.Path.{◌≡◌, refl, ap, ◌∙◌}
use mathlib.Core.List.{List, [], ◌∷◌, ◌++◌}
use Prim.Native.Nat.{ℕ, ◌+◌, ◌*◌}
use native.Mathlib.Omega.{arith}
use lib.Count.{count_trailing_zeros}
use lib.ListN.{take, drop}
use Rattle.laws.specs.Bytes.{le}
use Rattle.laws.specs.Loop.{turns, iterate}
use Rattle.laws.specs.Once.{seen}
use Rattle.numbers.specs.Compact.{size_of, read_form, compact_for, read_compact, compact_value}
use Rattle.numbers.specs.ExtendedGuid.{read_extended_guid, form_of_id, short_form, named_of}
use Rattle.numbers.specs.Guid.{guid_at}
use Rattle.numbers.specs.Refusals.{Told, too_short, fault_at}
use Rattle.numbers.specs.Serial.{read_serial, numbered}
use Rattle.numbers.proofs.OneAnswers.{values_of}
use Rattle.objects.specs.Header as header
use Rattle.objects.specs.Header.{start_bytes, long_start, end_bytes, start_number, start_of, end_of, header_of, header_at, length_at}
use Rattle.objects.specs.Nesting.{run_at, object_at}
use Rattle.objects.specs.Steps.{place_of, value_of, valued, need, number, number_is, fixed_in, skip, start_here, length_is, start_of_length, run_here, closed_at, inside, end_here, next_is, finish, id_here, serial_here, on_field}
use Rattle.laws.specs.Bytes as written
use Rattle.store.specs.Element.{same_key, named_key, numbered_key, fresh_key, key_here, id_field, serial_field, fields_of, data_of, element_on, element_at}
use Rattle.store.specs.Held.{stored_bytes}
use Rattle.store.specs.Knowledge.{knowledge_turn, to_go, knowledge_from, knowledge_at}
use Rattle.store.specs.Store.{package_start, walk_from, store_walk}
use Rattle.store.specs.Written.{package_front}
use Rattle.request.specs.Message.{versions, id_in, in_request}
use Rattle.enter.specs.Entering.{replaced_by, new_to, enter}
use Rattle.enter.specs.Package.{kept_in, joined, packed}
use Rattle.client.specs.Read.{status_byte, response_fields, response_start, sub_response_fields, sub_response, changes_fields, changes, knowledge_in, ends_of, rest_of, answer_end}
use Rattle.book.specs.Keep.{Outcome, refused, kept, kept_elements, sized, counted, on_answer, on_book, keep_outcome, tell_keeping, keep_told, book_after, KeepsAnswer}
use Rattle.book.specs.Results.Keeping.{Keeping}
use Rattle.book.specs.Results.Keeping as keeping

-- ---- what the prover looks through: a definition computes where it is named, and to name this one is to name all of its line

keeps : Unit {0}
unfolding le written.bytes turns iterate count_trailing_zeros size_of read_form compact_for read_compact compact_value read_extended_guid form_of_id short_form named_of guid_at read_serial numbered start_bytes long_start end_bytes start_number start_of end_of header.sized header_of header_at length_at run_at object_at place_of value_of valued need number number_is fixed_in skip start_here length_is start_of_length run_here closed_at inside end_here next_is finish id_here on_field serial_here seen same_key named_key numbered_key fresh_key key_here id_field serial_field fields_of data_of element_on element_at stored_bytes knowledge_turn to_go knowledge_from knowledge_at package_start walk_from store_walk package_front versions id_in replaced_by new_to enter kept_in joined packed status_byte response_fields response_start sub_response_fields sub_response changes_fields changes knowledge_in ends_of rest_of answer_end kept_elements sized counted on_answer on_book keep_outcome
keeps = tt

-- ---- the book, the answer, and what comes of them

-- the GUID 01 02 .. 10, of ids and serial numbers
abbrev guid : List ℕ
guid = 0x01 ∷ 0x02 ∷ 0x03 ∷ 0x04 ∷ 0x05 ∷ 0x06 ∷ 0x07 ∷ 0x08 ∷ 0x09 ∷ 0x0A ∷ 0x0B ∷ 0x0C ∷ 0x0D ∷ 0x0E ∷ 0x0F ∷ 0x10 ∷ []

-- an element with a 5-bit id and a serial number of one byte, of type 5, with nothing inside
abbrev stored : ℕ → ℕ → List ℕ
stored id serial =
    0x0C ∷ 0x56 ∷ (id * 8 + 4) ∷ (guid ++ (0x80 ∷ (guid ++ (serial ∷ 0x00 ∷ 0x00 ∷ 0x00 ∷ 0x00 ∷ 0x00 ∷ 0x00 ∷ 0x00 ∷ 0x0B ∷ 0x05 ∷ []))))

abbrev packaged : List ℕ → List ℕ
packaged elements = 0xAC ∷ 0x02 ∷ 0x00 ∷ (elements ++ (0x55 ∷ []))

abbrev pub book : List ℕ
book = packaged (stored 1 7 ++ stored 3 5)

-- versions and signature; response and its zero byte; the package; sub-response (id 1, type 2, zero byte); 0x5F with no storage index and no
-- mark; a knowledge of nothing; ends
abbrev pub answer : List ℕ
answer =
    0x0C ∷ 0x00 ∷ 0x0B ∷ 0x00 ∷ 0x9D ∷ 0xCF ∷ 0x29 ∷ 0xF3 ∷ 0x39 ∷ 0x94 ∷ 0x06 ∷ 0x9B ∷ 0x16 ∷ 0x03 ∷ 0x02 ∷ 0x00 ∷ 0x00
    ∷ (packaged (stored 2 9 ++ stored 1 8)
    ++ (0x0E ∷ 0x02 ∷ 0x06 ∷ 0x00 ∷ 0x03 ∷ 0x05 ∷ 0x00 ∷ 0xFA ∷ 0x02 ∷ 0x04 ∷ 0x00 ∷ 0x00 ∷ 0x00 ∷ 0x84 ∷ 0x00 ∷ 0x41 ∷ 0x07 ∷ 0x01 ∷ 0x8B ∷ 0x01 ∷ []))

abbrev pub new_book : List ℕ
new_book = packaged (stored 1 8 ++ (stored 3 5 ++ stored 2 9))

pub answer_kept : keep_outcome book answer 142 ≡ kept new_book
unfolding keeps
answer_kept = refl

-- a byte less
pub buffer_short : keep_outcome book answer 141 ≡ refused (too_short 142)
unfolding keeps
buffer_short = refl

-- ---- wrong answers, where the buffer held something else

-- the buffer left as it was
buffer_left : (r : Keeping) → KeepsAnswer book answer r (packaged (stored 1 7 ++ (stored 3 5 ++ stored 2 9))) (packaged (stored 1 7 ++ (stored 3 5 ++ stored 2 9))) → ⊥
unfolding book_after le
buffer_left r h =
    let z = ap (λ (l : List ℕ). le (take 1 (drop 39 l))) (h.1 ∙ ap (λ (o : Outcome). book_after o (packaged (stored 1 7 ++ (stored 3 5 ++ stored 2 9)))) answer_kept) in
    let w : ◌≡◌ {A = ℕ} 7 8 = z in
    omega arith

-- the old bytes under an id that came
old_bytes_left : (r : Keeping) → KeepsAnswer book answer r new_book (packaged (stored 1 7 ++ (stored 3 5 ++ stored 2 9))) → ⊥
unfolding book_after le
old_bytes_left r h =
    let z = ap (λ (l : List ℕ). le (take 1 (drop 39 l))) (h.1 ∙ ap (λ (o : Outcome). book_after o new_book) answer_kept) in
    let w : ◌≡◌ {A = ℕ} 7 8 = z in
    omega arith

-- the last element dropped: a book of 96 bytes
last_dropped : (new' : List ℕ) → KeepsAnswer book answer (keeping.Book 96) new_book new' → ⊥
unfolding keep_told le
last_dropped new' h =
    let z = ap (λ (l : List ℕ). le (take 1 l)) (values_of _ _ (h.0 ∙ ap (λ (o : Outcome). tell_keeping (keep_told o)) answer_kept)) in
    let w : ◌≡◌ {A = ℕ} 96 142 = z in
    omega arith

-- ---- of no book and no answer: the book's fault comes first, and a buffer that is lent stays as it was

answer_first : (new' : List ℕ) → KeepsAnswer [] [] (keeping.Refused (in_request (fault_at 2 0))) [] new' → ⊥
unfolding keeps keep_told
answer_first new' h = let z : ◌≡◌ {A = ℕ} 1 0 = ap (λ (t : Told). t.input) h.0 in omega arith

book_cleared : (r : Keeping) → KeepsAnswer [] [] r (7 ∷ []) (0 ∷ []) → ⊥
unfolding keeps book_after
book_cleared r h = let z : ◌≡◌ {A = ℕ} 0 7 = ap (λ (l : List ℕ). le (take 1 l)) h.1 in omega arith
