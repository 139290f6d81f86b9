-- "An answer: one response message." Its parts in the order of document 01's answer bytes, a line for each, read with "17 in an answer
-- that is read" for the depth. Nothing may be absent. Padding is taken in every part (`answer_padding`).
-- Assumes nothing.
use Rattle.std.specs.Prelude.{◌≡◌, ℕ, ◌-◌, ◌%◌, Bool, true, List, [], ◌∷◌, length, ltb, eqb}
use Rattle.laws.specs.Pick.{pick}
use Rattle.numbers.specs.Refusals.{Told, gives, refuses, fault_at}
use Rattle.numbers.specs.Compact.{padding_taken}
use Rattle.numbers.specs.Results.ExtendedGuid.{ExtendedGuid}
use Rattle.numbers.specs.Results.ExtendedGuid as id
use Rattle.objects.specs.Types.{response_type, compound_bit, with_room, sub_response_type, changes_type, plain_bit}
use Rattle.objects.specs.Steps.{◌▹◌, nothing_open, place_of, value_of, valued, need, fixed_in, number, number_is, id_here, start_here, run_here, in_run, end_here, finish, on_field}
use Rattle.objects.specs.Results.Reading.{At, Reading, Refused}
use Rattle.objects.specs.Results.ReadingId.{ReadingId}
use Rattle.store.specs.Knowledge.{most_said, Knowing, knowledge_at}
use Rattle.store.specs.Store.{Walk, package_start, package_walk}
use Rattle.store.specs.declared.element.Strictness.{Strictness}
use Rattle.request.specs.Message.{versions, id_in, query_changes_request}
use Rattle.request.specs.Response.{answer_signature}
use Rattle.client.specs.declared.answer.Received.{Received}
use Rattle.client.specs.Results.ReadAnswer.{ReadAnswer}
use Rattle.client.specs.Results.ReadAnswer as answer

-- 1: "(an answer read: 16,842,752)"
abbrev pub longest_answer : ℕ
longest_answer = 16842752

-- padded numbers are taken in an answer that is read: another maker's hub may write them
abbrev pub answer_padding : Bool
answer_padding = padding_taken

-- its elements are judged as those of a store, so 11 is for ids only here, too; fourteen levels are left inside one (17 less 3)
abbrev pub answer_strictness : Strictness
answer_strictness = record { padding = answer_padding; levels = 14; serials = true }

-- ---- up to the elements

-- a status byte: 5 where its low bit says that a Response Error follows, which the layout does not have; the other bits are
-- ignored (D-67)
unfoldable pub status_byte : List ℕ → Reading → Reading
status_byte d c = c ▹ fixed_in d 1 0 255 5 ▹ λ b. b ▹ need (eqb (value_of b % 2) 0) 5 (place_of c)

-- "response start (length 1) and a zero byte"
unfoldable pub response_fields : List ℕ → Reading
response_fields d = At 0 0 ▹ status_byte d

-- "version .. minimum .. the signature of 000, 2.2.3; response start"
unfoldable pub response_start : List ℕ → Reading
response_start s = versions answer_signature s ▹ start_here answer_padding s nothing_open response_type compound_bit with_room ▹ in_run s response_fields

-- "package of the k elements", inside the response
abbrev pub package_in : List ℕ → Walk
package_in s = package_walk answer_strictness response_type s (response_start s)

-- where the elements begin
abbrev pub elements_start : List ℕ → Reading
elements_start s = package_start answer_padding response_type s (response_start s)

-- ---- from behind the package

-- "sub-response (id as asked, type 2, zero byte)"; the type is the caller's, 2 or, for a put, 5: the id is carried on
unfoldable pub sub_response_fields : ℕ → List ℕ → Reading
sub_response_fields kind d = At 0 0 ▹ number answer_padding d ▹ λ id. id ▹ number_is answer_padding d kind 8 ▹ status_byte d ▹ valued (value_of id)

unfoldable pub sub_response : ℕ → List ℕ → Reading → Reading
sub_response kind s c = c ▹ start_here answer_padding s response_type sub_response_type compound_bit with_room ▹ in_run s (sub_response_fields kind)

-- "0x5F with the extended GUID .. and the partial byte": the byte is carried on
abbrev pub index_field : List ℕ → ReadingId
index_field d = id_here d (At 0 0)

unfoldable pub changes_fields : List ℕ → Reading
changes_fields d = on_field (index_field d) ▹ fixed_in d 1 0 255 5

abbrev pub changes_start : List ℕ → Reading → Reading
changes_start s c = start_here answer_padding s sub_response_type changes_type plain_bit with_room c

unfoldable pub changes : List ℕ → Reading → Reading
changes s c = changes_start s c ▹ in_run s changes_fields

-- "knowledge": thirteen levels are left inside a specialized knowledge of another kind
unfoldable pub knowledge_in : List ℕ → Reading → Knowing
knowledge_in s c = knowledge_at answer_padding most_said 13 sub_response_type s [] c

-- on from behind it
abbrev pub behind_knowledge : List ℕ → Reading → Reading
behind_knowledge s c = (knowledge_in s c).last ▹ valued 0

-- "ends": "After the last end any byte is 5"
unfoldable pub ends_of : List ℕ → Reading → Reading
ends_of s c = c ▹ end_here s sub_response_type ▹ end_here s response_type ▹ finish s

-- ---- what the parts are, in an answer from behind its package at c

abbrev pub mark_at : List ℕ → Reading → Reading
mark_at s c = sub_response query_changes_request s c ▹ changes s

-- behind the knowledge
abbrev pub knowledge_end : List ℕ → Reading → Reading
knowledge_end s c = mark_at s c ▹ behind_knowledge s

-- the low bit of the partial byte is the mark; the other bits are ignored (D-67)
abbrev pub mark_of : ℕ → Bool
mark_of b = eqb (b % 2) 1

-- "the id, the mark, the storage index's id, the place and number of the elements, and the place and length of the knowledge"
unfoldable pub received_from : List ℕ → Reading → ℕ → ℕ → Received
received_from s c elements count =
    record {
      id = value_of (sub_response query_changes_request s c);
      partial = mark_of (value_of (mark_at s c));
      index = id_in (index_field (run_here s (changes_start s (sub_response query_changes_request s c))));
      elements = elements;
      count = count;
      knowledge = place_of (mark_at s c);
      length = place_of (knowledge_end s c) - place_of (mark_at s c);
    }

unfoldable pub rest_of : List ℕ → Reading → Reading
rest_of s c = knowledge_end s c ▹ ends_of s

-- ---- the whole

-- behind the package
abbrev pub package_end : List ℕ → Reading
package_end s = (package_in s).last ▹ valued 0

-- where reading ends: "An over-long input gives 1 before its other faults, the limit as its place"
unfoldable pub answer_end : List ℕ → Reading
answer_end s = pick (ltb longest_answer (length s)) (Refused (fault_at 1 longest_answer)) (rest_of s (package_end s))

unfoldable pub answer_on : Reading → Received → ReadAnswer
answer_on (At e v) x = answer.Is x
answer_on (Refused r) x = answer.Refused r

unfoldable pub answer_in : List ℕ → ReadAnswer
answer_in s =
    answer_on (answer_end s) (received_from s (package_end s) (place_of (elements_start s)) (length (package_in s).elements))

-- ---- what reading an answer tells

-- an extended GUID: whether there is one, its GUID as two little-endian numbers, its number
unfoldable pub id_numbers : ExtendedGuid → List ℕ
id_numbers id.Null = 0 ∷ 0 ∷ 0 ∷ 0 ∷ []
id_numbers (id.Named g x) = 1 ∷ g.low ∷ g.high ∷ x ∷ []

-- knowledge (place, length), id, mark, elements (place, number), storage index
unfoldable pub received_numbers : Received → List ℕ
received_numbers x =
    x.knowledge ∷ x.length ∷ x.id ∷ pick x.partial 1 0 ∷ x.elements ∷ x.count ∷ id_numbers x.index

abbrev pub tell_read_answer : ReadAnswer → Told
tell_read_answer (answer.Is x) = gives (received_numbers x)
tell_read_answer (answer.Refused r) = refuses r

-- what reading an answer promises
abbrev pub ReadsAnswer : List ℕ → ReadAnswer → Type 0
ReadsAnswer s r = tell_read_answer r ≡ tell_read_answer (answer_in s)
