-- "A request: one message with one Query Changes sub-request." Its parts in the order of 000, 2.2.2 and 2.2.2.1.3, a line for
-- each. "Constraint, filters, knowledge and package may be absent, nothing else": these begin with `next_is`. Padding is refused in every
-- part (`request_padding`). A put has the same front, up to the sub-request's fields.
-- Assumes nothing.
use Rattle.std.specs.Prelude.{◌≡◌, ℕ, ◌%◌, List, [], ◌∷◌, length, ltb, eqb, Ok}
use Rattle.laws.specs.Pick.{pick}
use Rattle.numbers.specs.Refusals.{Told, gives, refuses, longest_input, over_long}
use Rattle.numbers.specs.declared.refusal.Refusal.{Refusal}
use Rattle.numbers.specs.Results.ExtendedGuid.{ExtendedGuid}
use Rattle.numbers.specs.Results.ExtendedGuid as id
use Rattle.objects.specs.Types.{request_type, user_agent_type, compound_bit, with_room, sub_request_type, query_changes_type, plain_bit, arguments_type, constraint_type, knowledge_type, package_type}
use Rattle.objects.specs.Steps.{◌▹◌, nothing_open, place_of, value_of, valued, need, fixed_in, number, number_is, null_id, skip, start_here, start_of_length, in_run, inside, end_here, next_is, finish}
use Rattle.objects.specs.Results.Reading.{At, Reading, Refused}
use Rattle.objects.specs.Results.ReadingId.{ReadingId}
use Rattle.objects.specs.Results.ReadingId as id'
use Rattle.talk.specs.Ranges.{Normal}
use Rattle.ranges.specs.RangeTable.{ranges_at}
use Rattle.store.specs.Knowledge.{most_said, Knowing, knowing, knowledge_at}
use Rattle.store.specs.Results.ReadKnowledge.{ReadKnowledge}
use Rattle.store.specs.Results.ReadKnowledge as read
use Rattle.request.specs.Filter.{one_number, filters_from, request_padding}
use Rattle.request.specs.Meaning.{Filter, filters_read}
use Rattle.request.specs.Results.Request.{Request}
use Rattle.request.specs.Results.Request as request

-- "version at least 12, minimum version at most 12", and a signature: a request has its own, and so has an answer
unfoldable pub versions : ℕ → List ℕ → Reading
versions signature s = At 0 0 ▹ fixed_in s 2 12 0xFFFF 7 ▹ fixed_in s 2 0 12 7 ▹ fixed_in s 8 signature signature 7

-- the extended GUID that was read (null after a fault)
unfoldable pub id_in : ReadingId → ExtendedGuid
id_in (id'.At p x) = x
id_in (id'.Refused r) = id.Null

abbrev pub request_signature : ℕ
request_signature = 0x9B069439F329CF9C

-- "request start; user agent, contents only nested": fourteen levels are left inside these two
unfoldable pub user_agent : List ℕ → Reading → Reading
user_agent s c =
    c ▹ start_of_length request_padding s nothing_open request_type compound_bit with_room 0 ▹ start_of_length request_padding s request_type user_agent_type compound_bit with_room 0 ▹ inside request_padding s 14 user_agent_type

-- the request type (000, 2.2.1.6): of Query Changes, and of Put Changes
abbrev pub query_changes_request : ℕ
query_changes_request = 2

abbrev pub put_changes_request : ℕ
put_changes_request = 5

-- "sub-request (id, type 2, priority)"; the type is the caller's, 2 or, for a put, 5: the id is carried on
unfoldable pub sub_request_fields : ℕ → List ℕ → Reading
sub_request_fields kind d = At 0 0 ▹ number request_padding d ▹ λ id. id ▹ number_is request_padding d kind 8 ▹ number request_padding d ▹ valued (value_of id)

unfoldable pub sub_request : ℕ → List ℕ → Reading → Reading
sub_request kind s c = c ▹ start_here request_padding s request_type sub_request_type compound_bit with_room ▹ in_run s (sub_request_fields kind)

-- "0x51 with one byte, ignored"
unfoldable pub query_changes : List ℕ → Reading → Reading
query_changes s c = c ▹ start_of_length request_padding s sub_request_type query_changes_type plain_bit with_room 1 ▹ skip s 1

-- "arguments, whose two low flag bits must be set (the others are ignored) and whose cell ID must be two nulls"
unfoldable pub argument_fields : List ℕ → Reading
argument_fields d =
    At 0 0 ▹ fixed_in d 1 0 255 8 ▹ λ flags. flags ▹ need (eqb (value_of flags % 4) 3) 8 0 ▹ null_id d 8 ▹ null_id d 8

unfoldable pub arguments : List ℕ → Reading → Reading
arguments s c = c ▹ start_here request_padding s sub_request_type arguments_type plain_bit with_room ▹ in_run s argument_fields

-- "at most one constraint (absent: 2^64-1 bytes)": the limit is carried on
unfoldable pub constraint : List ℕ → Reading → Reading
constraint s c =
    pick (next_is s constraint_type c) (c ▹ start_here request_padding s sub_request_type constraint_type plain_bit with_room ▹ in_run s one_number) (c ▹ valued 0xFFFFFFFFFFFFFFFF)

-- "knowledge": into the working table; twelve levels are left inside a specialized knowledge of another kind
unfoldable pub knowledge_part : List ℕ → List ℕ → Reading → Knowing
knowledge_part s t c = pick (next_is s knowledge_type c) (knowledge_at request_padding most_said 12 sub_request_type s t c) (knowing [] t most_said c)

-- "package, passed over": fourteen levels are left inside it
unfoldable pub package_part : List ℕ → Reading → Reading
package_part s c = pick (next_is s package_type c) (c ▹ start_of_length request_padding s request_type package_type compound_bit with_room 1 ▹ skip s 1 ▹ inside request_padding s 14 package_type) c

-- ---- the whole

-- up to the fields of a sub-request of this type; the number is the id
unfoldable pub identified : ℕ → List ℕ → Reading
identified kind s = versions request_signature s ▹ user_agent s ▹ sub_request kind s

-- from there to the constraint; the number is the limit, and the filters stand here
unfoldable pub constrained_from : List ℕ → Reading → Reading
constrained_from s c = c ▹ query_changes s ▹ arguments s ▹ constraint s

abbrev pub constrained : List ℕ → Reading
constrained s = identified query_changes_request s ▹ constrained_from s

-- "filters"; the number is how many
abbrev pub filtered : List ℕ → Reading
filtered s = constrained s ▹ filters_from 16 s

-- the filters of the request
abbrev pub filters_of : List ℕ → List Filter
filters_of s = filters_read (value_of (filtered s)) s (constrained s)

-- "knowledge; ends; package, passed over": "After the last end any byte is 5"
unfoldable pub request_end : List ℕ → Reading → Reading
request_end s c = c ▹ end_here s sub_request_type ▹ package_part s ▹ end_here s request_type ▹ finish s

-- "An over-long input gives 1 before its other faults": then nothing is known; else what the knowledge tells
unfoldable pub request_knowing : List ℕ → List ℕ → Knowing
request_knowing s t = pick (ltb longest_input (length s)) (knowing [] t most_said (Refused over_long)) (knowledge_part s t (filtered s))

-- ---- what reading answers: a fault of the request is one of the second input

abbrev pub in_request : Refusal → Refusal
in_request r = record { number = r.number; input = 1; place = r.place; needed = r.needed }

-- the id, the limit, where the filters stand, how many they are, and how many ranges are known
unfoldable pub request_answer : Reading → ℕ → ℕ → ℕ → ℕ → ℕ → Request
request_answer (At e v) id limit place count rows = request.Asked id limit place count rows
request_answer (Refused r) id limit place count rows = request.Refused (in_request r)

unfoldable pub request_in : List ℕ → List ℕ → Request
request_in s t =
    request_answer (request_end s (request_knowing s t).last) (value_of (identified query_changes_request s)) (value_of (constrained s)) (place_of (constrained s))
    (value_of (filtered s)) (length (request_knowing s t).ranges)

-- what reading promises: the answer, and the table at exit, whose first rows are the ranges, in normal form
abbrev pub ReadsRequest : List ℕ → List ℕ → Request → List ℕ → Type 0
ReadsRequest s t r exit =
    (r ≡ request_in s t)
    × (exit ≡ (request_knowing s t).table)
    × (ranges_at exit 0 (length (request_knowing s t).ranges) ≡ (request_knowing s t).ranges)
    × Normal (request_knowing s t).ranges

abbrev pub tell_request : Request → Told
tell_request (Ok x) = gives (x.id ∷ x.limit ∷ x.place ∷ x.count ∷ x.known ∷ [])
tell_request (request.Refused r) = refuses r

-- ---- as the code goes on from a knowledge that was read: behind it, and with the number of its ranges

unfoldable pub on_knowledge : ReadKnowledge → Reading
on_knowledge (read.Holds e n) = At e 0
on_knowledge (read.Refused r) = Refused r

unfoldable pub rows_known : ReadKnowledge → ℕ
rows_known (read.Holds e n) = n
rows_known (read.Refused r) = 0
