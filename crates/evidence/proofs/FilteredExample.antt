-- Filters that are read and set elements out or in, computed by the prover over bytes: the three elements of `Example`, asked for with
-- filters of each kind that document 01 takes, "All (1), Data Element Type (2), Data Element IDs (6)". A hub that refused every filter, or
-- passed over them, would not give these answers. The filters stand here byte by byte; requests, answers and what a bench reads in them
-- are computed by the definitions that the calls' promises name. A reader needs the filters and the statements marked `pub`, and can skip
-- the part 'what the prover looks through', which only lists names.
-- Assumes nothing.
use mathlib.Core.Path.{◌≡◌, refl}
use mathlib.Core.Bool.{true, false}
use mathlib.Core.List.{List, [], ◌∷◌, ◌++◌, map}
use Prim.Native.Nat.{ℕ, ◌+◌, ◌*◌}
use native.Mathlib.Omega.{arith}
use Rattle.objects.specs.Results.Reading.{At}
use Rattle.talk.specs.Series.{Chain}
use Rattle.talk.specs.Series.Chain.{done, next}
use Rattle.talk.specs.declared.range.Range.{Range}
use Rattle.store.specs.KnowledgeWritten.{knowledge_bytes}
use Rattle.store.specs.declared.element.Key.{Key}
use Rattle.request.specs.Filter.{kind_taken, filter_fields, type_part, ids_from, ids_field, ids_part, kind_part, filter_opened, filter_at}
use Rattle.request.specs.Meaning.{Filter, key_in, keys_from, keys_in, filter_read, matches, set_by}
use Rattle.request.specs.Message.{filters_of, request_in}
use Rattle.request.specs.Results.Request.{Asked}
use Rattle.pages.specs.Answer.{Outcome, answered, outcome}
use Rattle.client.specs.Ask.{filters_given}
use Rattle.evidence.specs.Bench.{filters_in, knows_by, BenchTalk}
use Rattle.order.specs.Groups.{single}
use Rattle.evidence.specs.Talk.{wanted_of, ranges_in}
use Rattle.evidence.proofs.Example.{knowledges, exporting, element, three, key, stored, asking_with, numbers_to, range_written, known_ranges, known, answer_telling, answer_to, received, sent_back, answers_from, answers_with, pages_of, first, second, third, all_three, page, page_in, returned, TurnWith, turn_with, bench_talk_with}

-- ---- what the prover looks through: a definition computes where it is named, and to name this one is to name all of its line

unfoldable pub filtering : Unit {0}
unfolding exporting kind_taken filter_fields type_part ids_from ids_field ids_part kind_part filter_opened filter_at key_in keys_from keys_in filter_read matches set_by
filtering = tt

-- ---- the filters

-- each is a start (type 0x47, compound, 2 bytes), its kind, its operation (0 sets out, 1 sets in), the kind's own object, and an end.
-- Of kind All (1): no object of its own
abbrev pub all_filter : ℕ → List ℕ
all_filter operation = 0x3E ∷ 0x02 ∷ 0x04 ∷ 0x00 ∷ 0x01 ∷ operation ∷ 0x1F ∷ 0x01 ∷ []

-- of kind Data Element Type (2): a start (type 0x57, 1 byte) and the type
abbrev pub type_filter : ℕ → ℕ → List ℕ
type_filter operation type = 0x3E ∷ 0x02 ∷ 0x04 ∷ 0x00 ∷ 0x02 ∷ operation ∷ 0xBA ∷ 0x02 ∷ 0x02 ∷ 0x00 ∷ (type * 2 + 1) ∷ 0x1F ∷ 0x01 ∷ []

-- of kind Data Element IDs (6): a start (type 0x54, 18 bytes), the count, which is 1, and one id, as it stands in an element
abbrev pub id_filter : ℕ → ℕ → List ℕ
id_filter operation id =
    0x3E ∷ 0x02 ∷ 0x04 ∷ 0x00 ∷ 0x06 ∷ operation ∷ 0xA2 ∷ 0x02 ∷ 0x24 ∷ 0x00 ∷ 0x03
    ∷ (id * 8 + 4) ∷ 0x01 ∷ 0x02 ∷ 0x03 ∷ 0x04 ∷ 0x05 ∷ 0x06 ∷ 0x07 ∷ 0x08 ∷ 0x09 ∷ 0x0A ∷ 0x0B ∷ 0x0C ∷ 0x0D ∷ 0x0E ∷ 0x0F ∷ 0x10 ∷ 0x1F ∷ 0x01 ∷ []

-- the element with id 2 set out; those of type 5, which are all of the three, set out; all set out, and then the one with id 2 set in; and
-- the one with id 2 set out, and then those of type 5 set in
abbrev pub second_out : List ℕ
second_out = id_filter 0 2

abbrev pub type_out : List ℕ
type_out = type_filter 0 5

abbrev pub second_only : List ℕ
second_only = all_filter 0 ++ id_filter 1 2

abbrev pub in_again : List ℕ
in_again = id_filter 0 2 ++ type_filter 1 5

-- handed in for a request they are read to their end, and are so many
pub filters_given_lem :
    (filters_given second_out ≡ At 30 1)
    × (filters_given type_out ≡ At 13 1)
    × (filters_given second_only ≡ At 38 2)
    × (filters_given in_again ≡ At 43 2)
unfolding filtering
filters_given_lem = (refl, refl, refl, refl)

-- a request with them is read: its id is 1 and its limit 46, the filters stand behind the constraint, are so many, and no range is known
pub filters_asked :
    (request_in (asking_with second_out 46 []) [] ≡ Asked 1 46 46 1 0)
    × (request_in (asking_with type_out 46 []) [] ≡ Asked 1 46 46 1 0)
    × (request_in (asking_with second_only 46 []) [] ≡ Asked 1 46 46 2 0)
    × (request_in (asking_with in_again 46 []) [] ≡ Asked 1 46 46 2 0)
unfolding filtering
filters_asked = (refl, refl, refl, refl)

-- what they say, as it is read in the request: the kind, the operation, the type (0 in a filter of another kind) and the ids
abbrev pub filter : ℕ → ℕ → ℕ → List Key → Filter
filter kind operation type ids = record { kind = kind; operation = operation; type = type; ids = ids }

pub filters_say :
    (filters_of (asking_with second_out 46 []) ≡ filter 6 0 0 (key 2 ∷ []) ∷ [])
    × (filters_of (asking_with type_out 46 []) ≡ filter 2 0 5 [] ∷ [])
    × (filters_of (asking_with second_only 46 []) ≡ filter 1 0 0 [] ∷ filter 6 1 0 (key 2 ∷ []) ∷ [])
    × (filters_of (asking_with in_again 46 []) ≡ filter 6 0 0 (key 2 ∷ []) ∷ filter 2 1 5 [] ∷ [])
unfolding filtering
filters_say = (refl, refl, refl, refl)

-- ---- which elements are wanted, each a group by itself

-- "Wanted = filters leave it in, and the knowledge lacks its serial number". With nothing known: the elements 1 and 3, where the one with id
-- 2 is set out; none, where those of type 5 are; the one with id 2 alone, where all are set out and it is set in; all three, where it is set
-- out and those of type 5 are set in. With 7 known and the one with id 2 set out: the third alone
pub filters_leave :
    (wanted_of three (filters_in second_out) (knows_by []) ≡ single (stored 3 1 7) ∷ single (stored 95 3 9) ∷ [])
    × (wanted_of three (filters_in type_out) (knows_by []) ≡ [])
    × (wanted_of three (filters_in second_only) (knows_by []) ≡ single (stored 49 2 8) ∷ [])
    × (wanted_of three (filters_in in_again) (knows_by []) ≡ single (stored 3 1 7) ∷ single (stored 49 2 8) ∷ single (stored 95 3 9) ∷ [])
    × (wanted_of three (filters_in second_out) (knows_by (known 7)) ≡ single (stored 95 3 9) ∷ [])
unfolding filtering
filters_leave = (refl, refl, refl, refl, refl)

-- ---- the answers

-- a knowledge of 7 and 9, which are two ranges: 8 stands in neither; one of 8 alone; and an empty one
abbrev pub seven_and_nine : List ℕ
seven_and_nine = known_ranges (range_written 7 7 ++ range_written 9 9)

abbrev pub eight_only : List ℕ
eight_only = known_ranges (range_written 8 8)

abbrev pub nothing_known : List ℕ
nothing_known = 0x84 ∷ 0x00 ∷ 0x41 ∷ []

pub knowledge_written :
    (seven_and_nine ≡ knowledge_bytes (numbers_to 7 7 ∷ numbers_to 9 9 ∷ []))
    × (eight_only ≡ knowledge_bytes (numbers_to 8 8 ∷ []))
    × (nothing_known ≡ knowledge_bytes [])
unfolding knowledges
knowledge_written = (refl, refl, refl)

-- as a set it has 7 and 9, and lacks 8, which was not sent
pub eight_unknown : map (knows_by seven_and_nine) (key 7 ∷ key 8 ∷ key 9 ∷ []) ≡ true ∷ false ∷ true ∷ []
unfolding filtering
eight_unknown = refl

-- the answers with the elements 1 and 3, one by one or together; with no element; and with the second alone
abbrev pub first_sent : List ℕ
first_sent = answer_telling (element 1 7) 1 (known 7)

abbrev pub third_sent : List ℕ
third_sent = answer_telling (element 3 9) 0 seven_and_nine

abbrev pub both_sent : List ℕ
both_sent = answer_telling (element 1 7 ++ element 3 9) 0 seven_and_nine

abbrev pub none_sent : List ℕ
none_sent = answer_telling [] 0 nothing_known

abbrev pub second_sent : List ℕ
second_sent = answer_telling (element 2 8) 0 eight_only

-- what is answered in 1,000 bytes: these bytes, the store's three elements, and the ranges of the knowledge
abbrev pub answered_with : List ℕ → List Range → Outcome
answered_with w ranges = answered w (stored 3 1 7 ∷ stored 49 2 8 ∷ stored 95 3 9 ∷ []) ranges

-- with the element of id 2 set out: under limit 46 the first, and then, asked again with its knowledge, the third; under limit 92, which the
-- two elements' lengths sum to, both. After the third the knowledge is {7, 9}, as two ranges
pub second_set_out :
    (outcome three (asking_with second_out 46 []) 1000 ≡ answered_with first_sent (numbers_to 7 7 ∷ []))
    × (outcome three (asking_with second_out 46 (known 7)) 1000 ≡ answered_with third_sent (numbers_to 7 7 ∷ numbers_to 9 9 ∷ []))
    × (outcome three (asking_with second_out 92 []) 1000 ≡ answered_with both_sent (numbers_to 7 7 ∷ numbers_to 9 9 ∷ []))
unfolding filtering
second_set_out = (refl, refl, refl)

-- with the elements of type 5 set out nothing is wanted: one answer with no element, and an empty knowledge
pub type_set_out : outcome three (asking_with type_out 46 []) 1000 ≡ answered_with none_sent []
unfolding filtering
type_set_out = refl

-- "Each filter in turn": all set out and the one with id 2 set in, it comes alone; it is set out and those of type 5 set in, all three come
pub each_in_turn :
    (outcome three (asking_with second_only 138 []) 1000 ≡ answered_with second_sent (numbers_to 8 8 ∷ []))
    × (outcome three (asking_with in_again 138 []) 1000 ≡ answered_with all_three (numbers_to 7 9 ∷ []))
unfolding filtering
each_in_turn = (refl, refl)

-- ---- whole talks: "The client asks again with the last answer's knowledge", until an answer is unmarked

-- how many elements the answers have: with the element of id 2 set out, limit 46 or 91 gives pages 1, 1, and 92 gives 2; with those of type
-- 5 set out there is one answer, with none; the others give 1, and 1, 1, 1 or 3
pub filtered_pages :
    (pages_of (answers_with second_out 46) ≡ 1 ∷ 1 ∷ [])
    × (pages_of (answers_with second_out 91) ≡ 1 ∷ 1 ∷ [])
    × (pages_of (answers_with second_out 92) ≡ 2 ∷ [])
    × (pages_of (answers_with type_out 46) ≡ 0 ∷ [])
    × (pages_of (answers_with second_only 46) ≡ 1 ∷ [])
    × (pages_of (answers_with in_again 46) ≡ 1 ∷ 1 ∷ 1 ∷ [])
    × (pages_of (answers_with in_again 138) ≡ 3 ∷ [])
unfolding filtering answer_to received sent_back answers_from
filtered_pages = (refl, refl, refl, refl, refl, refl, refl)

-- and each answer in all of its bytes
pub filtered_answers :
    (answers_with second_out 46 ≡ first_sent ∷ third_sent ∷ [])
    × (answers_with second_out 91 ≡ first_sent ∷ third_sent ∷ [])
    × (answers_with second_out 92 ≡ both_sent ∷ [])
    × (answers_with type_out 46 ≡ none_sent ∷ [])
    × (answers_with second_only 46 ≡ second_sent ∷ [])
    × (answers_with in_again 46 ≡ first ∷ second ∷ third ∷ [])
    × (answers_with in_again 138 ≡ all_three ∷ [])
unfolding filtering answer_to received sent_back answers_from
filtered_answers = (refl, refl, refl, refl, refl, refl, refl)

-- what a bench reads in them: the serial numbers of the elements, the mark, and the length. 7 and 9, of one rank, come in store order, each once, and 8
-- does not; all but the last answer are marked
pub filtered_answers_read :
    (map page_in (first_sent ∷ third_sent ∷ []) ≡ page (7 ∷ []) true 132 ∷ page (9 ∷ []) false 152 ∷ [])
    × (map page_in (both_sent ∷ []) ≡ page (7 ∷ 9 ∷ []) false 198 ∷ [])
    × (map page_in (none_sent ∷ []) ≡ page [] false 41 ∷ [])
    × (map page_in (second_sent ∷ []) ≡ page (8 ∷ []) false 132 ∷ [])
unfolding filtering received
filtered_answers_read = (refl, refl, refl, refl)

-- and the ranges of their knowledge
pub filtered_knowledge_read :
    (map ranges_in (first_sent ∷ third_sent ∷ []) ≡ (numbers_to 7 7 ∷ []) ∷ (numbers_to 7 7 ∷ numbers_to 9 9 ∷ []) ∷ [])
    × (map ranges_in (both_sent ∷ []) ≡ (numbers_to 7 7 ∷ numbers_to 9 9 ∷ []) ∷ [])
    × (map ranges_in (none_sent ∷ []) ≡ [] ∷ [])
    × (map ranges_in (second_sent ∷ []) ≡ (numbers_to 8 8 ∷ []) ∷ [])
unfolding filtering
filtered_knowledge_read = (refl, refl, refl, refl)

-- ---- the same talks by the exported calls alone

-- the answers of a talk with some filters under a limit, from no knowledge to that one
abbrev pub TalkWith : List ℕ → ℕ → List (List ℕ) → List ℕ → Type 0
TalkWith filters limit answers knowledge = Chain (TurnWith filters limit) [] answers knowledge

-- a bench gets these answers by hub_ask, which takes the filters, hub_length, hub_write and hub_read, handing on the knowledge that it
-- read; after the first two talks this lacks 8, which was not sent
pub filtered_bench_talks :
    TalkWith second_out 46 (first_sent ∷ third_sent ∷ []) seven_and_nine
    × TalkWith second_out 92 (both_sent ∷ []) seven_and_nine
    × TalkWith type_out 46 (none_sent ∷ []) nothing_known
    × TalkWith second_only 138 (second_sent ∷ []) eight_only
    × TalkWith in_again 138 (all_three ∷ []) (known 9)
unfolding filtering returned
filtered_bench_talks = (
  next (turn_with second_out 46 [] first_sent (known 7) (omega arith) refl) (next (turn_with second_out 46 (known 7) third_sent seven_and_nine (omega arith) refl) done),
  next (turn_with second_out 92 [] both_sent seven_and_nine (omega arith) refl) done,
  next (turn_with type_out 46 [] none_sent nothing_known (omega arith) refl) done,
  next (turn_with second_only 138 [] second_sent eight_only (omega arith) refl) done,
  next (turn_with in_again 138 [] all_three (known 9) (omega arith) refl) done,
)

-- so these are talks of a bench as the demands have it: the demands are not about talks without filters only
pub filtered_bench_talk : BenchTalk three second_out [] (first_sent ∷ third_sent ∷ []) seven_and_nine
filtered_bench_talk = bench_talk_with filtered_bench_talks.0
