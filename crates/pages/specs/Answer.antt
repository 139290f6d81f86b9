-- What the answering calls decide, for store bytes, request bytes and an output length: the refusal, or the answer's bytes with
-- the store's elements and the ranges of its knowledge. "Order: 13; the store's faults; the request's; then 9 for a page; then 14."
-- And what each call then promises (document 02, Q-6): "one call decides the page for an output length offered and reports its exact
-- byte length, a second writes it. The second trusts nothing and decides again. Both fill the tables as the old call did".
-- Assumes nothing.
use Rattle.std.specs.Prelude.{◌≡◌, ℕ, ◌*◌, List, [], ◌∷◌, ◌++◌, length, take, drop, ltb, Ok, Err}
use Rattle.laws.specs.Pick.{pick}
use Rattle.numbers.specs.Refusals.{Told, gives, refuses, fault_at, refusal_number}
use Rattle.numbers.specs.declared.refusal.Refusal.{Refusal}
use Rattle.objects.specs.Results.Reading.{Reading}
use Rattle.objects.specs.Results.Reading as reading
use Rattle.talk.specs.declared.range.Range.{Range}
use Rattle.ranges.specs.RangeTable.{range_width}
use Rattle.store.specs.KnowledgeWritten.{range_guid}
use Rattle.store.specs.Store.{store_walk}
use Rattle.order.specs.Order.{ordered, ranked_rows, ranked_width, ranked_numbers}
use Rattle.order.specs.Groups.{Group, members_of, firsts, stored_length}
use Rattle.store.specs.Held.{ranges_with, storage_index}
use Rattle.store.specs.declared.element.Element.{Element}
use Rattle.request.specs.Message.{filters_of, request_knowing, request_in}
use Rattle.request.specs.Results.Request.{Request}
use Rattle.request.specs.Results.Request as request
use Rattle.pages.specs.Choice.{wanted_in}
use Rattle.pages.specs.Decision.{Measure, most_carried, decision, unsent_refusal}
use Rattle.pages.specs.Written.{answer_bytes}
use Rattle.pages.specs.Results.Decided.{Decided}
use Rattle.pages.specs.Results.Answered.{Answered}
use Rattle.pages.specs.Results.Answered as answer

pub data Outcome : Type 0 where
  refused : Refusal → Outcome
  answered : List ℕ → List Element → List Range → Outcome

-- the refusal's number: 0 where nothing is refused
unfoldable pub number_in : Outcome → ℕ
number_in (refused r) = refusal_number r
number_in (answered w all l) = 0

-- ---- one page

-- what an answer is made of: the store's bytes and elements, the request's id, how many ranges a page may carry, the request's limit
-- and ranges, and the wanted groups
pub record Ask : Type 0 where
  pub store : List ℕ
  pub elements : List Element
  pub id : ℕ
  pub most : ℕ
  pub limit : ℕ
  pub known : List Range
  pub wanted : List Group

-- a group "counts as one in the page rule" (document 02, Q-3): the page of the first j wanted is of j groups. Its knowledge: a group adds one
-- serial number
unfoldable pub page_ranges : Ask → ℕ → List Range
page_ranges a j = ranges_with a.known (firsts (take j a.wanted))

-- its answer: "A group goes out whole"
unfoldable pub page_bytes : Ask → ℕ → List ℕ
page_bytes a j =
    answer_bytes a.store a.id (storage_index a.elements) (members_of (take j a.wanted)) (ltb j (length a.wanted)) (page_ranges a j)

-- what it asks: its length is the length of the bytes written for it
unfoldable pub page_measure : Ask → Measure
page_measure a =
    record {
      stored = λ j. stored_length (members_of (take j a.wanted));
      ranges = λ j. length (page_ranges a j);
      whole = λ j. length (page_bytes a j);
    }

unfoldable pub on_decided : Ask → Decided → Outcome
on_decided a (Ok x) = answered (page_bytes a x.count) a.elements (page_ranges a x.count)
on_decided a (Err e) = refused (unsent_refusal e)

unfoldable pub page_decided : Ask → ℕ → Decided
page_decided a room = decision a.most a.limit room (page_measure a) (length a.wanted)

unfoldable pub page_outcome : Ask → ℕ → Outcome
page_outcome a room = on_decided a (page_decided a room)

-- ---- the request's faults, then the page. What is known does not depend on the working table that the request is read into:
-- here it is empty

abbrev pub known_in : List ℕ → List Range
known_in q = (request_knowing q []).ranges

-- with pages of so many ranges at most
abbrev pub ask_for : ℕ → List ℕ → List Element → List ℕ → ℕ → ℕ → Ask
ask_for most s all q id limit =
    record {
      store = s;
      elements = all;
      id = id;
      most = most;
      limit = limit;
      known = known_in q;
      wanted = wanted_in (filters_of q) (known_in q) all;
    }

abbrev pub ask_of : List ℕ → List Element → List ℕ → ℕ → ℕ → Ask
ask_of s all q id limit = ask_for most_carried s all q id limit

unfoldable pub on_request : List ℕ → List Element → List ℕ → ℕ → Request → Outcome
on_request s all q room (Ok x) = page_outcome (ask_of s all q x.id x.limit) room
on_request s all q room (request.Refused r) = refused r

-- ---- the store's faults, then the request's

unfoldable pub on_store : List ℕ → List Element → List ℕ → ℕ → Reading → Outcome
on_store s all q room (reading.At e v) = on_request s all q room (request_in q [])
on_store s all q room (reading.Refused r) = refused r

unfoldable pub outcome : List ℕ → List ℕ → ℕ → Outcome
outcome s q room = on_store s (store_walk s).elements q room (store_walk s).last

-- "knowledge table under 2,048"
abbrev pub knowledge_numbers : ℕ
knowledge_numbers = 2048

-- 13: "store table under 1,536 numbers or knowledge table under 2,048"; with document 02, Q-14, 1,792 take the place of 1,536: "The store
-- table grows to 1,792 numbers, and 13 with it"
unfoldable pub answer_of : List ℕ → List ℕ → ℕ → ℕ → ℕ → Outcome
answer_of s q rows ranges room =
    pick (ltb rows ranked_numbers) (refused (fault_at 13 0)) (pick (ltb ranges knowledge_numbers) (refused (fault_at 13 0)) (outcome s q room))

-- ---- what a call answers: "The call returns the answer's length and both row counts"

abbrev pub tell_answered : Answered → Told
tell_answered (Ok x) = gives (x.length ∷ x.rows ∷ x.ranges ∷ [])
tell_answered (answer.Refused r) = refuses r

unfoldable pub answer_told : Outcome → Answered
answer_told (refused r) = answer.Refused r
answer_told (answered w all l) = answer.Sent (length w) (length all) (length l)

-- ---- and what the lent buffers then hold: "Later rows, and output past the answer, keep their contents"; on a refusal "Output and
-- tables stay as they were"

-- "the knowledge table a row per range of the answer (GUID as two little-endian numbers, from, to)"
abbrev pub range_row : Range → List ℕ
range_row x = (range_guid x).low ∷ (range_guid x).high ∷ x.from ∷ x.to ∷ []

unfoldable pub range_rows : List Range → List ℕ
range_rows [] = []
range_rows (x ∷ xs) = range_row x ++ range_rows xs

-- "the store table holds a row per element (place, length, type, serial's GUID as two little-endian numbers, serial's number)", each with
-- its rank, "by rank and, within a rank, by place in the store" (document 02, Q-14)
unfoldable pub rows_after : Outcome → List ℕ → List ℕ
rows_after (refused r) t = t
rows_after (answered w all l) t = ranked_rows (ordered all) ++ drop (length all * ranked_width) t

unfoldable pub ranges_after : Outcome → List ℕ → List ℕ
ranges_after (refused r) t = t
ranges_after (answered w all l) t = range_rows l ++ drop (length l * range_width) t

unfoldable pub output_after : Outcome → List ℕ → List ℕ
output_after (refused r) out = out
output_after (answered w all l) out = w ++ drop (length w) out

-- what is promised where the outcome is o: what is told, and both tables at exit
abbrev pub Tells : Outcome → Answered → List ℕ → List ℕ → List ℕ → List ℕ → Type 0
Tells o r rows rows' ranges ranges' =
    (tell_answered r ≡ tell_answered (answer_told o)) × (rows' ≡ rows_after o rows) × (ranges' ≡ ranges_after o ranges)

-- and the output at exit
abbrev pub Gives : Outcome → Answered → List ℕ → List ℕ → List ℕ → List ℕ → List ℕ → List ℕ → Type 0
Gives o r rows rows' ranges ranges' out out' =
    (tell_answered r ≡ tell_answered (answer_told o)) × (rows' ≡ rows_after o rows) × (ranges' ≡ ranges_after o ranges) × (out' ≡ output_after o out)

-- what the call promises that "decides the page for an output length offered and reports its exact byte length"
abbrev pub TellsLength : List ℕ → List ℕ → ℕ → Answered → List ℕ → List ℕ → List ℕ → List ℕ → Type 0
TellsLength s q offered r rows rows' ranges ranges' =
    Tells (answer_of s q (length rows) (length ranges) offered) r rows rows' ranges ranges'

-- what the call promises that "writes it": it "decides again", for the length of the output that it is lent
abbrev pub WritesAnswer : List ℕ → List ℕ → Answered → List ℕ → List ℕ → List ℕ → List ℕ → List ℕ → List ℕ → Type 0
WritesAnswer s q r rows rows' ranges ranges' out out' =
    Gives (answer_of s q (length rows) (length ranges) (length out)) r rows rows' ranges ranges' out out'
