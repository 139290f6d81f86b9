-- What is written reads back: an answer as the same id, mark and storage index, the same elements with the same bytes, and the same
-- ranges; a request as the same id, limit, filters and knowledge; a put as the same id and storage index, and the same elements with the
-- same bytes; and the answer to a put as the same id and ranges. The laws of proofs/AnswerBack, proofs/CallBack, proofs/AskRead and
-- proofs/NextAsk say that the calls keep it; those of proofs/PutRead and proofs/PutAnswerBack say it of the bytes that the definitions
-- of a put and of its answer give.
-- Assumes nothing.
use Rattle.std.specs.Prelude.{◌≡◌, Bool, List, [], ◌∷◌, map, ℕ, ◌+◌, ◌≤◌, ◌<◌, length, take, drop, get_or}
use Rattle.store.specs.Store.{store_strictness}
use Rattle.numbers.specs.Refusals.{fault_at}
use Rattle.numbers.specs.Results.ExtendedGuid.{ExtendedGuid}
use Rattle.objects.specs.Results.Reading.{At}
use Rattle.talk.specs.Ranges.{Normal, AllFit}
use Rattle.talk.specs.declared.range.Range.{Range}
use Rattle.store.specs.Chain.{further}
use Rattle.store.specs.Element.{element_at}
use Rattle.store.specs.Knowledge.{most_said}
use Rattle.store.specs.KnowledgeWritten.{knowledge_bytes}
use Rattle.store.specs.Held.{stored_bytes, elements_bytes}
use Rattle.store.specs.Results.Found as found
use Rattle.store.specs.declared.element.Key.{Key}
use Rattle.store.specs.declared.element.Element.{Element}
use Rattle.store.specs.Results.ReadElement.{Is}
use Rattle.request.specs.Meaning.{filters_read}
use Rattle.talk.specs.Each.{Each}
use Rattle.request.specs.Message.{filters_of, request_knowing, request_in, put_changes_request}
use Rattle.request.specs.Response.{sub_response_bytes}
use Rattle.request.specs.Results.Request as request
use Rattle.pages.specs.Tables.{answer_middle}
use Rattle.client.specs.AskWritten.{ask_front, constraint_bytes}
use Rattle.client.specs.Ask.{knowledge_of}
use Rattle.client.specs.Read.{package_in, knowledge_in, mark_at, package_end, answer_in}
use Rattle.client.specs.Accessor.{received_at, received_bytes}
use Rattle.client.specs.PutWritten.{put_front_bytes, given_walk}
use Rattle.client.specs.ReadPut.{put_known, put_answer_in}
use Rattle.client.specs.Results.ReadAnswer as answer
use Rattle.client.specs.Results.ReadPutAnswer as put_answer
use Rattle.puts.specs.Put.{put_walk, put_in}
use Rattle.puts.specs.Results.Put as put

-- ---- elements that were read, set down one behind the other: a page's elements come from a store

-- x stands in s as an element of a package, beside some ids of others
abbrev pub StandsIn : List ℕ → Element → Type 0
StandsIn s x = (ids : List Key) × (element_at store_strictness ids s (At x.place 0) ≡ Is x)

-- the same element at another place: with its length, type, id and serial number
abbrev pub placed_at : ℕ → Element → Element
placed_at at x = record { place = at; length = x.length; kind = x.kind; id = x.id; serial = x.serial }

-- one behind the other, the first at a place
unfoldable pub set_down : ℕ → List Element → List Element
set_down at [] = []
set_down at (x ∷ xs) = placed_at at x ∷ set_down (at + x.length) xs

-- ---- an answer

-- where the knowledge of an answer stands: behind the front, the elements, and what follows them
abbrev pub knowledge_place : List ℕ → ℕ → ExtendedGuid → List Element → Bool → ℕ
knowledge_place s id index page partial = 20 + length (elements_bytes s page) + length (answer_middle id index partial)

-- w reads back as an answer with these parts, whose elements stand in s
pub record ReadsBack (s : List ℕ) (id : ℕ) (index : ExtendedGuid) (page : List Element) (partial : Bool) (l : List Range) (w : List ℕ) : Type 0 where
  -- no refusal, and what was meant
  pub read : answer_in w
      ≡ answer.Is
      (record {
        id = id;
        partial = partial;
        index = index;
        elements = 20;
        count = length page;
        knowledge = knowledge_place s id index page partial;
        length = length (knowledge_bytes l);
      })
  -- the page's elements, with their own lengths, types, ids and serial numbers
  pub elements_are : (package_in w).elements ≡ set_down 20 page
  -- and with their own bytes; at no further position stands one
  pub bytes_are : (i : ℕ) (d : Element) → i < length page → received_bytes w i ≡ stored_bytes s (get_or page i d)
  pub no_more : (i : ℕ) → length page ≤ i → received_at w i ≡ found.Refused (fault_at 9 0)
  -- the knowledge's own bytes, and the ranges that are read from them
  pub knowledge_is : take (length (knowledge_bytes l)) (drop (knowledge_place s id index page partial) w) ≡ knowledge_bytes l
  pub ranges_are : (knowledge_in w (mark_at w (package_end w))).ranges ≡ l
  -- which are a normal list that can be written again
  pub normal : Normal l
  pub fit : AllFit l
  pub most : length l ≤ most_said

-- ---- a request

-- s, read beside the table t, is a request of these: its filters are those n that stand in f, and it knows what k tells
pub record ReadBack (id limit : ℕ) (f k : List ℕ) (n : ℕ) (s t : List ℕ) : Type 0 where
  -- the id, the limit, where the filters stand, how many they are, and how many ranges are known
  pub answer : request_in s t ≡ request.Asked id limit (length (ask_front id) + length (constraint_bytes limit)) n (length (knowledge_of k).ranges)
  pub filters : filters_of s ≡ filters_read n f (At 0 0)
  pub known : (request_knowing s t).ranges ≡ (knowledge_of k).ranges

-- ---- a put

-- s is a put of these: its elements are those that were handed in as `given`, each where it then stands in the put
pub record PutBack (id : ℕ) (expected : ExtendedGuid) (given s : List ℕ) : Type 0 where
  -- the id, the storage index that is expected, and how many elements
  pub answer : put_in s ≡ put.Handed id expected (length (given_walk given).elements)
  -- with their own lengths, types, ids and serial numbers
  pub elements_are : (put_walk s).elements ≡ map (further (length (put_front_bytes id expected))) (given_walk given).elements
  -- and with their own bytes
  pub bytes_are : Each (λ (x : Element). stored_bytes s (further (length (put_front_bytes id expected)) x) ≡ stored_bytes given x) (given_walk given).elements

-- ---- the answer to a put

-- where its knowledge stands: behind the package's end, and the sub-response
abbrev pub put_knowledge_place : ℕ → ℕ
put_knowledge_place id = 21 + length (sub_response_bytes put_changes_request id)

-- w reads back as an answer to a put with this id and this knowledge
pub record PutAnswerBack (id : ℕ) (l : List Range) (w : List ℕ) : Type 0 where
  pub read : put_answer_in w ≡ put_answer.Is (record { id = id; knowledge = put_knowledge_place id; length = length (knowledge_bytes l) })
  -- the knowledge's own bytes, and the ranges that are read from them
  pub knowledge_is : take (length (knowledge_bytes l)) (drop (put_knowledge_place id) w) ≡ knowledge_bytes l
  pub ranges_are : (knowledge_in w (put_known w (package_end w))).ranges ≡ l
  -- which are a normal list that can be written again
  pub normal : Normal l
  pub fit : AllFit l
  pub most : length l ≤ most_said
