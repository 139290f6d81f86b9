-- What was answered before elements that share a serial number became groups (document 02, Q-3): document 01's page, of elements. These are the
-- definitions of `pages` with elements in place of groups, as they were; they are for proofs/Unshared.antt alone, which shows that where no
-- serial number stands twice nothing has changed, and nothing else speaks of them. How a store was read is the last part, `base_walk`: with 11
-- for a serial number that stands twice, too. A request is read as it was.
-- Assumes nothing.
use Rattle.std.specs.Prelude.{true, List, [], map, ℕ, zero, suc, length, take, ltb, Ok, Err}
use Rattle.laws.specs.Pick.{pick}
use Rattle.numbers.specs.Refusals.{fault_at, longest_input, over_long}
use Rattle.objects.specs.Types.{package_type, compound_bit, element_type, no_room}
use Rattle.objects.specs.Steps.{place_of, value_of, run_here, closed, inside, nothing_open, start_here, next_is, on_field}
use Rattle.objects.specs.Steps as steps
use Rattle.objects.specs.Results.Reading.{Reading}
use Rattle.objects.specs.Results.Reading as reading
use Rattle.talk.specs.Wanted.{wanted}
use Rattle.talk.specs.declared.range.Range.{Range}
use Rattle.store.specs.Held.{ranges_with, storage_index}
use Rattle.store.specs.Element.{key_here, judged, id_field, serial_field, opened, element_on, ids_in}
use Rattle.store.specs.Store.{store_padding, package_start, Walk, walked, closing, on_element, finished, store_walk}
use Rattle.store.specs.Tables.{most_elements}
use Rattle.store.specs.declared.element.Element.{Element}
use Rattle.store.specs.declared.element.Fields.{Fields}
use Rattle.store.specs.declared.element.Key.{Key}
use Rattle.store.specs.Results.ReadElement.{ReadElement}
use Rattle.store.specs.Results.ReadingKey.{ReadingKey}
use Rattle.order.specs.Groups.{stored_length}
use Rattle.order.specs.Order.{ordered, ranked_numbers}
use Rattle.request.specs.Meaning.{Filter, left_in}
use Rattle.request.specs.Message.{filters_of, request_in}
use Rattle.request.specs.Results.Request.{Request}
use Rattle.request.specs.Results.Request as request
use Rattle.pages.specs.Answer.{Outcome, refused, answered, known_in, knowledge_numbers}
use Rattle.pages.specs.Choice.{knows_key}
use Rattle.pages.specs.Decision.{Measure, most_carried, decision, unsent_refusal}
use Rattle.pages.specs.Written.{answer_bytes}
use Rattle.pages.specs.Results.Decided.{Decided}
use Rattle.evidence.specs.Talk.{serial_of}

-- "Wanted = filters leave it in, and the knowledge lacks its serial number", in row order
abbrev pub base_wanted : List Filter → List Range → List Element → List Element
base_wanted fs l all = wanted serial_of (λ (x : Element). left_in fs all x true) (knows_key l) (ordered all)

-- what an answer is made of
pub record BaseAsk : Type 0 where
  pub store : List ℕ
  pub elements : List Element
  pub id : ℕ
  pub most : ℕ
  pub limit : ℕ
  pub known : List Range
  pub wanted : List Element

-- the page of the first j wanted elements: its knowledge, and its answer
unfoldable pub base_ranges : BaseAsk → ℕ → List Range
base_ranges a j = ranges_with a.known (take j a.wanted)

unfoldable pub base_bytes : BaseAsk → ℕ → List ℕ
base_bytes a j =
    answer_bytes a.store a.id (storage_index a.elements) (take j a.wanted) (ltb j (length a.wanted)) (base_ranges a j)

-- what it asks
unfoldable pub base_measure : BaseAsk → Measure
base_measure a =
    record {
      stored = λ j. stored_length (take j a.wanted);
      ranges = λ j. length (base_ranges a j);
      whole = λ j. length (base_bytes a j);
    }

unfoldable pub base_decided : BaseAsk → ℕ → Decided
base_decided a room = decision a.most a.limit room (base_measure a) (length a.wanted)

unfoldable pub on_base_decided : BaseAsk → Decided → Outcome
on_base_decided a (Ok x) = answered (base_bytes a x.count) a.elements (base_ranges a x.count)
on_base_decided a (Err e) = refused (unsent_refusal e)

unfoldable pub base_page : BaseAsk → ℕ → Outcome
base_page a room = on_base_decided a (base_decided a room)

-- of a request, with pages of so many ranges at most
abbrev pub base_ask_for : ℕ → List ℕ → List Element → List ℕ → ℕ → ℕ → BaseAsk
base_ask_for most s all q id limit =
    record {
      store = s;
      elements = all;
      id = id;
      most = most;
      limit = limit;
      known = known_in q;
      wanted = base_wanted (filters_of q) (known_in q) all;
    }

unfoldable pub on_base_request : List ℕ → List Element → List ℕ → ℕ → Request → Outcome
on_base_request s all q room (Ok x) = base_page (base_ask_for most_carried s all q x.id x.limit) room
on_base_request s all q room (request.Refused r) = refused r

-- the store's faults, then the request's
unfoldable pub on_base_store : List ℕ → List Element → List ℕ → ℕ → Reading → Outcome
on_base_store s all q room (reading.At e v) = on_base_request s all q room (request_in q [])
on_base_store s all q room (reading.Refused r) = refused r

unfoldable pub base_outcome : List ℕ → List ℕ → ℕ → Outcome
base_outcome s q room = on_base_store s (store_walk s).elements q room (store_walk s).last

-- with tables of so many numbers: 13 comes before all others
unfoldable pub base_answer_of : List ℕ → List ℕ → ℕ → ℕ → ℕ → Outcome
base_answer_of s q rows ranges room =
    pick (ltb rows ranked_numbers) (refused (fault_at 13 0)) (pick (ltb ranges knowledge_numbers) (refused (fault_at 13 0)) (base_outcome s q room))

-- ---- how a store was read: "no id twice, no serial twice in a store" (document 01). These are the definitions of `store`, with the serial number
-- judged against those before it, and nothing else in them is other

unfoldable pub base_serial_field : List Key → List ℕ → Reading → ReadingKey
base_serial_field serials d c = judged serials (place_of c) (serial_field true d c)

unfoldable pub base_fields_of : List Key → List Key → List ℕ → Fields
base_fields_of ids serials d =
    record {
      id = key_here (id_field ids d);
      serial = key_here (base_serial_field serials d (on_field (id_field ids d)));
      last = steps.number store_padding d (on_field (base_serial_field serials d (on_field (id_field ids d))));
    }

unfoldable pub base_data_of : List Key → List Key → List ℕ → Reading → Reading
base_data_of ids serials s c = closed s (opened store_padding s c) (base_fields_of ids serials (run_here s (opened store_padding s c))).last

unfoldable pub base_element_at : List Key → List Key → List ℕ → Reading → ReadElement
base_element_at ids serials s c =
    element_on (place_of c) (base_fields_of ids serials (run_here s (opened store_padding s c))) (value_of (base_data_of ids serials s c))
    (inside store_padding s 14 element_type (base_data_of ids serials s c))

unfoldable pub base_walk_from : ℕ → List ℕ → List Element → Reading → Walk
base_walk_from zero s done c =
    pick (next_is s element_type c) (walked done (start_here store_padding s package_type element_type compound_bit no_room c)) (closing s done c)
base_walk_from (suc left) s done c =
    pick (next_is s element_type c)
    (on_element (λ more e. base_walk_from left s more e) done
    (base_element_at (ids_in done) (map serial_of done) s c))
    (closing s done c)

unfoldable pub base_walk : List ℕ → Walk
base_walk s =
    pick (ltb longest_input (length s)) (walked [] (reading.Refused over_long))
    (finished s (base_walk_from most_elements s [] (package_start store_padding nothing_open s (reading.At 0 0))))
