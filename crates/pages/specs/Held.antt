-- What the parts of the answering calls hand on to each other: a request that was read, what is then to be answered, what deciding
-- answers and what the working tables hold after it, and what stands ready to be sent. Nothing here is needed to read the calls' own
-- promises.
-- Assumes nothing.
use Rattle.std.specs.Prelude.{◌≡◌, Bool, true, false, not, ℕ, ◌*◌, ◌≤◌, List, [], ◌++◌, length, take, Ok, Err}
use Rattle.laws.specs.Pick.{pick}
use Rattle.numbers.specs.Results.ExtendedGuid.{ExtendedGuid}
use Rattle.objects.specs.Results.Reading.{At, Reading, Refused}
use Rattle.talk.specs.Ranges.{Normal}
use Rattle.talk.specs.Wanted.{keep}
use Rattle.talk.specs.declared.range.Range.{Range}
use Rattle.ranges.specs.RangeTable.{ranges_at}
use Rattle.store.specs.Knowledge.{most_said, said_numbers}
use Rattle.store.specs.Store.{store_walk, laid_rows, laid_ids}
use Rattle.store.specs.Held.{StoreHeld, storage_index}
use Rattle.store.specs.Tables.{row_numbers, id_width, most_elements, RowsStand, elements_in}
use Rattle.store.specs.declared.element.Element.{Element}
use Rattle.order.specs.Order.{ordered}
use Rattle.order.specs.Groups.{Group, members, members_of, groups, some_of}
use Rattle.request.specs.Choice.{flags_of, set_flags}
use Rattle.request.specs.Meaning.{filters_read, lets_in, left_in}
use Rattle.request.specs.Message.{filters_of, request_knowing, request_in}
use Rattle.request.specs.Results.Request.{Request}
use Rattle.request.specs.Results.Request as request
use Rattle.pages.specs.Choice.{is_known}
use Rattle.pages.specs.Decision.{unsent_refusal}
use Rattle.pages.specs.Tables.{fixed_length, sent_bytes, ToSend}
use Rattle.pages.specs.Answer.{Ask, Outcome, refused, answered, ask_for, ask_of, known_in, page_decided, page_outcome, on_request, outcome}
use Rattle.pages.specs.declared.page.Bounds.{Bounds}
use Rattle.pages.specs.Results.Decided.{Decided}
use Rattle.pages.specs.declared.deciding.Asked.{Asked}
use Rattle.pages.specs.Results.Reckoned.{Reckoned}
use Rattle.pages.specs.Results.Reckoned as reckoned
use Rattle.pages.specs.declared.write.Sending.{Sending}

-- the working tables have the lengths of their arrays
pub record WorkingTables (elements ids known queue : List ℕ) : Type 0 where
  pub elements_long : length elements ≡ row_numbers
  pub ids_long : length ids ≡ most_elements * id_width
  pub known_long : length known ≡ said_numbers
  pub queue_long : length queue ≡ most_elements

-- a store stands in them
abbrev pub SomeStore : List ℕ → List ℕ → ℕ → Type 0
SomeStore elements ids n = (s : List ℕ) × StoreHeld s elements ids n

-- the filters stand where it is told, and the ranges stand in the working table, which has room for those of a page
pub record RequestHeld (q : List ℕ) (a : Asked) (known : List ℕ) : Type 0 where
  pub filters : filters_read a.count q (At a.place 0) ≡ filters_of q
  pub held : ranges_at known 0 a.known ≡ known_in q
  pub normal : Normal (known_in q)
  pub most : a.known ≤ most_said
  pub carried : a.most ≤ most_said
  pub room : said_numbers ≤ length known

-- the flags of some elements, where these ranges are known: 1 where one is wanted, 0 where not, and behind them what was there
abbrev pub wanted_flags : List ℕ → Asked → List Range → List Element → List ℕ → List ℕ
wanted_flags q a known all behind = set_flags (is_known known) 0 all (flags_of (lets_in (filters_read a.count q (At a.place 0)) all) ++ behind)

-- whether one is wanted, and the groups with such a member
abbrev pub is_wanted_here : List ℕ → Asked → List Range → List Element → Element → Bool
is_wanted_here q a known all x = pick (left_in (filters_read a.count q (At a.place 0)) all x true) (not (is_known known x)) false

abbrev pub groups_wanted : List ℕ → Asked → List Range → List Element → List Group
groups_wanted q a known all = keep (λ (g : Group). some_of (is_wanted_here q a known all) (members g)) (groups (ordered all))

-- what is to be answered
abbrev pub ask_in : List ℕ → List ℕ → Asked → Ask
ask_in s q a = ask_for a.most s (store_walk s).elements q a.id a.limit

-- what is asked of a page: at most so many ranges, the limit, and room in the output
abbrev pub bounds_for : Asked → ExtendedGuid → ℕ → Bounds
bounds_for a index room = record { most = a.most; limit = a.limit; fixed = fixed_length a.id index; room = room }

-- ---- what deciding answers: the page, the answer's length and how many elements the store has; or the refusal. It is the page's
-- decision, behind the request's faults, behind the store's

unfoldable pub reckoned_on : Ask → Decided → Reckoned
reckoned_on a (Ok x) =
    reckoned.Page (record { count = length (members_of (take x.count a.wanted)); id = a.id; index = storage_index a.elements; partial = x.more; ranges = x.ranges }) x.length
    (length a.elements)
reckoned_on a (Err e) = reckoned.Refused (unsent_refusal e)

unfoldable pub reckoned_for : List ℕ → List ℕ → ℕ → Request → Reckoned
reckoned_for s q room (Ok x) =
    let a = ask_of s (store_walk s).elements q x.id x.limit in
    reckoned_on a (page_decided a room)
reckoned_for s q room (request.Refused r) = reckoned.Refused r

unfoldable pub reckoned_of : List ℕ → List ℕ → ℕ → Reading → Reckoned
reckoned_of s q room (At e v) = reckoned_for s q room (request_in q [])
reckoned_of s q room (Refused r) = reckoned.Refused r

-- ---- what the working tables then hold: the ranges, and the queue. A store's fault leaves both as they were, a request's the queue. Where a
-- page was decided, the rows of its knowledge and the queue of its elements are told (`Ready`), and not what stands behind them, which hangs
-- on the order in which serial numbers were put to the ranges, and on the way by which the page was chosen

abbrev pub KnownOn : List ℕ → List ℕ → List ℕ → Request → Type 0
KnownOn q t t' (Ok x) = length t' ≡ length t
KnownOn q t t' (request.Refused r) = t' ≡ (request_knowing q t).table

abbrev pub KnownThen : List ℕ → List ℕ → List ℕ → Reading → Type 0
KnownThen q t t' (At e v) = KnownOn q t t' (request_in q [])
KnownThen q t t' (Refused r) = t' ≡ t

abbrev pub QueueOn : List ℕ → List ℕ → Request → Type 0
QueueOn queue queue' (Ok x) = length queue' ≡ length queue
QueueOn queue queue' (request.Refused r) = queue' ≡ queue

abbrev pub QueueThen : List ℕ → List ℕ → List ℕ → Reading → Type 0
QueueThen q queue queue' (At e v) = QueueOn queue queue' (request_in q [])
QueueThen q queue queue' (Refused r) = queue' ≡ queue

-- ---- what stands ready, where the outcome is o: the page's answer as the tables hold it, which fits the room

pub record Ready (o : Outcome) (s : List ℕ) (room : ℕ) (page : Sending) (whole n : ℕ) (elements ids known queue : List ℕ) : Type 0 where
  pub outcome_is : o ≡ answered (sent_bytes s elements ids queue page known) (elements_in elements ids n) (ranges_at known 0 page.ranges)
  pub whole_is : whole ≡ length (sent_bytes s elements ids queue page known)
  pub stand : RowsStand elements ids n
  pub few : n ≤ most_elements
  pub to_send : ToSend s elements ids queue page known room

-- so an answer is either ready, or the refusal that the outcome is
abbrev pub Follows : Outcome → List ℕ → ℕ → Reckoned → List ℕ → List ℕ → List ℕ → List ℕ → Type 0
Follows o s room (Ok x) elements ids known queue = Ready o s room x.page x.length x.elements elements ids known queue
Follows o s room (reckoned.Refused r) elements ids known queue = o ≡ refused r

-- ---- what deciding promises: its answer, the tables at exit, which are as long as they were, and that the outcome follows; of a request
-- that was read, of a request, and of both inputs. The first two speak of whatever store stands in the tables

abbrev pub PageReckoned : List ℕ → Asked → List ℕ → List ℕ → ℕ → ℕ → Reckoned → List ℕ → List ℕ → List ℕ → List ℕ → Type 0
PageReckoned q a elements ids n room r known known' queue queue' =
    (s : List ℕ) → StoreHeld s elements ids n
    → (r ≡ reckoned_on (ask_in s q a) (page_decided (ask_in s q a) room))
    × (length known' ≡ length known)
    × (length queue' ≡ length queue)
    × Follows (page_outcome (ask_in s q a) room) s room r elements ids known' queue'

abbrev pub RequestReckoned : List ℕ → List ℕ → List ℕ → ℕ → ℕ → Reckoned → List ℕ → List ℕ → List ℕ → List ℕ → Type 0
RequestReckoned q elements ids n room r known known' queue queue' =
    (s : List ℕ) → StoreHeld s elements ids n
    → (r ≡ reckoned_for s q room (request_in q []))
    × KnownOn q known known' (request_in q [])
    × QueueOn queue queue' (request_in q [])
    × (length known' ≡ length known)
    × (length queue' ≡ length queue)
    × Follows (on_request s (store_walk s).elements q room (request_in q [])) s room r elements ids known' queue'

abbrev pub StoreReckoned : List ℕ → List ℕ → ℕ → Reckoned → List ℕ → List ℕ → List ℕ → List ℕ → List ℕ → List ℕ → List ℕ → List ℕ → Type 0
StoreReckoned s q room r elements elements' ids ids' known known' queue queue' =
    (r ≡ reckoned_of s q room (store_walk s).last)
    × (elements' ≡ laid_rows (store_walk s) elements)
    × (ids' ≡ laid_ids (store_walk s) ids)
    × KnownThen q known known' (store_walk s).last
    × QueueThen q queue queue' (store_walk s).last
    × WorkingTables elements' ids' known' queue'
    × Follows (outcome s q room) s room r elements' ids' known' queue'
