-- The book of a bench: it is itself a store, and the elements of each answer enter it. What it is for a book to be in step with the hub's
-- store, while the talk goes on and at its end. A bench has a knowledge and a book; it takes an answer into the book, and only then goes on
-- with the answer's knowledge. A reader needs the sentence before each definition; the laws are in proofs/Holding, Keeping, InStep, PowerCut,
-- Lost and BookAfterPut.
-- Assumes nothing.
use Rattle.std.specs.Prelude.{◌≡◌, Bool, true, false, ◌↔◌, ℕ, ◌≤◌, length, take}
use mathlib.Core.List.{List, Memᴰ as In}
use Rattle.numbers.specs.declared.guid.Guid.{Guid}
use Rattle.talk.specs.Series.{Trace, over, idle, then}
use Rattle.store.specs.Held.{stored_bytes}
use Rattle.store.specs.declared.element.Element.{Element}
use Rattle.store.specs.declared.element.Key.{Key}
use Rattle.order.specs.Groups.{Group, members}
use Rattle.request.specs.Meaning.{Filter}
use Rattle.client.specs.Read.{answer_in}
use Rattle.client.specs.declared.answer.Received.{Received}
use Rattle.client.specs.Results.ReadAnswer as answer
use Rattle.book.specs.Keep.{KeepsAnswer}
use Rattle.book.specs.Results.Keeping.{Book}
use Rattle.hub.specs.Keep.{HubKeeps}
use Rattle.evidence.specs.Calling.{report_number}
use Rattle.evidence.specs.Puts.{is_new}
use Rattle.evidence.specs.Talk.{KeyFits, elements_of, groups_of, leaves_in, AnsweredAsk}

-- ---- an answer enters a book

-- the answer w is kept in the book b, which becomes b': by the call that says how long the new book is, or by the exported one, which says so
-- in a report of 24 bytes or more. The new book stands at the front of the buffer that was lent, of whatever length
pub data Keeps (b w b' : List ℕ) : Type 0 where
  by_keep : (n : ℕ) (new new' : List ℕ) → KeepsAnswer b w (Book n) new new' → b' ≡ take n new' → Keeps b w b'
  by_hub_keep : (new new' report report' : List ℕ) → HubKeeps b w 0 new new' report report' → 24 ≤ length report
      → b' ≡ take (report_number 2 report') new' → Keeps b w b'

-- what a book holds under an id: an element with this id has these bytes
pub record Holds (book : List ℕ) (id : Key) (bytes : List ℕ) : Type 0 where
  pub element : Element
  pub among : In element (elements_of book)
  pub id_is : element.id ≡ id
  pub bytes_are : stored_bytes book element ≡ bytes

-- what one answer does to the book b, which becomes b', where the groups of the page came from the store s
pub record PageKept (s : List ℕ) (page : List Group) (b b' : List ℕ) : Type 0 where
  -- the members of a group enter together, each with the store's bytes
  pub enter_together : (g : Group) → In g page → (x : Element) → In x (members g) → Holds b' x.id (stored_bytes s x)
  -- what was not named stays byte for byte: under an id that no member has the book holds what it held
  pub others_stay : (id : Key) → ((g : Group) → In g page → (x : Element) → In x (members g) → x.id ≡ id → ⊥) → (bytes : List ℕ)
      → Holds b id bytes ↔ Holds b' id bytes

-- ---- in step

-- "The filters let a group in as soon as they let one member in": x is a member of a group of the store that they let in
pub record LetIn (s : List ℕ) (fs : List Filter) (x : Element) : Type 0 where
  pub group : Group
  pub among : In group (groups_of s)
  pub member : In x (members group)
  pub lets : leaves_in s fs group ≡ true

-- with these filters and this knowledge, every element of the store that the filters let in and whose serial number is known stands in the
-- book with the store's bytes
abbrev pub InStep : List ℕ → List Filter → (Key → Bool) → List ℕ → Type 0
InStep s fs know book = (x : Element) → LetIn s fs x → know x.serial ≡ true → Holds book x.id (stored_bytes s x)

-- every element of the store that the filters let in stands in the book with the store's bytes
abbrev pub HoldsAll : List ℕ → List Filter → List ℕ → Type 0
HoldsAll s fs book = (x : Element) → LetIn s fs x → Holds book x.id (stored_bytes s x)

-- ---- a bench that keeps its book

-- what a bench has
pub record Standing : Type 0 where
  pub know : Key → Bool
  pub book : List ℕ

-- it asks, the answer w enters its book, and it goes on with the answer's knowledge
abbrev pub KeptAsk : List ℕ → List Filter → Standing → List ℕ → Standing → Type 0
KeptAsk s fs z w z' = AnsweredAsk s fs z.know w z'.know × Keeps z.book w z'.book

-- a refused ask, an answer that was lost or could not be kept: nothing is changed
abbrev pub Unchanged : Standing → Standing → Type 0
Unchanged z z' = (z.know ≡ z'.know) × (z.book ≡ z'.book)

-- the answers ws were kept, one after the other
abbrev pub KeptTalk : List ℕ → List Filter → Standing → List (List ℕ) → Standing → Type 0
KeptTalk s fs z ws z' = Trace (KeptAsk s fs) Unchanged z ws z'

-- what holds at every moment of a talk: at its start, and behind each of its asks
abbrev pub Throughout : {s : List ℕ} {fs : List Filter} {z z' : Standing} {ws : List (List ℕ)} → (Standing → Type 0) → KeptTalk s fs z ws z' → Type 0
Throughout P (over {k = z}) = P z
Throughout P (idle {k = z} u t) = P z × Throughout P t
Throughout P (then {k = z} r t) = P z × Throughout P t

-- ---- a bench that was stopped

-- it goes on with the knowledge of one moment and the book of a later one: the book was saved first
abbrev pub book_ahead : Standing → Standing → Standing
book_ahead saved later = record { know = saved.know; book = later.book }

-- or with the book of one moment and the knowledge of a later one: the knowledge was saved first, which loses records
abbrev pub knowledge_ahead : Standing → Standing → Standing
knowledge_ahead saved later = record { know = later.know; book = saved.book }

-- it talked and was stopped any number of times, and each time went on with book and knowledge of one moment (no answer between), or with a book that
-- was ahead by answers that were kept
pub data Resumed (s : List ℕ) (fs : List Filter) (z : Standing) : Standing → Type 0 where
  begun : Resumed s fs z z
  talked : {y y' : Standing} {ws : List (List ℕ)} → Resumed s fs z y → KeptTalk s fs y ws y' → Resumed s fs z y'
  stopped : {saved later : Standing} {more : List (List ℕ)} → Resumed s fs z saved → KeptTalk s fs saved more later → Resumed s fs z (book_ahead saved later)

-- ---- the end

-- a bench reads w as an answer that is not marked partial
abbrev pub Unmarked : List ℕ → Type 0
Unmarked w = (x : Received) × (answer_in w ≡ answer.Is x) × (x.partial ≡ false)

-- ---- behind a put

-- a knowledge has no serial number that the hub with the GUID g has yet to give: the second line of `KnewEverything`, of any knowledge
abbrev pub NoneAhead : List ℕ → Guid → (Key → Bool) → Type 0
NoneAhead s g know = (k : Key) → KeyFits k → is_new s g k ≡ true → know k ≡ false
