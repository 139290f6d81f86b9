-- A bench that talks by the exported calls alone: hub_ask writes the request, hub_length tells how long the answer is, hub_write writes it
-- into exactly so many bytes, hub_read reads it, and the knowledge that stands in it is handed to the next hub_ask. Each call is lent a
-- report of 24 bytes or more. With a book it keeps each answer by hub_keep, into a buffer as long as book and answer together, before it goes
-- on with the answer's knowledge.
-- Assumes nothing.
use Rattle.std.specs.Prelude.{◌≡◌, Bool, List, [], ◌∷◌, ◌++◌, ℕ, ◌+◌, ◌-◌, ◌^◌, ◌≤◌, ◌<◌, length, take, drop}
use Rattle.numbers.specs.Refusals.{longest_input}
use Rattle.objects.specs.Steps.{value_of}
use Rattle.objects.specs.Results.Reading.{At}
use Rattle.store.specs.Knowledge.{most_said}
use Rattle.store.specs.Store.{store_walk, Stands}
use Rattle.store.specs.Tables.{most_elements}
use Rattle.store.specs.declared.element.Key.{Key}
use Rattle.talk.specs.Series.{Chain, done, next}
use Rattle.request.specs.Meaning.{Filter, filters_read}
use Rattle.pages.specs.Choice.{knows_key}
use Rattle.enter.specs.Entering.{enter}
use Rattle.enter.specs.Package.{packed}
use Rattle.client.specs.Ask.{filters_given, knowledge_of}
use Rattle.book.specs.Keep.{in_book}
use Rattle.hub.specs.Call.{HubTellsLength, HubWritesAnswer}
use Rattle.hub.specs.Bench.{HubAsks, HubReads}
use Rattle.hub.specs.Keep.{HubKeeps}
use Rattle.evidence.specs.Book.{InStep}
use Rattle.evidence.specs.Calling.{report_number}

-- ---- what the bytes that a bench hands in mean

-- the filters
abbrev pub filters_in : List ℕ → List Filter
filters_in f = filters_read (value_of (filters_given f)) f (At 0 0)

-- the knowledge as a set, and how many ranges and entries it has
abbrev pub knows_by : List ℕ → Key → Bool
knows_by k = knows_key (knowledge_of k).ranges

abbrev pub said_by : List ℕ → ℕ
said_by k = most_said - (knowledge_of k).left

-- ---- the turns

-- what a bench chooses for a turn: the id, the limit, the length that it offers, and what it lends to the four calls. The output for the
-- answer is allocated once its length is told: `block n` is what then stands in the n bytes
pub record Choice : Type 0 where
  pub id : ℕ
  pub limit : ℕ
  pub ask_out : List ℕ
  pub report_of_ask : List ℕ
  pub offered : ℕ
  pub report_of_length : List ℕ
  pub block : ℕ → List ℕ
  pub report : List ℕ
  pub report_of_read : List ℕ

-- numbers of 64 bits, reports of 24 bytes or more, a block of as many bytes as were asked for
pub record Lends (c : Choice) : Type 0 where
  pub id : c.id < 2 ^ 64
  pub limit : c.limit < 2 ^ 64
  pub offered : c.offered < 2 ^ 64
  pub report_of_ask : 24 ≤ length c.report_of_ask
  pub report_of_length : 24 ≤ length c.report_of_length
  pub block : (n : ℕ) → length (c.block n) ≡ n
  pub report : 24 ≤ length c.report
  pub report_of_read : 24 ≤ length c.report_of_read

-- one turn on the store s with the filters f: the knowledge k is handed in, w is answered, and k' is the knowledge that stands in it
pub record Exchange (s f k w k' : List ℕ) : Type 0 where
  pub choice : Choice
  pub lends : Lends choice
  -- the request: as many bytes of the output as the report says
  pub ask_out : List ℕ
  pub report_of_ask : List ℕ
  pub asks : HubAsks choice.id choice.limit f k 0 choice.ask_out ask_out choice.report_of_ask report_of_ask
  -- the answer's length
  pub report_of_length : List ℕ
  pub tells : HubTellsLength s (take (report_number 2 report_of_ask) ask_out) choice.offered 0 choice.report_of_length report_of_length
  -- the answer: all of the output
  pub report : List ℕ
  pub writes : HubWritesAnswer s (take (report_number 2 report_of_ask) ask_out) 0 (choice.block (report_number 2 report_of_length)) w choice.report report
  -- the knowledge in it: "place and length"
  pub report_of_read : List ℕ
  pub reads : HubReads w 0 choice.report_of_read report_of_read
  pub next : k' ≡ take (report_number 2 report_of_read) (drop (report_number 1 report_of_read) w)

abbrev pub BenchTalk : List ℕ → List ℕ → List ℕ → List (List ℕ) → List ℕ → Type 0
BenchTalk s f k answers k' = Chain (Exchange s f) k answers k'

-- the choices under which the turns of a talk were made
abbrev pub choices_in : {s f k k' : List ℕ} {answers : List (List ℕ)} → BenchTalk s f k answers k' → List Choice
choices_in done = []
choices_in (next t c) = t.choice ∷ choices_in c

-- ---- when a bench can go on

-- a request has room for the filters, a knowledge of 512 ranges and what stands around them; an answer is offered room for all of the
-- store's elements and what stands around them
pub record Ample (s f k : List ℕ) (c : Choice) : Type 0 where
  pub lends : Lends c
  pub ask_out : length f + length k + 32768 ≤ length c.ask_out
  pub offered : length s + 65536 ≤ c.offered

-- ---- with a book

-- what a bench chooses for keeping an answer: what it lends to hub_keep. `block n` is what stands in a buffer of n bytes once it is allocated
pub record KeepChoice : Type 0 where
  pub block : ℕ → List ℕ
  pub report : List ℕ

-- a block of as many bytes as were asked for, a report of 24 bytes or more
pub record KeepLends (c : KeepChoice) : Type 0 where
  pub block : (n : ℕ) → length (c.block n) ≡ n
  pub report : 24 ≤ length c.report

-- what a bench has, as bytes: its knowledge and its book
pub record Hands : Type 0 where
  pub knowledge : List ℕ
  pub book : List ℕ

abbrev pub hands : List ℕ → List ℕ → Hands
hands k b = record { knowledge = k; book = b }

-- one turn on the store s with the filters f: w is answered, and kept in the book; then the bench has the knowledge that stands in w, and the
-- new book, which is as many bytes of the buffer as the report says
pub record BookExchange (s f : List ℕ) (z : Hands) (w : List ℕ) (z' : Hands) : Type 0 where
  pub exchange : Exchange s f z.knowledge w z'.knowledge
  pub choice : KeepChoice
  pub lends : KeepLends choice
  -- the buffer for the new book is as long as book and answer together
  pub new : List ℕ
  pub report : List ℕ
  pub keeps : HubKeeps z.book w 0 (choice.block (length z.book + length w)) new choice.report report
  pub next : z'.book ≡ take (report_number 2 report) new

abbrev pub BookTalk : List ℕ → List ℕ → Hands → List (List ℕ) → Hands → Type 0
BookTalk s f z answers z' = Chain (BookExchange s f) z answers z'

-- its turns without the book
abbrev pub exchanges_in : {s f : List ℕ} {z z' : Hands} {answers : List (List ℕ)} → BookTalk s f z answers z'
    → BenchTalk s f z.knowledge answers z'.knowledge
exchanges_in done = done
exchanges_in (next t c) = next t.exchange (exchanges_in c)

-- the choices under which its answers were kept; those for its asks are `choices_in` of its turns
abbrev pub keep_choices_in : {s f : List ℕ} {z z' : Hands} {answers : List (List ℕ)} → BookTalk s f z answers z' → List KeepChoice
keep_choices_in done = []
keep_choices_in (next t c) = t.choice ∷ keep_choices_in c

-- what holds at every moment of it: at its start, and behind each of its turns
abbrev pub AllAlong : {s f : List ℕ} {z z' : Hands} {answers : List (List ℕ)} → (Hands → Type 0) → BookTalk s f z answers z' → Type 0
AllAlong P (done {k = z}) = P z
AllAlong P (next {k = z} t c) = P z × AllAlong P c

-- the book is in step with the store, and it reads
abbrev pub RightIn : List ℕ → List ℕ → Hands → Type 0
RightIn s f z = InStep s (filters_in f) (knows_by z.knowledge) z.book × Stands (store_walk z.book).last

-- ---- when a book has always room

-- the elements of the book b and of the store s fit into one book: with the store's entered they are at most 256, and all of both in one
-- package would not be over-long
pub record BookFits (b s : List ℕ) : Type 0 where
  pub few : length (enter (in_book b) (in_book s)) ≤ most_elements
  pub short : length (packed (in_book b ++ in_book s)) ≤ longest_input

-- a book with nothing in it: the start of a package, its zero byte, and its end
abbrev pub empty_book : List ℕ
empty_book = 0xAC ∷ 0x02 ∷ 0x00 ∷ 0x55 ∷ []
