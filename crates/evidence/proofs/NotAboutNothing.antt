-- The demands are not about nothing: a bench that uses the exported calls alone is a client. For every store that is read, all filters
-- that are read, every first knowledge of at most 256 ranges and entries, and every list of limits, offered lengths and buffers for the
-- request that are large enough, there is a talk with a turn for each: the bench asks by hub_length, lends exactly so much, and writes,
-- and no ask is refused for room. And if the list has an entry for each wanted group (one, if none is wanted), the talk has delivered
-- all of them. And with a book that is in step with the store, and fits together with it into one book, the bench can keep every answer of
-- such a talk by hub_keep, and none is refused; the book is in step all along, and at the end it holds all that the filters let in. With no
-- knowledge and an empty book nothing is asked of the book. A reader needs the records and the statements of `bench_ends`, `bench_keeps` and
-- `bench_keeps_from_nothing`.
-- Assumes nothing.
use mathlib.Core.Path.{◌≡◌, refl, sym, ap, subst, ◌∙◌}
use mathlib.Core.List.{List, [], ◌∷◌, map}
use Prim.Native.Nat.{ℕ, suc, ◌+◌, ◌≤◌, ◌<◌, max}
use native.Mathlib.Omega.{arith}
use lib.ListN.{length}
use Rattle.laws.specs.Bytes.{AllBytes}
use Rattle.numbers.specs.Refusals.{longest_input}
use Rattle.objects.specs.Results.Reading.{At}
use Rattle.talk.specs.Each.{Each}
use Rattle.talk.specs.Series.{Answer, joined_pages, FirstUnmarked}
use Rattle.talk.proofs.Series.{all_sent_lem}
use Rattle.store.specs.Store.{Walk, walked, store_walk, Stands}
use Rattle.order.specs.Groups.{Group}
use Rattle.store.proofs.Contents.{place_value}
use Rattle.enter.specs.Package.{kept_in}
use Rattle.client.specs.Ask.{filters_given, knowledge_given}
use Rattle.evidence.specs.Bench.{filters_in, knows_by, said_by, Choice, BenchTalk, choices_in, Ample, KeepChoice, KeepLends, Hands, hands, BookTalk, exchanges_in, keep_choices_in, AllAlong, RightIn, BookFits, empty_book}
use Rattle.evidence.specs.Book.{InStep, HoldsAll}
use Rattle.evidence.specs.Talk.{wanted_of, AllReadAs}
use Rattle.evidence.proofs.BenchExists.{bench_chooses}
use Rattle.evidence.proofs.BookExample.{one_read}
use Rattle.evidence.proofs.BookExists.{length_choices, empty_fits, book_chooses, book_talk, book_right}
use Rattle.evidence.proofs.DemandThree.{DemandThree, demand_three}
use Rattle.evidence.proofs.Example.{exporting}
use Rattle.evidence.proofs.Holding.{nothing_known_lem}
use Rattle.evidence.proofs.InStep.{in_step_kept, unmarked_read}
use Rattle.evidence.proofs.Turns.{bench_talk}

-- what a bench begins with: a store s, filters f and a knowledge k, all bytes, that are read
pub record Begins (s f k : List ℕ) : Type 0 where
  pub store_bytes : AllBytes s
  pub filter_bytes : AllBytes f
  pub knowledge_bytes_lem : AllBytes k
  pub store_reads : Stands (store_walk s).last
  pub filters_read_lem : Stands (filters_given f)
  pub knowledge_reads : Stands (knowledge_given k)
  -- "a first knowledge of at most 256 ranges and entries"
  pub said : said_by k ≤ 256
  -- they are not so long that a request of them would be over-long
  pub short : length f + length k + 32768 ≤ longest_input

-- a talk under these choices, and that it ended with everything delivered
pub record Ended (s f k : List ℕ) (choices : List Choice) : Type 0 where
  pub ws : List (List ℕ)
  pub next : List ℕ
  pub talk : BenchTalk s f k ws next
  pub made : choices_in talk ≡ choices
  pub demand : DemandThree s (filters_in f) (knows_by k) ws
  -- an unmarked answer has come, at the n-th answer or sooner, and all that was wanted was sent
  pub ended : (a : FirstUnmarked demand.answers) × (length a.before < max 1 (length (wanted_of s (filters_in f) (knows_by k))))
  pub delivered : joined_pages demand.answers ≡ wanted_of s (filters_in f) (knows_by k)

-- as many answers are read as came
length_read : (s : List ℕ) (ws : List (List ℕ)) (answers : List (Answer Group)) → AllReadAs s ws answers → length answers ≡ length ws
length_read s [] [] h = refl
length_read s [] (a ∷ answers) h = absurd h
length_read s (w ∷ ws) [] h = absurd h
length_read s (w ∷ ws) (a ∷ answers) h = ap suc (length_read s ws answers h.1)

pub bench_ends : (s f k : List ℕ) → Begins s f k → (choices : List Choice) → Each (Ample s f k) choices
    → max 1 (length (wanted_of s (filters_in f) (knows_by k))) ≤ length choices → Ended s f k choices
bench_ends s f k b choices ample enough =
    let (p, n, filters) = place_value (filters_given f) b.filters_read_lem in
    let (q, v, given) = place_value (knowledge_given k) b.knowledge_reads in
    let (ws, next, long, talk, made) =
    bench_chooses s f k b.store_bytes b.filter_bytes b.knowledge_bytes_lem b.store_reads p n filters q v given b.said b.short choices ample in
    let d : DemandThree s (filters_in f) (knows_by k) ws =
    demand_three s b.store_bytes (filters_in f) (knows_by k) (knows_by next) ws
    (bench_talk s f b.store_bytes b.filter_bytes b.knowledge_bytes_lem talk) in
    let read = length_read s ws d.answers d.read in
    record {
      ws = ws;
      next = next;
      talk = talk;
      made = made;
      demand = d;
      ended = d.soon (omega arith);
      delivered = all_sent_lem (record { initial = d.initial; whole = d.whole; soon = d.soon }) (omega arith);
    }

-- ---- with a book

-- what the book b is at the start: it reads, it has room for the store, and it is in step with it
pub record BookBegins (s f k b : List ℕ) : Type 0 where
  pub reads : Stands (store_walk b).last
  pub fits : BookFits b s
  pub in_step : InStep s (filters_in f) (knows_by k) b

-- a talk as above in which every answer was kept under these choices, and that it ended with everything in the book
pub record KeptEnded (s f : List ℕ) (z : Hands) (choices : List Choice) (keeping : List KeepChoice) : Type 0 where
  pub ended : Ended s f z.knowledge choices
  pub book : List ℕ
  pub talk : BookTalk s f z ended.ws (hands ended.next book)
  -- its turns are those of the talk above
  pub turns : exchanges_in talk ≡ ended.talk
  pub made : keep_choices_in talk ≡ keeping
  -- at every moment of it the book is in step, and it reads; and so at its end, where it holds all that the filters let in
  pub all_along : AllAlong (RightIn s f) talk
  pub in_step : InStep s (filters_in f) (knows_by ended.next) book
  pub all : HoldsAll s (filters_in f) book

pub bench_keeps : (s f k b : List ℕ) → Begins s f k → BookBegins s f k b → (choices : List Choice) → Each (Ample s f k) choices
    → (keeping : List KeepChoice) → Each KeepLends keeping → length keeping ≡ length choices
    → max 1 (length (wanted_of s (filters_in f) (knows_by k))) ≤ length choices → KeptEnded s f (hands k b) choices keeping
bench_keeps s f k b begins book choices ample keeping lend many enough =
    let e = bench_ends s f k begins choices ample enough in
    let long : length keeping ≡ length e.ws = many ∙ sym (ap length e.made) ∙ length_choices e.talk in
    let (b', talk, turns, made) =
    book_chooses s f b begins.store_bytes begins.filter_bytes begins.store_reads book.fits begins.knowledge_bytes_lem e.talk book.reads keeping
    lend long in
    let kept = book_talk s f begins.store_bytes begins.filter_bytes begins.knowledge_bytes_lem talk in
    let a = e.ended.0 in
    record {
      ended = e;
      book = b';
      talk = talk;
      turns = turns;
      made = made;
      all_along = book_right s f begins.store_bytes begins.filter_bytes begins.knowledge_bytes_lem talk (book.in_step, book.reads);
      in_step = in_step_kept s begins.store_bytes (filters_in f) kept book.in_step;
      all =
          unmarked_read s begins.store_bytes (filters_in f) kept book.in_step e.demand.answers a.before a.after a.first e.demand.read
          a.split a.unmarked;
    }

-- ---- from nothing

-- no knowledge is read, and nothing is known by it
pub begins_knowing_nothing : (s f : List ℕ) → AllBytes s → AllBytes f → Stands (store_walk s).last → Stands (filters_given f)
    → length f + 32768 ≤ longest_input → Begins s f []
unfolding exporting
begins_knowing_nothing s f bs bf reads filters short =
    record {
      store_bytes = bs;
      filter_bytes = bf;
      knowledge_bytes_lem = λ i. omega arith;
      store_reads = reads;
      filters_read_lem = filters;
      knowledge_reads = tt;
      said = omega arith;
      short = omega arith;
    }

-- an empty book is what a bench begins with that knows nothing
pub empty_begins : (s f : List ℕ) → Stands (store_walk s).last → BookBegins s f [] empty_book
unfolding exporting
empty_begins s f reads =
    let e : store_walk empty_book ≡ walked [] (At 4 0) = one_read.1 in
    record {
      reads = subst (λ (r : Walk). Stands r.last) (sym e) tt;
      fits = empty_fits empty_book s (ap (λ (r : Walk). map (kept_in empty_book) r.elements) e) reads;
      in_step = nothing_known_lem s (filters_in f) (knows_by []) empty_book (λ k. refl);
    }

pub bench_keeps_from_nothing : (s f : List ℕ) → Begins s f [] → (choices : List Choice) → Each (Ample s f []) choices
    → (keeping : List KeepChoice) → Each KeepLends keeping → length keeping ≡ length choices
    → max 1 (length (wanted_of s (filters_in f) (knows_by []))) ≤ length choices → KeptEnded s f (hands [] empty_book) choices keeping
bench_keeps_from_nothing s f begins = bench_keeps s f [] empty_book begins (empty_begins s f begins.store_reads)
