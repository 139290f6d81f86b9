-- Talks in which a bench keeps its answers are not about nothing: to every talk of a bench by the exported calls, on a store that fits
-- together with its book into one book, there is one with the same turns in which each answer is kept by hub_keep, under any list of choices,
-- into a buffer as long as book and answer together; and none is refused. For at every moment the elements of the book are the first book's
-- or the store's. An empty book fits every store that is read. A reader needs the statements of has_room, empty-fits, book-chooses,
-- book-talk and book-right only.
-- Assumes nothing.
use mathlib.Core.Path.{◌≡◌, refl, sym, ap, subst}
use mathlib.Core.Bool.{true}
use mathlib.Core.List.Memᴰ.{append_cases as in_either}
use mathlib.Core.List.Memᴰ.{append_left as in_front}
use mathlib.Core.List.Memᴰ.{append_right as in_rest}
use mathlib.Core.List.Memᴰ.{map as in_map}
use mathlib.Core.List.Memᴰ.{of_map}
use mathlib.Core.List.{List, [], ◌∷◌, ◌++◌, map, Memᴰ as In}
use mathlib.Core.Logic.{⊎_elim}
use Prim.Native.Nat.{ℕ, suc, ◌+◌, ◌≤◌}
use native.Mathlib.Omega.{arith}
use lib.ListN.{length, take, length-map}
use Rattle.laws.specs.Bytes.{AllBytes}
use Rattle.laws.specs.Once.{seen, once}
use Rattle.laws.specs.Placed.{placed}
use Rattle.laws.proofs.Cases.{by_lt}
use Rattle.laws.proofs.Twice.{seen_append}
use Rattle.numbers.specs.Refusals.{longest_input}
use Rattle.talk.specs.Each.{Each}
use Rattle.talk.specs.Series.Chain.{done, next}
use Rattle.talk.specs.Series.Trace.{over, then}
use Rattle.store.specs.Element.{same_key}
use Rattle.store.specs.Store.{store_walk, Stands}
use Rattle.store.specs.declared.element.Key.{Key}
use Rattle.store.proofs.Chains.{store_read, ids_once, over_long_lem}
use Rattle.store.proofs.Found.{store_most}
use Rattle.order.specs.Groups.{members_of}
use Rattle.order.proofs.GroupMembers.{in_members}
use Rattle.request.specs.Message.{filters_of}
use Rattle.pages.specs.Answer.{known_in}
use Rattle.pages.specs.Choice.{knows_key}
use Rattle.enter.specs.Entering.{Kept, kept_id, new_to, enter}
use Rattle.enter.specs.Package.{kept_in}
use Rattle.enter.proofs.EnteringLaws as entering
use Rattle.enter.proofs.EnteringLaws.{length_most, enter_ids, all_come, nothing_else}
use Rattle.enter.proofs.Keys.{seen_member, member_seen}
use Rattle.enter.proofs.KeptIn.{kept_in_ids}
use Rattle.enter.proofs.PackageLeast.{store_joined, among_joined, length_packed}
use Rattle.client.specs.Read.{package_in, answer_end}
use Rattle.book.specs.Keep.{Outcome, kept, in_book, in_answer, kept_elements, keep_outcome, book_after}
use Rattle.book.specs.Refusing.{new_book, Enters}
use Rattle.book.proofs.AfterKeep.{answer_ids_once, room_enough}
use Rattle.book.proofs.Refusals.{enters_kept}
use Rattle.hub.specs.Keep.{keep_number, keep_report, HubKeeps}
use Rattle.evidence.specs.Bench.{filters_in, knows_by, Exchange, BenchTalk, choices_in, KeepChoice, KeepLends, Hands, hands, BookExchange, BookTalk, exchanges_in, keep_choices_in, AllAlong, RightIn, BookFits}
use Rattle.evidence.specs.Book.{by_hub_keep, Standing, KeptAsk, KeptTalk}
use Rattle.evidence.specs.Calling.{report_number}
use Rattle.evidence.proofs.DemandTwo.{DemandTwo}
use Rattle.evidence.proofs.Holding.{of_store}
use Rattle.evidence.proofs.InStep.{in_step_kept}
use Rattle.evidence.proofs.KeepDemands.{BookDemandTwo, demand_two_keep}
use Rattle.evidence.proofs.Keeping.{answer_stands, answer_kept, page_wanted}
use Rattle.evidence.proofs.NoMore.{no_more}
use Rattle.evidence.proofs.Turns.{TurnTells, turn_tells, turn_answered, next_bytes}

-- ---- what an answer brings is the store's

answer_stored : (s q : List ℕ) (room : ℕ) (w : List ℕ) → DemandTwo s q room w → (x : Kept) → In x (in_answer w) → In x (in_book s)
answer_stored s q room w h x m =
    let (y, n, e) = of_map (kept_in s) (members_of h.page) (subst (In x) (answer_kept s q room w h) m) in
    let (g, i, j) = in_members h.page n in
    let stored = (page_wanted s (filters_of q) (knows_key (known_in q)) h.page h.rest h.run g i).0 in
    subst (λ (z : Kept). In z (in_book s)) e (in_map (kept_in s) (of_store s stored j))

-- ---- a book whose elements are the first book's or the store's

-- the book c, where the book was b at the start of a talk on the store s
pub record OfBoth (b s c : List ℕ) : Type 0 where
  pub reads : Stands (store_walk c).last
  pub among : (x : Kept) → In x (in_book c) → In x (in_book b ++ in_book s)

pub at_first : (b s : List ℕ) → Stands (store_walk b).last → OfBoth b s b
at_first b s r = record { reads = r; among = λ x m. in_front (in_book s) m }

-- no id stands twice in a store that is read
stored_once : (s : List ℕ) → Stands (store_walk s).last → once same_key (map kept_id (in_book s)) ≡ true
stored_once s r = rw (kept_in_ids s (store_walk s).elements) (ids_once s (store_read s r))

module _ (b s : List ℕ) (r : Stands (store_walk s).last) (fits : BookFits b s) where
  abbrev together : List Kept
  together = enter (in_book b) (in_book s)

  -- each id of both stands in the book with the store entered
  id_there : (x : Kept) → In x (in_book b ++ in_book s) → seen same_key x.id (map kept_id together) ≡ true
  id_there x m =
      ⊎_elim
      (λ n.
      let ids = enter_ids (in_book b) (in_book s) in
      let both = seen_append same_key x.id (map kept_id (in_book b)) (map kept_id (new_to (in_book b) (in_book s))) in
      let there : seen same_key x.id (map kept_id (in_book b)) ≡ true = seen_member kept_id (in_book b) n in
      rw (ids, both, there))
      (λ n. seen_member kept_id together (all_come (in_book b) (in_book s) (stored_once s r) x n))
      (in_either (in_book b) m)

  -- an answer that is read and whose elements are the store's
  module _ (c w : List ℕ) (h : OfBoth b s c) (g : Stands (answer_end w)) (stored : (x : Kept) → In x (in_answer w) → In x (in_book s)) where
    new_among : (x : Kept) → In x (enter (in_book c) (in_answer w)) → In x (in_book b ++ in_book s)
    new_among x m = ⊎_elim (λ n. h.among x n.0) (λ n. in_rest (in_book b) (stored x n)) (nothing_else (in_book c) (in_answer w) x m)

    new_once : once same_key (map kept_id (enter (in_book c) (in_answer w))) ≡ true
    new_once =
        entering.ids_once (in_book c) (in_answer w) (stored_once c h.reads) (rw (kept_in_ids w (package_in w).elements) (answer_ids_once w g))

    new_ids : (k : Key) → seen same_key k (map kept_id (enter (in_book c) (in_answer w))) ≡ true → seen same_key k (map kept_id together) ≡ true
    new_ids k t =
        let (x, m, e) = member_seen kept_id k (enter (in_book c) (in_answer w)) t in
        subst (λ (j : Key). seen same_key j (map kept_id together) ≡ true) e (id_there x (new_among x m))

    -- it enters the book: neither 9 nor 1 is met, nor 14 in a buffer as long as book and answer together
    pub has_room : Enters c w (length c + length w)
    unfolding kept_elements
    has_room =
        let many = no_more (map kept_id (enter (in_book c) (in_answer w))) (map kept_id together) new_once new_ids in
        let i = length-map (enter (in_book c) (in_answer w)) kept_id in
        let j = length-map together kept_id in
        let few = fits.few in
        let long = among_joined (enter (in_book c) (in_answer w)) (in_book b ++ in_book s) new_once new_among in
        let d = length_packed (enter (in_book c) (in_answer w)) in
        let e = length_packed (in_book b ++ in_book s) in
        let short = fits.short in
        record { book_reads = h.reads; answer_reads = g; few = omega arith; short = omega arith; fits = room_enough c w h.reads g }

-- an empty book fits every store that is read
pub empty_fits : (b s : List ℕ) → in_book b ≡ [] → Stands (store_walk s).last → BookFits b s
empty_fits b s none r =
    let a = length_most [] (in_book s) in
    let m = length-map (store_walk s).elements (kept_in s) in
    let most = store_most s in
    let d = length_packed (in_book s) in
    let j = store_joined s r in
    let short : length s ≤ longest_input = by_lt longest_input (length s) (λ l. absurd (over_long_lem s l r)) (λ l. l) in
    record { few = rw none (omega arith); short = rw none (omega arith) }

-- ---- a turn

-- a turn was made under each choice
pub length_choices : {s f k k' : List ℕ} {ws : List (List ℕ)} (talk : BenchTalk s f k ws k') → length (choices_in talk) ≡ length ws
length_choices done = refl
length_choices (next t c) = ap suc (length_choices c)

module _ (s f b : List ℕ) (bs : AllBytes s) (bf : AllBytes f) (r : Stands (store_walk s).last) (fits : BookFits b s) where
  module _ (k w k' : List ℕ) (bk : AllBytes k) (t : Exchange s f k w k') (x : KeepChoice) (lends : KeepLends x) (c : List ℕ) (h : OfBoth b s c) where
    abbrev block : List ℕ
    block = x.block (length c + length w)

    abbrev result : Outcome
    result = keep_outcome c w (length block)

    abbrev report' : List ℕ
    report' = placed (keep_report result) x.report

    abbrev new_book_lem : List ℕ
    new_book_lem = take (report_number 2 report') (book_after result block)

    abbrev two : TurnTells s f k w k'
    two = turn_tells s f k w k' bs bf bk t

    answer_reads : Stands (answer_end w)
    answer_reads = answer_stands s two.request two.room w two.held

    brings : (y : Kept) → In y (in_answer w) → In y (in_book s)
    brings = answer_stored s two.request two.room w two.held

    nothing_refused : result ≡ kept (new_book c w)
    nothing_refused =
        enters_kept c w (length block) (subst (Enters c w) (sym (lends.block (length c + length w))) (has_room b s r fits c w h answer_reads brings))

    keeps : HubKeeps c w 0 block (book_after result block) x.report report'
    unfolding keep_number
    keeps = (ap keep_number (sym nothing_refused), refl, refl)

    book_turn : BookExchange s f (hands k c) w (hands k' new_book_lem)
    book_turn = record { exchange = t; choice = x; lends = lends; new = book_after result block; report = report'; keeps = keeps; next = refl }

    of_both_next : OfBoth b s new_book_lem
    of_both_next =
        let d : BookDemandTwo c w new_book_lem =
        demand_two_keep c w new_book_lem (by_hub_keep block (book_after result block) x.report report' keeps lends.report refl) in
        record { reads = d.reads; among = λ y m. new_among b s r fits c w h answer_reads brings y (subst (In y) d.elements m) }

  -- to each turn of a talk
  book_turns : {k k' : List ℕ} {ws : List (List ℕ)} → AllBytes k → (talk : BenchTalk s f k ws k') (choices : List KeepChoice) → Each KeepLends choices
      → length choices ≡ length ws → (c : List ℕ) → OfBoth b s c
      → (c' : List ℕ) × (turns : BookTalk s f (hands k c) ws (hands k' c')) × (exchanges_in turns ≡ talk) × (keep_choices_in turns ≡ choices)
  unfolding book_turn
  book_turns bk done [] lend e c h = (c, done, refl, refl)
  book_turns bk done (x ∷ choices) lend e c h = absurd (omega arith)
  book_turns bk (next t talk) [] lend e c h = absurd (omega arith)
  book_turns {k} {k'} bk (next {m = m} {a = w} {given = ws} t talk) (x ∷ choices) lend e c h =
      let (c', turns, same, made) =
      book_turns (next_bytes s f k w m bs bf bk t) talk choices lend.1 (omega arith) (new_book_lem k w m bk t x lend.0 c h)
      (of_both_next k w m bk t x lend.0 c h) in (
        c',
        next (book_turn k w m bk t x lend.0 c h) turns,
        ap (λ (l : BenchTalk s f m ws k'). next t l) same,
        ap (λ (l : List KeepChoice). x ∷ l) made,
      )

  -- every answer of a talk can be kept, under any choices
  pub book_chooses : {k k' : List ℕ} {ws : List (List ℕ)} → AllBytes k → (talk : BenchTalk s f k ws k') → Stands (store_walk b).last
      → (choices : List KeepChoice) → Each KeepLends choices → length choices ≡ length ws
      → (b' : List ℕ) × (turns : BookTalk s f (hands k b) ws (hands k' b')) × (exchanges_in turns ≡ talk) × (keep_choices_in turns ≡ choices)
  book_chooses bk talk reads choices lend e = book_turns bk talk choices lend e b (at_first b s reads)

-- ---- the talk

-- what a bench has, its knowledge as a set
abbrev pub standing : Hands → Standing
standing z = record { know = knows_by z.knowledge; book = z.book }

-- a turn is an ask whose answer is kept
pub book_ask : (s f : List ℕ) → AllBytes s → AllBytes f → (z : Hands) (w : List ℕ) (z' : Hands) → AllBytes z.knowledge → BookExchange s f z w z'
    → KeptAsk s (filters_in f) (standing z) w (standing z')
book_ask s f bs bf z w z' bk t = (
  turn_answered s f z.knowledge w z'.knowledge bs bf bk t.exchange,
  by_hub_keep (t.choice.block (length z.book + length w)) t.new t.choice.report t.report t.keeps t.lends.report t.next,
)

pub book_talk : (s f : List ℕ) → AllBytes s → AllBytes f → {z z' : Hands} {ws : List (List ℕ)} → AllBytes z.knowledge → BookTalk s f z ws z'
    → KeptTalk s (filters_in f) (standing z) ws (standing z')
book_talk s f bs bf bk done = over
book_talk s f bs bf bk (next {k = z} {m = m} {a = w} t c) =
    then (book_ask s f bs bf z w m bk t) (book_talk s f bs bf (next_bytes s f z.knowledge w m.knowledge bs bf bk t.exchange) c)

-- ---- the book, all along

pub book_right : (s f : List ℕ) → AllBytes s → AllBytes f → {z z' : Hands} {ws : List (List ℕ)} → AllBytes z.knowledge → (talk : BookTalk s f z ws z')
    → RightIn s f z
    → AllAlong (RightIn s f) talk
book_right s f bs bf bk done h = h
book_right s f bs bf bk (next {k = z} {m = m} {a = w} t c) h =
    let ask = book_ask s f bs bf z w m bk t in (
      h,
      book_right s f bs bf (next_bytes s f z.knowledge w m.knowledge bs bf bk t.exchange) c
          (in_step_kept s bs (filters_in f) {z = standing z} {z' = standing m} (then ask over) h.0, (demand_two_keep _ _ _ ask.1).reads),
    )
