-- Demand 3: "Take one store, one list of filters and a first knowledge of at most 256 ranges and entries. The client asks again with the
-- last answer's knowledge, under limits and buffers that may differ each time; refused asks change nothing and are not counted. Then
-- the answers joined are an initial run of the list of all elements wanted at the start, none sent twice. If n were wanted, an
-- unmarked answer comes at the n-th answer or sooner (at the first, if n is 0), and the run is then the whole list."
-- A reader needs the two records, whose lines are the demand's, and the statements of `demand_three` and `goes_on` below them. The first
-- holds of every talk, on whatever store and from whatever first knowledge; that this has at most 256 ranges and entries is needed for
-- the second alone: the talk goes on until it ends.
-- Assumes nothing.
use mathlib.Core.Path.{◌≡◌, refl, sym, ap, subst, ◌∙◌}
use mathlib.Core.Logic.{⊎_elim}
use mathlib.Core.Bool.{Bool, true, false}
use mathlib.Core.List.{List, [], ◌∷◌, ◌++◌, map}
use Prim.Native.Nat.{ℕ, ◌≤◌, ◌<◌, max}
use lib.ListN.{length, take}
use lib.Seq.{take_at}
use Rattle.laws.specs.Bytes.{AllBytes}
use Rattle.laws.specs.Once.{once}
use Rattle.numbers.specs.declared.refusal.Refusal.{Refusal}
use Rattle.talk.specs.Series.{Answer, InitialRun, joined_pages, FirstUnmarked, Delivers}
use Rattle.store.specs.Element.{same_key}
use Rattle.talk.specs.Wanted.{wanted}
use Rattle.store.specs.declared.element.Element.{Element}
use Rattle.store.proofs.Chains.{same_turn, store_read, ids_once}
use Rattle.order.specs.Groups.{Group, group_serial, members_of}
use Rattle.order.proofs.Grouping.{once_grouped}
use Rattle.order.proofs.Ordering.{rearranged}
use Rattle.order.proofs.Rearranged.{once_rearranged}
use Rattle.store.specs.declared.element.Key.{Key}
use Rattle.request.specs.Meaning.{Filter}
use Rattle.request.specs.Message.{filters_of}
use Rattle.request.proofs.RequestFits.{known_fit, known_normal}
use Rattle.pages.specs.Answer.{Ask, known_in, page_bytes, TellsLength, WritesAnswer}
use Rattle.pages.specs.Choice.{knows_key}
use Rattle.pages.specs.Cases.{Few, smallest, Asks}
use Rattle.pages.specs.Results.Answered.{Answered}
use Rattle.pages.specs.Results.Answered as answer
use Rattle.client.specs.Ask.{knowledge_of}
use Rattle.hub.specs.Call.{HubTellsLength, HubWritesAnswer}
use Rattle.evidence.specs.Bench.{knows_by, said_by}
use Rattle.evidence.specs.Calling.{report_number, GivesRefusal}
use Rattle.evidence.specs.Refusing.{Tables}
use Rattle.evidence.specs.Talk.{elements_of, in_row_order, groups_of, leaves_in, wanted_of, SameSet, said_in, Talk, AllReadAs}
use Rattle.evidence.proofs.GoingOn.{few_ranges, no_page_nine, told_zero, written_zero, none_told, none_refused, pair_zero, pair_sent_lem}
use Rattle.evidence.proofs.Said.{said_in_lem, said_by_lem, given_normal, given_fits}
use Rattle.evidence.proofs.Series.{Read, all_read, delivered}

-- the answers ws on the store s, under the filters fs, where know is what is known at the start
pub record DemandThree (s : List ℕ) (fs : List Filter) (know : Key → Bool) (ws : List (List ℕ)) : Type 0 where
  -- what a bench reads in them
  pub answers : List (Answer Group)
  pub read : AllReadAs s ws answers
  -- "Then the answers joined are an initial run of the list of all elements wanted at the start,", which is of groups (document 02, Q-3:
  -- "Demands 2 and 3 take groups in this order; n counts groups"), in row order (Q-14)
  pub initial : InitialRun (joined_pages answers) (wanted_of s fs know)
  -- "none sent twice."
  pub none_twice : once same_key (map group_serial (joined_pages answers)) ≡ true
  -- "If n were wanted, an unmarked answer comes at the n-th answer or sooner (at the first, if n is 0),": once so many answers have come,
  -- there is a first unmarked one, and fewer than so many are before it
  pub soon : max 1 (length (wanted_of s fs know)) ≤ length answers
      → (f : FirstUnmarked answers) × (length f.before < max 1 (length (wanted_of s fs know)))
  -- "and the run is then the whole list": and nothing is sent behind it
  pub whole : (before after : List (Answer Group)) (a : Answer Group) → answers ≡ before ++ (a ∷ after) → a.marked ≡ false
      → (joined_pages (before ++ (a ∷ [])) ≡ wanted_of s fs know) × (joined_pages after ≡ [])

-- the next ask, by the request q, by which a is asked
pub record GoesOn (s q : List ℕ) (a : Ask) : Type 0 where
  -- 9 for a page never comes
  pub no_nine : (room : ℕ) → GivesRefusal s q room 9 → ⊥
  -- and where there is room for the page of 1 (of 0, if nothing is wanted), nothing is refused: not by the exported calls, of which one is
  -- offered a length, and the other lent an output ..
  pub told : (r offered : ℕ) (report report' : List ℕ) → length (page_bytes a (smallest a)) ≤ offered → HubTellsLength s q offered r report report' → r ≡ 0
  pub written : (r : ℕ) (out out' report report' : List ℕ) → length (page_bytes a (smallest a)) ≤ length out → HubWritesAnswer s q r out out' report report' → r ≡ 0
  -- .. nor by the calls that are lent tables, if they are long enough
  pub told_lent : (r : Refusal) (offered : ℕ) (rows rows' ranges ranges' : List ℕ) → Tables (length rows) (length ranges) → length (page_bytes a (smallest a)) ≤ offered
      → TellsLength s q offered (answer.Refused r) rows rows' ranges ranges' → ⊥
  pub written_lent : (r : Refusal) (rows rows' ranges ranges' out out' : List ℕ) → Tables (length rows) (length ranges) → length (page_bytes a (smallest a)) ≤ length out
      → WritesAnswer s q (answer.Refused r) rows rows' ranges ranges' out out' → ⊥
  -- nor by both, of which the one is offered such room, and the other lent exactly the length that was then told: by the exported calls ..
  pub pair : (r offered : ℕ) (told told' : List ℕ) → length (page_bytes a (smallest a)) ≤ offered → HubTellsLength s q offered r told told' → 24 ≤ length told
      → (number : ℕ) (out out' report report' : List ℕ) → length out ≡ report_number 2 told' → HubWritesAnswer s q number out out' report report' → (r ≡ 0) × (number ≡ 0)
  -- .. and by the others: the second then returns what the first returned
  pub pair_lent : (r : Answered) (offered : ℕ) (rows rows' ranges ranges' : List ℕ) → Tables (length rows) (length ranges) → length (page_bytes a (smallest a)) ≤ offered
      → TellsLength s q offered r rows rows' ranges ranges'
      → (n : ℕ) × (rowCount : ℕ) × (rangeCount : ℕ) × (r ≡ answer.Sent n rowCount rangeCount)
      × ((t : Answered) (rowsThen rowsThen' rangesThen rangesThen' out out' : List ℕ) → Tables (length rowsThen) (length rangesThen) → length out ≡ n
      → WritesAnswer s q t rowsThen rowsThen' rangesThen rangesThen' out out' → t ≡ r)

pub demand_three : (s : List ℕ) → AllBytes s → (fs : List Filter) (know know' : Key → Bool) (ws : List (List ℕ)) → Talk s fs know ws know' → DemandThree s fs know ws
demand_three s b fs know know' ws t =
    let z : Read s fs know ws know' = all_read s b fs t in
    let d : Delivers same_key group_serial (groups_of s) (leaves_in s fs) know z.answers = delivered s b fs z in
    record {
      answers = z.answers;
      read = z.read;
      initial = d.converges.initial;
      none_twice = d.none_twice;
      soon = d.converges.soon;
      whole = d.converges.whole;
    }

-- these answers are the ones that were read, ask by ask; for KnowsAgain
pub answers_read : (s : List ℕ) (b : AllBytes s) (fs : List Filter) (know know' : Key → Bool) (ws : List (List ℕ)) (t : Talk s fs know ws know')
    → (demand_three s b fs know know' ws t).answers ≡ (all_read s b fs t).answers
unfolding demand_three
answers_read s b fs know know' ws t = refl

-- "none sent twice", of elements too: no id comes twice in the answers of a talk
pub no_element_twice : (s : List ℕ) (b : AllBytes s) (fs : List Filter) (know know' : Key → Bool) (ws : List (List ℕ)) (t : Talk s fs know ws know')
    → once same_key (map (λ (x : Element). x.id) (members_of (joined_pages (demand_three s b fs know know' ws t).answers))) ≡ true
unfolding once members_of wanted
no_element_twice s b fs know know' ws t =
    let d = demand_three s b fs know know' ws t in
    let sent = joined_pages d.answers in
    let first : take (length sent) (wanted_of s fs know) ≡ sent = ap (take (length sent)) (sym d.initial.1) ∙ take_at sent d.initial.0 (length sent) refl in
    ⊎_elim
    (λ e.
    subst (λ (answers : List (Answer Group)). once same_key (map (λ (x : Element). x.id) (members_of (joined_pages answers))) ≡ true)
    (sym (answers_read s b fs know know' ws t ∙ e)) refl)
    (λ h.
    subst (λ (page : List Group). once same_key (map (λ (x : Element). x.id) (members_of page)) ≡ true) first
    (once_grouped same_key (λ (x : Element). x.id) same_turn _ (length sent) (in_row_order s)
    (once_rearranged same_key (λ (x : Element). x.id) same_turn (rearranged (elements_of s)) (ids_once s (store_read s h)))))
    (all_read s b fs t).stands

-- the first knowledge is that of a request that says at most 256 ranges and entries; after any talk, a request with the filters that
-- carries what is known, and is read
pub goes_on : (s : List ℕ) → AllBytes s → (fs : List Filter) (first : List ℕ) → AllBytes first → said_in first ≤ 256 → (know' : Key → Bool) (ws : List (List ℕ))
    → Talk s fs (knows_key (known_in first)) ws know' → (q : List ℕ) → AllBytes q → filters_of q ≡ fs → SameSet know' (known_in q) → (a : Ask) → Asks s q a → GoesOn s q a
goes_on s b fs first d said know' ws t q e filters carried a asks =
    let few : Few a =
    few_ranges s b fs know' (known_in first) (known_normal first []).0 (known_fit first [] d) (said_in_lem first said) ws t q e filters carried a asks in
    record {
      no_nine = no_page_nine s q a asks few;
      told = told_zero s q a asks few;
      written = written_zero s q a asks few;
      told_lent = none_told s q a asks few;
      written_lent = none_refused s q a asks few;
      pair = pair_zero s q a asks few b e;
      pair_lent = pair_sent_lem s q a asks few;
    }

-- the same where the first knowledge is what a bench hands to hub_ask
pub bench_goes_on : (s : List ℕ) → AllBytes s → (fs : List Filter) (first : List ℕ) → AllBytes first → said_by first ≤ 256 → (know' : Key → Bool) (ws : List (List ℕ))
    → Talk s fs (knows_by first) ws know' → (q : List ℕ) → AllBytes q → filters_of q ≡ fs → SameSet know' (known_in q) → (a : Ask) → Asks s q a → GoesOn s q a
bench_goes_on s b fs first d said know' ws t q e filters carried a asks =
    let few : Few a =
    few_ranges s b fs know' (knowledge_of first).ranges (given_normal first) (given_fits first d) (said_by_lem first said) ws t q e filters carried a asks in
    record {
      no_nine = no_page_nine s q a asks few;
      told = told_zero s q a asks few;
      written = written_zero s q a asks few;
      told_lent = none_told s q a asks few;
      written_lent = none_refused s q a asks few;
      pair = pair_zero s q a asks few b e;
      pair_lent = pair_sent_lem s q a asks few;
    }
