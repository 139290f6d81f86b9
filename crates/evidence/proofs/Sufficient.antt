-- Which output suffices. include/hub.h says of hub_write: "No answer of hub_write is larger: an output of so many bytes always suffices.
-- So does, for a store of n bytes, one of n + HUB_ANSWER_OVER_STORE. If more than this is offered to hub_length, it tells the same." And
-- of hub_ask: "No request of hub_ask .. is larger: an output of so many bytes always suffices." That an output suffices says two things:
-- it is never refused with 14, and more room would not get a longer page. This is for whoever sizes buffers by the header. A reader needs
-- `Sufficient` and the types of the laws that have `pub` before them. What stands behind a `=`, and every law without `pub`, can be
-- skipped.
-- Assumes nothing.
use mathlib.Core.Path.{◌≡◌, refl, sym, ap, ◌∙◌}
use mathlib.Core.Bool.{Bool}
use mathlib.Core.List.{List, []}
use mathlib.Core.Logic.{◌⊎◌, ⊎_elim}
use Prim.Native.Nat.{ℕ, suc, ◌+◌, ◌≤◌}
use native.Mathlib.Omega.{arith}
use lib.ListN.{length}
use borrow.Author.Tests.{le-leb, lt-leb}
use Rattle.laws.specs.Bytes.{AllBytes}
use Rattle.laws.proofs.Cases.{by_lt, by_eq}
use Rattle.numbers.specs.Refusals.{longest_input, tell_wrote}
use Rattle.numbers.specs.declared.refusal.Refusal.{Refusal}
use Rattle.numbers.specs.Results.Wrote.{Wrote}
use Rattle.numbers.specs.Results.Wrote as wrote
use Rattle.talk.specs.Page.{Greatest}
use Rattle.talk.proofs.PageRule.{greatest_one}
use Rattle.store.specs.Knowledge.{most_said}
use Rattle.store.specs.Store.{store_walk, Stands}
use Rattle.store.specs.Held.{ranges_with}
use Rattle.order.specs.Order.{ranked_numbers}
use Rattle.store.proofs.Chains.{over_long_lem}
use Rattle.request.proofs.RequestFits.{known_normal}
use Rattle.pages.specs.Answer.{Ask, Outcome, refused, answered, knowledge_numbers, page_bytes, page_measure, page_ranges}
use Rattle.pages.specs.Cases.{Asks, Few, TooShort, smallest}
use Rattle.pages.specs.Decision.{is_sendable, sendable}
use Rattle.pages.proofs.Refusing.{asked_most, answered_asks, call_sends}
use Rattle.client.specs.Ask.{ask_wrote, filters_given, knowledge_given}
use Rattle.client.specs.AskWritten.{ask_bytes}
use Rattle.client.specs.Read.{longest_answer}
use Rattle.client.proofs.CallBack.{asked_size}
use Rattle.client.proofs.NextAsk.{filters_fine, knowledge_fine, room_enough}
use Rattle.hub.specs.Bench.{HubAsks}
use Rattle.hub.specs.Call.{hub_outcome, HubTellsLength, HubWritesAnswer}
use Rattle.hub.proofs.Laws.{tables_enough}
use Rattle.evidence.specs.Calling.{GivesAnswer}
use Rattle.evidence.specs.Refusing.{Why}
use Rattle.evidence.proofs.Calling.{gave_outcome, read_within}
use Rattle.evidence.proofs.DemandOne.{demand_one_hub_length_numbers}
use Rattle.evidence.proofs.DemandTwo.{demand_two}
use Rattle.evidence.proofs.Refusals.{refused_why, why_refused, request_written, ask_why, why_ask_short}

-- so many bytes of output, for an answer from the store s: HUB_LARGEST_ANSWER, 16,842,752, or the store's length and
-- HUB_ANSWER_OVER_STORE
abbrev pub Sufficient : List ℕ → ℕ → Type 0
Sufficient s room = (longest_answer ≤ room) ⊎ (length s + 65536 ≤ room)

-- ---- a page with no more ranges than a knowledge may say fits such an output

-- a store that is read is not over-long, so that the second bound is the lower one
lower_bound : (s : List ℕ) (room : ℕ) → Stands (store_walk s).last → Sufficient s room → length s + 65536 ≤ room
lower_bound s room h enough =
    let short : length s ≤ longest_input = by_lt longest_input (length s) (λ l. absurd (over_long_lem s l h)) (λ l. l) in
    ⊎_elim (λ (m : longest_answer ≤ room). omega arith) (λ m. m) enough

module _ (s q : List ℕ) (b : AllBytes s) (d : AllBytes q) (a : Ask) (x : Asks s q a) where
  page_fits : (room : ℕ) → Sufficient s room → (j : ℕ) → length (page_ranges a j) ≤ most_said → length (page_bytes a j) ≤ room
  page_fits room enough j few =
      let size = asked_size s q b d a x j few in
      let bound = lower_bound s room x.store_reads enough in
      omega arith

  -- the page of 0 carries what the request knows
  page_of_none : length (page_ranges a 0) ≤ most_said
  unfolding page_ranges ranges_with
  page_of_none = rw x.asked (known_normal q []).1

  smallest_few : Few a → length (page_ranges a (smallest a)) ≤ most_said
  smallest_few few =
      let most = asked_most s q a x in
      by_eq (length a.wanted) 0 (λ e. let z : smallest a ≡ 0 = omega arith in rw z page_of_none)
      (λ n. let z : smallest a ≡ 1 = omega arith in let f = few (omega arith) in rw z (omega arith))

-- ---- an answer is not refused with 14

not_too_short : (s q : List ℕ) → AllBytes s → AllBytes q → (room : ℕ) → Sufficient s room → (a : Ask) → TooShort s q room a → ⊥
not_too_short s q b d room enough a t =
    let fits = page_fits s q b d a t.asks room enough (smallest a) (smallest_few s q b d a t.asks t.few) in
    let needs = t.needs in
    omega arith

pub hub_length_suffices : (s q : List ℕ) → AllBytes s → AllBytes q → (offered number : ℕ) (report report' : List ℕ) → Sufficient s offered
    → HubTellsLength s q offered number report report' → number ≡ 14 → ⊥
hub_length_suffices s q b d offered number report report' enough h e =
    let (tables, a, short) = (demand_one_hub_length_numbers s q offered number report report' h).fourteen.0 e in
    not_too_short s q b d offered enough a short

pub hub_write_suffices : (s q : List ℕ) → AllBytes s → AllBytes q → (number : ℕ) (out out' report report' : List ℕ) → Sufficient s (length out)
    → HubWritesAnswer s q number out out' report report' → number ≡ 14 → ⊥
hub_write_suffices s q b d number out out' report report' enough h e = hub_length_suffices s q b d (length out) number report report' enough (h.0, h.2) e

-- ---- nor is a request: HUB_LARGEST_REQUEST is the longest input, 16,777,216

written_suffices : (id limit : ℕ) (f k : List ℕ) (room : ℕ) → longest_input ≤ room → (o : Wrote) → ask_wrote id limit f k room ≡ o
    → (tell_wrote o).number ≡ 14 → ⊥
written_suffices id limit f k room enough (wrote.Done n) is e = omega arith
written_suffices id limit f k room enough (wrote.Refused r) is e =
    let (short, needs) = why_ask_short id limit f k room r (ask_why id limit f k room r is) e in
    omega arith

pub hub_ask_suffices : (id limit : ℕ) (f k : List ℕ) (number : ℕ) (out out' report report' : List ℕ) → longest_input ≤ length out
    → HubAsks id limit f k number out out' report report' → number ≡ 14 → ⊥
hub_ask_suffices id limit f k number out out' report report' enough h e =
    written_suffices id limit f k (length out) enough (ask_wrote id limit f k (length out)) refl (sym h.0 ∙ e)

-- ---- no request is larger than HUB_LARGEST_REQUEST, and no answer larger than HUB_LARGEST_ANSWER

-- the request is the one of `RequestGiven` in specs/Results
pub largest_request : (id limit : ℕ) (f k out out' report report' : List ℕ) → HubAsks id limit f k 0 out out' report report'
    → length (ask_bytes id limit f k) ≤ longest_input
unfolding ask_wrote
largest_request id limit f k out out' report report' h =
    let (n, is) = request_written id limit f k (length out) (ask_wrote id limit f k (length out)) refl h.0 in
    let filters = filters_fine (filters_given f) _ n is in
    let knowledge = knowledge_fine (knowledge_given k) _ n filters.3 in
    (room_enough (length out) (ask_bytes id limit f k) n knowledge.3).0

pub largest_answer : (s q : List ℕ) → AllBytes s → AllBytes q → (room : ℕ) (w : List ℕ) → GivesAnswer s q room w → length w ≤ longest_answer
largest_answer s q b d room w g = read_within w _ (demand_two s q b d room w g).read.read

-- ---- more room gets no longer page: two such outputs get the same answer

-- where a page fits both outputs unless it has too many ranges, it may be sent in both or in neither
same_sendable : (most limit room room' j stored ranges whole : ℕ) → (ranges ≤ most → (whole ≤ room) × (whole ≤ room'))
    → is_sendable most limit room j stored ranges whole ≡ is_sendable most limit room' j stored ranges whole
unfolding is_sendable
same_sendable most limit room room' j stored ranges whole fits =
    by_lt most ranges (λ l. rw (lt-leb ranges most l))
    (λ l. rw (le-leb ranges most l, le-leb whole room (fits l).0, le-leb whole room' (fits l).1))

same_greatest : (ok ok' : ℕ → Bool) → ((j : ℕ) → ok j ≡ ok' j) → (n k : ℕ) → Greatest ok n k → Greatest ok' n k
same_greatest ok ok' same n k g =
    record { most = g.most; every = λ j l u. sym (same j) ∙ g.every j l u; stop = λ l. sym (same (suc k)) ∙ g.stop l }

module _ (s q : List ℕ) (b : AllBytes s) (d : AllBytes q) (a : Ask) (x : Asks s q a) (room room' : ℕ) (enough : Sufficient s room) (enough' : Sufficient s room') where
  same_page : (j : ℕ) → sendable a.most a.limit room (page_measure a) j ≡ sendable a.most a.limit room' (page_measure a) j
  unfolding page_measure
  same_page j =
      same_sendable a.most a.limit room room' j _ _ _
      (λ few.
      let most = asked_most s q a x in
      let carried : length (page_ranges a j) ≤ a.most = few in
      let said : length (page_ranges a j) ≤ most_said = omega arith in
      (page_fits s q b d a x room enough j said, page_fits s q b d a x room' enough' j said))

  same_count : (k k' : ℕ) → Greatest (sendable a.most a.limit room (page_measure a)) (length a.wanted) k
      → Greatest (sendable a.most a.limit room' (page_measure a)) (length a.wanted) k' → k ≡ k'
  same_count k k' g g' =
      greatest_one (sendable a.most a.limit room' (page_measure a)) (length a.wanted) k k'
      (same_greatest (sendable a.most a.limit room (page_measure a)) (sendable a.most a.limit room' (page_measure a)) same_page (length a.wanted) k g) g'

pub same_answer : (s q : List ℕ) → AllBytes s → AllBytes q → (room room' : ℕ) → Sufficient s room → Sufficient s room' → (w w' : List ℕ)
    → GivesAnswer s q room w → GivesAnswer s q room' w' → w ≡ w'
same_answer s q b d room room' enough enough' w w' g g' =
    let (all, l, is) = gave_outcome s q b d room w g in
    let (all', l', is') = gave_outcome s q b d room' w' g' in
    let (a, x) = answered_asks s q room w all l is in
    let y = call_sends s q room a x w all l is in
    let z = call_sends s q room' a x w' all' l' is' in
    let same = same_count s q b d a x room room' enough enough' y.count z.count y.greatest z.greatest in
    y.bytes_are ∙ ap (page_bytes a) same ∙ sym z.bytes_are

-- ---- "If more than this is offered to hub_length, it tells the same.": no reason to refuse depends on the room but that of 14, which is
-- not given

same_why : (s q : List ℕ) → AllBytes s → AllBytes q → (rows ranges room room' : ℕ) → Sufficient s room → (r : Refusal) → Why s q rows ranges room r → Why s q rows ranges room' r
same_why s q b d rows ranges room room' enough r (Why.tables t e) = Why.tables t e
same_why s q b d rows ranges room room' enough r (Why.store t e) = Why.store t e
same_why s q b d rows ranges room room' enough r (Why.request t h e) = Why.request t h e
same_why s q b d rows ranges room room' enough r (Why.crowded t a x p m e) = Why.crowded t a x p m e
same_why s q b d rows ranges room room' enough r (Why.short t a x few needs e) =
    absurd (not_too_short s q b d room enough a (record { asks = x; few = few; needs = needs }))

same_refused : (s q : List ℕ) → AllBytes s → AllBytes q → (room room' : ℕ) → Sufficient s room → (r : Refusal) → hub_outcome s q room ≡ refused r
    → hub_outcome s q room' ≡ refused r
same_refused s q b d room room' enough r e =
    why_refused s q ranked_numbers knowledge_numbers room' r (same_why s q b d ranked_numbers knowledge_numbers room room' enough r (refused_why s q ranked_numbers knowledge_numbers room r e))

module _ (s q : List ℕ) (b : AllBytes s) (d : AllBytes q) (room room' : ℕ) (enough : Sufficient s room) (enough' : Sufficient s room') where
  same_outcome : (o o' : Outcome) → hub_outcome s q room ≡ o → hub_outcome s q room' ≡ o' → o ≡ o'
  same_outcome (refused r) o' e e' = sym (same_refused s q b d room room' enough r e) ∙ e'
  same_outcome (answered w all l) (refused r) e e' = sym e ∙ same_refused s q b d room' room enough' r e'
  same_outcome (answered w all l) (answered w' all' l') e e' =
      let is = sym (tables_enough s q room) ∙ e in
      let is' = sym (tables_enough s q room') ∙ e' in
      let (a, x) = answered_asks s q room w all l is in
      let y = call_sends s q room a x w all l is in
      let z = call_sends s q room' a x w' all' l' is' in
      let same = same_count s q b d a x room room' enough enough' y.count z.count y.greatest z.greatest in
      let bytes : w ≡ w' = y.bytes_are ∙ ap (page_bytes a) same ∙ sym z.bytes_are in
      let elements : all ≡ all' = y.elements_are ∙ sym z.elements_are in
      let ranges : l ≡ l' = y.ranges_are ∙ ap (page_ranges a) same ∙ sym z.ranges_are in
      cc (bytes, elements, ranges)

  pub same_length_told : (r r' : ℕ) (report x x' : List ℕ) → HubTellsLength s q room r report x → HubTellsLength s q room' r' report x' → (r ≡ r') × (x ≡ x')
  same_length_told r r' report x x' h h' =
      let e : hub_outcome s q room ≡ hub_outcome s q room' = same_outcome (hub_outcome s q room) (hub_outcome s q room') refl refl in
      let k = rw e at h in
      (k.0 ∙ sym h'.0, k.1 ∙ sym h'.1)
