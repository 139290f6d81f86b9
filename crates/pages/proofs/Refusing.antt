-- When the answering calls refuse, and with what: 13, 1, 14 and 9 for a page, each exactly when document 01's table says, in its
-- order: "13; the store's faults; the request's; then 9 for a page; then 14."
-- Assumes nothing.
use mathlib.Core.Path.{◌≡◌, refl, sym, ap, subst, ◌∙◌}
use mathlib.Core.List.{List, []}
use mathlib.Core.Logic.{◌⊎◌, inl, inr, ⊎_elim}
use Prim.Native.Nat.{ℕ, ◌≤◌, ◌<◌}
use native.Mathlib.Omega.{arith}
use lib.ListN.{length}
use borrow.Author.Tests.{lt-ltb, le-ltb}
use Rattle.std.specs.Prelude.{Ok, Err}
use Rattle.laws.proofs.Cases.{by_lt, impossible}
use Rattle.numbers.specs.Refusals.{fault_at, too_short, longest_input, over_long, refusal_number}
use Rattle.numbers.specs.declared.refusal.Refusal.{Refusal}
use Rattle.objects.specs.Results.Reading.{Reading}
use Rattle.objects.specs.Results.Reading as reading
use Rattle.objects.proofs.InputFaults.{input_told}
use Rattle.talk.specs.declared.range.Range.{Range}
use Rattle.store.specs.Store.{store_walk, Stands}
use Rattle.store.specs.declared.element.Element.{Element}
use Rattle.store.proofs.Places as store
use Rattle.request.specs.Message.{in_request, request_in}
use Rattle.request.specs.Results.Request.{Request}
use Rattle.request.specs.Results.Request as request
use Rattle.request.proofs.Places as asked
use Rattle.request.proofs.Whole.{over_long_read}
use Rattle.pages.specs.Decision.{most_carried, decision}
use Rattle.order.specs.Order.{ranked_numbers}
use Rattle.pages.specs.Answer.{Ask, Outcome, refused, answered, number_in, page_ranges, page_bytes, page_measure, on_decided, page_decided, page_outcome, ask_of, on_request, on_store, outcome, knowledge_numbers, answer_of}
use Rattle.pages.specs.Cases.{Asks, OverLong, smallest, TooShort, Sends}
use Rattle.pages.specs.Results.Decided.{Decided}
use Rattle.pages.proofs.Stops.{sent_law}
use Rattle.pages.proofs.PageCases.{nine_only_if, nine_if, fourteen_only_if, fourteen_if, page_numbers}

-- ---- the course of a call

pub data Course (s q : List ℕ) (room : ℕ) : Outcome → Type 0 where
  store_fault : (r : Refusal) → (store_walk s).last ≡ reading.Refused r → Course s q room (refused r)
  request_fault : (r : Refusal) → Stands (store_walk s).last → request_in q [] ≡ request.Refused r → Course s q room (refused r)
  page : (a : Ask) → Asks s q a → Course s q room (page_outcome a room)

on_request_lem : (s q : List ℕ) (room : ℕ) (r : Request) → request_in q [] ≡ r → Stands (store_walk s).last → Course s q room (on_request s (store_walk s).elements q room r)
unfolding on_request
on_request_lem s q room (Ok x) e h =
    page (ask_of s (store_walk s).elements q x.id x.limit)
    (record { id = x.id; limit = x.limit; place = x.place; count = x.count; known = x.known; store_reads = h; request_reads = e; asked = refl })
on_request_lem s q room (request.Refused r) e h = request_fault r h e

on_store_lem : (s q : List ℕ) (room : ℕ) (c : Reading) → (store_walk s).last ≡ c → Course s q room (on_store s (store_walk s).elements q room c)
unfolding on_store
on_store_lem s q room (reading.At e v) h = on_request_lem s q room (request_in q []) refl (subst Stands (sym h) tt)
on_store_lem s q room (reading.Refused r) h = store_fault r h

pub course : (s q : List ℕ) (room : ℕ) → Course s q room (outcome s q room)
unfolding outcome
course s q room = on_store_lem s q room (store_walk s).last refl

-- where both inputs read, the outcome is that of the page
stored_on : (s q : List ℕ) (room : ℕ) (c : Reading) → Stands c → on_store s (store_walk s).elements q room c ≡ on_request s (store_walk s).elements q room (request_in q [])
unfolding on_store
stored_on s q room (reading.At e v) h = refl
stored_on s q room (reading.Refused r) h = absurd h

pub asked_outcome : (s q : List ℕ) (a : Ask) (room : ℕ) → Asks s q a → outcome s q room ≡ page_outcome a room
unfolding outcome on_request
asked_outcome s q a room h = stored_on s q room (store_walk s).last h.store_reads ∙ rw (h.request_reads, h.asked)

-- a page may carry so many ranges
pub asked_most : (s q : List ℕ) (a : Ask) → Asks s q a → a.most ≡ most_carried
asked_most s q a h = ap (λ (y : Ask). y.most) h.asked

-- ---- 13: "store table under 1,536 numbers or knowledge table under 2,048"; 1,792 by document 02, Q-14

pub thirteen_if : (s q : List ℕ) (rows ranges room : ℕ) → (rows < ranked_numbers) ⊎ (ranges < knowledge_numbers) → answer_of s q rows ranges room ≡ refused (fault_at 13 0)
unfolding answer_of
thirteen_if s q rows ranges room (inl h) = rw (lt-ltb rows ranked_numbers h)
thirteen_if s q rows ranges room (inr h) = by_lt rows ranked_numbers (λ l. rw (lt-ltb rows ranked_numbers l)) (λ l. rw (le-ltb rows ranked_numbers l, lt-ltb ranges knowledge_numbers h))

pub tables_fine : (s q : List ℕ) (rows ranges room : ℕ) → ranked_numbers ≤ rows → knowledge_numbers ≤ ranges → answer_of s q rows ranges room ≡ outcome s q room
unfolding answer_of
tables_fine s q rows ranges room h g = rw (le-ltb rows ranked_numbers h, le-ltb ranges knowledge_numbers g)

-- the other refusals have other numbers
fault_number : (s : List ℕ) (r : Refusal) → (store_walk s).last ≡ reading.Refused r → (1 ≤ refusal_number r) × (refusal_number r ≤ 12)
fault_number s r e = let w = input_told longest_input s r (store.store_fault s r e) in (w.least, w.most)

request_fault_number : (q : List ℕ) (r : Refusal) → request_in q [] ≡ request.Refused r → (1 ≤ refusal_number r) × (refusal_number r ≤ 12)
request_fault_number q r e =
    let (x, i, f) = asked.request_fault q [] r e in
    let w = input_told longest_input q x f in
    rw i (w.least, w.most)

never_thirteen_on : (s q : List ℕ) (room : ℕ) (o : Outcome) → Course s q room o → number_in o ≡ 13 → ⊥
unfolding number_in
never_thirteen_on s q room _ (store_fault r e) h = let w = fault_number s r e in omega arith
never_thirteen_on s q room _ (request_fault r g e) h = let w = request_fault_number q r e in omega arith
never_thirteen_on s q room _ (page a x) h =
    ⊎_elim (λ z. omega arith) (λ w. ⊎_elim (λ z. omega arith) (λ z. omega arith) w) (page_numbers a room)

pub never_thirteen : (s q : List ℕ) (room : ℕ) → number_in (outcome s q room) ≡ 13 → ⊥
never_thirteen s q room h = never_thirteen_on s q room (outcome s q room) (course s q room) h

pub thirteen_only_if : (s q : List ℕ) (rows ranges room : ℕ) → number_in (answer_of s q rows ranges room) ≡ 13 → (rows < ranked_numbers) ⊎ (ranges < knowledge_numbers)
thirteen_only_if s q rows ranges room h =
    by_lt rows ranked_numbers inl
    (λ a. by_lt ranges knowledge_numbers inr (λ b. absurd (never_thirteen s q room (ap number_in (sym (tables_fine s q rows ranges room a b)) ∙ h))))

-- ---- 1: "an input is over 16,777,216 bytes"; the request's comes after all of the store's faults

one_on : (s q : List ℕ) (room : ℕ) (o : Outcome) → Course s q room o → number_in o ≡ 1 → OverLong s q
unfolding number_in
one_on s q room _ (store_fault r e) h = by_lt longest_input (length s) inl (λ l. let n = ((store.store_fault s r e).within l).number in absurd (omega arith))
one_on s q room _ (request_fault r g e) h =
    by_lt longest_input (length q) (λ l. inr (g, l))
    (λ l.
    let (x, i, f) = asked.request_fault q [] r e in
    let n = (f.within l).number in
    let z : refusal_number x ≡ 1 = rw i at h in
    absurd (omega arith))
one_on s q room _ (page a x) h = absurd (⊎_elim (λ z. omega arith) (λ w. ⊎_elim (λ z. omega arith) (λ z. omega arith) w) (page_numbers a room))

pub one_only_if : (s q : List ℕ) (room : ℕ) → number_in (outcome s q room) ≡ 1 → OverLong s q
one_only_if s q room h = one_on s q room (outcome s q room) (course s q room) h

over_long_on : (s q : List ℕ) (room : ℕ) → longest_input < length s → on_store s (store_walk s).elements q room (store_walk s).last ≡ refused over_long
unfolding store_walk on_store
over_long_on s q room h = rw (lt-ltb longest_input (length s) h)

pub one_if_store : (s q : List ℕ) (room : ℕ) → longest_input < length s → outcome s q room ≡ refused over_long
unfolding outcome
one_if_store s q room h = over_long_on s q room h

pub one_if_request : (s q : List ℕ) (room : ℕ) → Stands (store_walk s).last → longest_input < length q → outcome s q room ≡ refused (in_request over_long)
unfolding outcome on_request
one_if_request s q room g h =
    let e : request_in q [] ≡ request.Refused (in_request over_long) = sym (over_long_read q [] h).0 in
    stored_on s q room (store_walk s).last g ∙ rw e

-- ---- 14: "the output is shorter than the page of 1 (of 0, if nothing is wanted)"; the needed length is that page's

fourteen_on : (s q : List ℕ) (room : ℕ) (o : Outcome) → Course s q room o → number_in o ≡ 14
    → (a : Ask) × (TooShort s q room a) × (o ≡ refused (too_short (length (page_bytes a (smallest a)))))
unfolding number_in
fourteen_on s q room _ (store_fault r e) h = let w = fault_number s r e in absurd (omega arith)
fourteen_on s q room _ (request_fault r g e) h = let w = request_fault_number q r e in absurd (omega arith)
fourteen_on s q room _ (page a x) h = let w = fourteen_only_if a room h in (a, record { asks = x; few = w.2; needs = w.1 }, w.0)

pub fourteen_of_call : (s q : List ℕ) (room : ℕ) → number_in (outcome s q room) ≡ 14
    → (a : Ask) × (TooShort s q room a) × (outcome s q room ≡ refused (too_short (length (page_bytes a (smallest a)))))
fourteen_of_call s q room h = fourteen_on s q room (outcome s q room) (course s q room) h

pub call_of_fourteen : (s q : List ℕ) (room : ℕ) (a : Ask) → TooShort s q room a → outcome s q room ≡ refused (too_short (length (page_bytes a (smallest a))))
call_of_fourteen s q room a h = asked_outcome s q a room h.asks ∙ fourteen_if a room h.few h.needs

-- ---- 9 for a page: "a page of 1 needs over 512 ranges"

pub nine_of_call : (s q : List ℕ) (room : ℕ) (a : Ask) → Asks s q a → number_in (outcome s q room) ≡ 9
    → (0 < length a.wanted) × (a.most < length (page_ranges a 1))
nine_of_call s q room a x h = nine_only_if a room (ap number_in (sym (asked_outcome s q a room x)) ∙ h)

pub call_of_nine : (s q : List ℕ) (room : ℕ) (a : Ask) → Asks s q a → 0 < length a.wanted → a.most < length (page_ranges a 1)
    → outcome s q room ≡ refused (fault_at 9 0)
call_of_nine s q room a x p c = asked_outcome s q a room x ∙ nine_if a room p c

-- ---- where nothing is refused, the greatest page is sent

sends_on : (a : Ask) (room : ℕ) (d : Decided) → decision a.most a.limit room (page_measure a) (length a.wanted) ≡ d → (w : List ℕ) (all : List Element) (l : List Range)
    → on_decided a d ≡ answered w all l → Sends a room w all l
unfolding on_decided
sends_on a room (Ok x) e w all l h =
    record {
      count = x.count;
      greatest = (sent_law a.most a.limit room (page_measure a) (length a.wanted) x.count x.length x.ranges x.more e).greatest;
      bytes_are = cc (h);
      elements_are = cc (h);
      ranges_are = cc (h);
    }
sends_on a room (Err x) e w all l h = impossible (cc (h))

pub page_sends : (a : Ask) (room : ℕ) (w : List ℕ) (all : List Element) (l : List Range) → page_outcome a room ≡ answered w all l → Sends a room w all l
unfolding page_outcome page_decided
page_sends a room w all l h = sends_on a room (decision a.most a.limit room (page_measure a) (length a.wanted)) refl w all l h

pub call_sends : (s q : List ℕ) (room : ℕ) (a : Ask) → Asks s q a → (w : List ℕ) (all : List Element) (l : List Range) → outcome s q room ≡ answered w all l
    → Sends a room w all l
call_sends s q room a x w all l h = page_sends a room w all l (sym (asked_outcome s q a room x) ∙ h)

-- and where something was answered, both inputs read
asked_on : (s q : List ℕ) (room : ℕ) (o : Outcome) → Course s q room o → (w : List ℕ) (all : List Element) (l : List Range) → o ≡ answered w all l → (a : Ask) × Asks s q a
asked_on s q room _ (store_fault r e) w all l h = impossible (cc (h))
asked_on s q room _ (request_fault r g e) w all l h = impossible (cc (h))
asked_on s q room _ (page a x) w all l h = (a, x)

pub answered_asks : (s q : List ℕ) (room : ℕ) (w : List ℕ) (all : List Element) (l : List Range) → outcome s q room ≡ answered w all l → (a : Ask) × Asks s q a
answered_asks s q room w all l h = asked_on s q room (outcome s q room) (course s q room) w all l h
