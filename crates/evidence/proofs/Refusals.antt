-- Each call refuses exactly for the reasons that `Why`, `WhyAsk`, `WhyRead` and `WhyElement` list, and each refusal is a `Fault`: one of
-- document 01's numbers, with a place within the input that it names.
-- Assumes nothing.
use mathlib.Core.Path.{◌≡◌, refl, sym, ap, subst, ◌∙◌}
use mathlib.Core.List.{List, [], ◌∷◌}
use mathlib.Core.Logic.{◌⊎◌, inl, inr, ⊎_elim}
use Prim.Native.Nat.{ℕ, zero, suc, ◌≤◌, ◌<◌}
use native.Mathlib.Omega.{arith}
use lib.ListN.{length}
use borrow.Author.Tests.{lt-ltb, le-ltb, eq-eqb, ne_eqb}
use Rattle.laws.proofs.Cases.{by_lt, by_eq, impossible}
use Rattle.numbers.specs.Refusals.{fault_at, too_short, longest_input, tell_wrote, refusal_number}
use Rattle.numbers.specs.declared.refusal.Refusal.{Refusal}
use Rattle.numbers.specs.Results.Wrote.{Wrote}
use Rattle.numbers.specs.Results.Wrote as wrote
use Rattle.objects.specs.Results.Reading.{Reading}
use Rattle.objects.specs.Results.Reading as reading
use Rattle.objects.proofs.InputFaults.{InputTold, input_told}
use Rattle.order.specs.Order.{ranked_numbers}
use Rattle.store.specs.Store.{store_walk, Stands}
use Rattle.store.specs.Accessor.{element_in, found_on, found_in}
use Rattle.store.specs.Results.Found as found
use Rattle.store.specs.declared.element.Element.{Element}
use Rattle.store.proofs.Found.{found_none}
use Rattle.store.proofs.Places.{store_fault}
use Rattle.request.specs.Message.{in_request, request_in}
use Rattle.request.specs.Results.Request as request'
use Rattle.request.proofs.Places.{request_fault}
use Rattle.pages.specs.Answer.{Ask, Outcome, refused, page_bytes, page_ranges, page_outcome, on_request, on_store, outcome, answer_of, knowledge_numbers}
use Rattle.pages.specs.Cases.{smallest, Few, Asks}
use Rattle.pages.proofs.PageCases.{nine_if, fourteen_if, page_answered}
use Rattle.pages.proofs.Refusing.{Course, course, thirteen_if, tables_fine, call_of_fourteen, call_of_nine}
use Rattle.client.specs.AskWritten.{ask_bytes}
use Rattle.client.specs.Ask.{filters_given, knowledge_given, written_in, judged_second, judged_first, ask_wrote}
use Rattle.client.specs.Read.{longest_answer, package_in, answer_end, answer_on, answer_in}
use Rattle.client.specs.Accessor.{received_at}
use Rattle.client.specs.Results.ReadAnswer as answer
use Rattle.client.proofs.AnswerRest.{answer_fault}
use Rattle.client.proofs.AnswerWithin.{answer_within}
use Rattle.client.proofs.AskFaults.{filters_fault, knowledge_fault}
use Rattle.hub.specs.Bench.{element_found}
use Rattle.evidence.specs.Refusing.{Fault, Tables, Why}
use Rattle.evidence.specs.BenchRefusing.{WhyAsk, WhyRead, WhyElement}

-- ---- the tables come first

pub by_tables : (s q : List ℕ) (rows ranges room : ℕ)
    → (((rows < ranked_numbers) ⊎ (ranges < knowledge_numbers)) × (answer_of s q rows ranges room ≡ refused (fault_at 13 0)))
    ⊎ (Tables rows ranges × (answer_of s q rows ranges room ≡ outcome s q room))
by_tables s q rows ranges room =
    by_lt rows ranked_numbers (λ l. inl (inl l, thirteen_if s q rows ranges room (inl l)))
    (λ l. by_lt ranges knowledge_numbers (λ m. inl (inr m, thirteen_if s q rows ranges room (inr m))) (λ m. inr ((l, m), tables_fine s q rows ranges room l m)))

-- ---- the answering calls: refused exactly when

module _ (s q : List ℕ) (rows ranges room : ℕ) (r : Refusal) where
  -- of what was asked, a page is refused for its ranges or for the room
  page_why : Tables rows ranges → (a : Ask) → Asks s q a → page_outcome a room ≡ refused r → Why s q rows ranges room r
  page_why t a x h =
      let ample : Few a → Why s q rows ranges room r =
      λ f.
      by_lt room (length (page_bytes a (smallest a))) (λ l. let z = fourteen_if a room f l in Why.short t a x f l (cc))
      (λ l. let z = page_answered a room f l in let w = z.1 in impossible (cc)) in
      by_lt a.most (length (page_ranges a 1))
      (λ c.
      by_lt 0 (length a.wanted) (λ p. let z = nine_if a room p c in Why.crowded t a x p c (cc)) (λ p. ample (λ w. absurd (omega arith))))
      (λ c. ample (λ w. c))

  course_why : Tables rows ranges → (o : Outcome) → Course s q room o → o ≡ refused r → Why s q rows ranges room r
  course_why t _ (Course.store_fault x e) h = let z : x ≡ r = cc in Why.store t (e ∙ ap reading.Refused z)
  course_why t _ (Course.request_fault x g e) h = let z : x ≡ r = cc in Why.request t g (e ∙ ap request'.Refused z)
  course_why t _ (Course.page a x) h = page_why t a x h

  pub refused_why : answer_of s q rows ranges room ≡ refused r → Why s q rows ranges room r
  refused_why h =
      ⊎_elim (λ z. let e = z.1 in Why.tables z.0 (cc)) (λ z. course_why z.0 (outcome s q room) (course s q room) (sym z.1 ∙ h))
      (by_tables s q rows ranges room)

  -- where the store is read, its fault is the request's
  request_refused : (all : List Element) (c : Reading) → Stands c → request_in q [] ≡ request'.Refused r → on_store s all q room c ≡ refused r
  unfolding on_store on_request
  request_refused all (reading.At e v) g h = rw h
  request_refused all (reading.Refused x) g h = absurd g

  why_outcome : Why s q rows ranges room r → Tables rows ranges → outcome s q room ≡ refused r
  unfolding outcome on_store
  why_outcome (Why.tables (inl l) e) t = let w = t.0 in absurd (omega arith)
  why_outcome (Why.tables (inr l) e) t = let w = t.1 in absurd (omega arith)
  why_outcome (Why.store t h) u = rw h
  why_outcome (Why.request t g h) u = request_refused (store_walk s).elements (store_walk s).last g h
  why_outcome (Why.crowded t a x p c e) u = call_of_nine s q room a x p c ∙ ap refused (sym e)
  why_outcome (Why.short t a x f l e) u = call_of_fourteen s q room a (record { asks = x; few = f; needs = l }) ∙ ap refused (sym e)

  read_on : Why s q rows ranges room r → Tables rows ranges → answer_of s q rows ranges room ≡ refused r
  read_on w t = tables_fine s q rows ranges room t.0 t.1 ∙ why_outcome w t

  pub why_refused : Why s q rows ranges room r → answer_of s q rows ranges room ≡ refused r
  why_refused (Why.tables l e) = thirteen_if s q rows ranges room l ∙ ap refused (sym e)
  why_refused (Why.store t h) = read_on (Why.store t h) t
  why_refused (Why.request t g h) = read_on (Why.request t g h) t
  why_refused (Why.crowded t a x p c e) = read_on (Why.crowded t a x p c e) t
  why_refused (Why.short t a x f l e) = read_on (Why.short t a x f l e) t

-- ---- its refusals are faults

-- of the first input, or of the second
pub first_fault : (x : List ℕ) (more : List (List ℕ)) (r : Refusal) → InputTold x r → Fault (x ∷ more) r
first_fault x more r t =
    let m = t.most in
    record { least = t.least; most = omega arith; input = rw t.input (omega arith); place = rw t.input t.place; needed = λ z. t.needed }

pub second_fault : (x y : List ℕ) (r : Refusal) → InputTold y r → Fault (x ∷ y ∷ []) (in_request r)
second_fault x y r t =
    let m = t.most in
    record { least = t.least; most = omega arith; input = omega arith; place = t.place; needed = λ z. t.needed }

-- at the front of the first: it falls on no item
pub front_fault : (x : List ℕ) (more : List (List ℕ)) (k : ℕ) → 1 ≤ k → k ≤ 14 → Fault (x ∷ more) (fault_at k 0)
front_fault x more k a b = record { least = a; most = b; input = omega arith; place = omega arith; needed = λ z. refl }

pub short_fault : (x : List ℕ) (more : List (List ℕ)) (n : ℕ) → Fault (x ∷ more) (too_short n)
short_fault x more n = record { least = omega arith; most = omega arith; input = omega arith; place = omega arith; needed = λ z. absurd (z refl) }

pub of_store : (s : List ℕ) (more : List (List ℕ)) (r : Refusal) → (store_walk s).last ≡ reading.Refused r → Fault (s ∷ more) r
of_store s more r h = first_fault s more r (input_told longest_input s r (store_fault s r h))

of_request : (s q : List ℕ) (r : Refusal) → request_in q [] ≡ request'.Refused r → Fault (s ∷ q ∷ []) r
of_request s q r h =
    let (x, e, f) = request_fault q [] r h in
    rw e (second_fault s q x (input_told longest_input q x f))

pub why_fault : (s q : List ℕ) (rows ranges room : ℕ) (r : Refusal) → Why s q rows ranges room r → Fault (s ∷ q ∷ []) r
why_fault s q rows ranges room r (Why.tables l e) = rw e (front_fault s (q ∷ []) 13 (omega arith) (omega arith))
why_fault s q rows ranges room r (Why.store t h) = of_store s (q ∷ []) r h
why_fault s q rows ranges room r (Why.request t g h) = of_request s q r h
why_fault s q rows ranges room r (Why.crowded t a x p c e) = rw e (front_fault s (q ∷ []) 9 (omega arith) (omega arith))
why_fault s q rows ranges room r (Why.short t a x f l e) = rw e (short_fault s (q ∷ []) (length (page_bytes a (smallest a))))

-- with tables that are long enough, a store and a request that are read, only the refusals of a page are left: 9 and 14
pub only_pages : (s q : List ℕ) (rows ranges room : ℕ) (r : Refusal) → Tables rows ranges → Stands (store_walk s).last
    → ((x : Refusal) → request_in q [] ≡ request'.Refused x → ⊥) → Why s q rows ranges room r → (refusal_number r ≡ 9) ⊎ (refusal_number r ≡ 14)
only_pages s q rows ranges room r t g h (Why.tables (inl l) e) = let w = t.0 in absurd (omega arith)
only_pages s q rows ranges room r t g h (Why.tables (inr l) e) = let w = t.1 in absurd (omega arith)
only_pages s q rows ranges room r t g h (Why.store u e) = absurd (subst Stands e g)
only_pages s q rows ranges room r t g h (Why.request u w e) = absurd (h r e)
only_pages s q rows ranges room r t g h (Why.crowded u a y p c e) = inl (ap refusal_number e)
only_pages s q rows ranges room r t g h (Why.short u a y f l e) = inr (ap refusal_number e)

-- ---- bytes written into an output, behind an input that is judged first

-- an input that is read is passed over
pub first_passed : (c : Reading) (o : Wrote) → Stands c → judged_first c o ≡ o
unfolding judged_first
first_passed (reading.At e v) o g = refl
first_passed (reading.Refused x) o g = absurd g

module _ (w : List ℕ) (room : ℕ) (r : Refusal) where
  -- over-long, or too long for the output
  abbrev NotWritten : Type 0
  NotWritten =
      ((longest_input < length w) × (r ≡ fault_at 1 0)) ⊎ ((length w ≤ longest_input) × (room < length w) × (r ≡ too_short (length w)))

  pub written_why : written_in room w ≡ wrote.Refused r → NotWritten
  unfolding written_in
  written_why h =
      by_lt longest_input (length w)
      (λ l. let z : wrote.Refused (fault_at 1 0) ≡ wrote.Refused r = rw (lt-ltb longest_input (length w) l) at h in inl (l, cc))
      (λ l.
      by_lt room (length w)
      (λ m.
      let z : wrote.Refused (too_short (length w)) ≡ wrote.Refused r = rw (le-ltb longest_input (length w) l, lt-ltb room (length w) m) at h in
      inr (l, m, cc))
      (λ m.
      let z : wrote.Done (length w) ≡ wrote.Refused r = rw (le-ltb longest_input (length w) l, le-ltb room (length w) m) at h in
      impossible (cc)))

  pub written_refused : NotWritten → written_in room w ≡ wrote.Refused r
  unfolding written_in
  written_refused (inl (l, e)) = rw (lt-ltb longest_input (length w) l, e)
  written_refused (inr (l, m, e)) = rw (le-ltb longest_input (length w) l, lt-ltb room (length w) m, e)

-- where nothing is refused, all of it was written
module _ (w : List ℕ) (n : ℕ) where
  pub written_done : (room : ℕ) → written_in room w ≡ wrote.Done n → (n ≡ length w) × (length w ≤ longest_input)
  unfolding written_in
  written_done room h =
      by_lt longest_input (length w) (λ l. let z = rw (lt-ltb longest_input (length w) l) at h in impossible (cc))
      (λ l.
      by_lt room (length w) (λ m. let z = rw (le-ltb longest_input (length w) l, lt-ltb room (length w) m) at h in impossible (cc))
      (λ m.
      let z : wrote.Done (length w) ≡ wrote.Done n = rw (le-ltb longest_input (length w) l, le-ltb room (length w) m) at h in
      (cc, l)))

  pub first_done : (c : Reading) (o : Wrote) → judged_first c o ≡ wrote.Done n → Stands c × (o ≡ wrote.Done n)
  unfolding judged_first
  first_done (reading.At e v) o h = (tt, h)
  first_done (reading.Refused x) o h = impossible (cc)

-- ---- a request written

module _ (id limit : ℕ) (f k : List ℕ) (room : ℕ) (r : Refusal) where
  abbrev sent : List ℕ
  sent = ask_bytes id limit f k

  abbrev AskWhy : Type 0
  AskWhy = WhyAsk id limit f k room r

  -- both inputs are read
  sent_why : Stands (filters_given f) → Stands (knowledge_given k) → written_in room sent ≡ wrote.Refused r → AskWhy
  sent_why a b h = ⊎_elim (λ z. WhyAsk.long a b z.0 z.1) (λ z. WhyAsk.short a b z.0 z.1 z.2) (written_why sent room r h)

  knowledge_why : (c : Reading) → Stands (filters_given f) → knowledge_given k ≡ c → judged_second c (written_in room sent) ≡ wrote.Refused r → AskWhy
  unfolding judged_second
  knowledge_why (reading.At e v) a g h = sent_why a (subst Stands (sym g) tt) h
  knowledge_why (reading.Refused x) a g h = WhyAsk.knowledge x a g (cc)

  filters_why : (c : Reading) → filters_given f ≡ c → judged_first c (judged_second (knowledge_given k) (written_in room sent)) ≡ wrote.Refused r → AskWhy
  unfolding judged_first
  filters_why (reading.At e v) g h = knowledge_why (knowledge_given k) (subst Stands (sym g) tt) refl h
  filters_why (reading.Refused x) g h = let z : x ≡ r = cc in WhyAsk.filters (g ∙ ap reading.Refused z)

  pub ask_why : ask_wrote id limit f k room ≡ wrote.Refused r → AskWhy
  unfolding ask_wrote
  ask_why h = filters_why (filters_given f) refl h

  knowledge_passed : (c : Reading) (o : Wrote) → Stands c → judged_second c o ≡ o
  unfolding judged_second
  knowledge_passed (reading.At e v) o g = refl
  knowledge_passed (reading.Refused x) o g = absurd g

  pub why_ask : AskWhy → ask_wrote id limit f k room ≡ wrote.Refused r
  unfolding ask_wrote judged_first judged_second
  why_ask (WhyAsk.filters h) = rw h
  why_ask (WhyAsk.knowledge x a h e) = first_passed (filters_given f) _ a ∙ rw (h, e)
  why_ask (WhyAsk.long a b l e) =
      first_passed (filters_given f) _ a ∙ knowledge_passed (knowledge_given k) _ b ∙ written_refused sent room r (inl (l, e))
  why_ask (WhyAsk.short a b l m e) =
      first_passed (filters_given f) _ a ∙ knowledge_passed (knowledge_given k) _ b ∙ written_refused sent room r (inr (l, m, e))

  filters_told : filters_given f ≡ reading.Refused r → InputTold f r
  filters_told h = input_told longest_input f r (filters_fault f r h)

  knowledge_told : (x : Refusal) → knowledge_given k ≡ reading.Refused x → InputTold k x
  knowledge_told x h = input_told longest_input k x (knowledge_fault k x h)

  why_ask_fault : AskWhy → Fault (f ∷ k ∷ []) r
  why_ask_fault (WhyAsk.filters h) = first_fault f (k ∷ []) r (filters_told h)
  why_ask_fault (WhyAsk.knowledge x a h e) = rw e (second_fault f k x (knowledge_told x h))
  why_ask_fault (WhyAsk.long a b l e) = rw e (front_fault f (k ∷ []) 1 (omega arith) (omega arith))
  why_ask_fault (WhyAsk.short a b l m e) = rw e (short_fault f (k ∷ []) (length sent))

  pub ask_fault : ask_wrote id limit f k room ≡ wrote.Refused r → Fault (f ∷ k ∷ []) r
  ask_fault h = why_ask_fault (ask_why h)

  -- 14 is given only where the request is not over-long and longer than the output
  pub why_ask_short : AskWhy → refusal_number r ≡ 14 → (length sent ≤ longest_input) × (room < length sent)
  why_ask_short (WhyAsk.filters h) z = let m = (filters_told h).most in absurd (omega arith)
  why_ask_short (WhyAsk.knowledge x a h e) z = let m = (knowledge_told x h).most in let n : refusal_number x ≡ 14 = rw e at z in absurd (omega arith)
  why_ask_short (WhyAsk.long a b l e) z = let n : ◌≡◌ {A = ℕ} 1 14 = rw e at z in absurd (omega arith)
  why_ask_short (WhyAsk.short a b l m e) z = (l, m)

-- where nothing is refused, all of the request was written
knowledge_done : (n : ℕ) (c : Reading) (o : Wrote) → judged_second c o ≡ wrote.Done n → o ≡ wrote.Done n
unfolding judged_second
knowledge_done n (reading.At e v) o h = h
knowledge_done n (reading.Refused x) o h = impossible (cc)

pub ask_done : (id limit : ℕ) (f k : List ℕ) (room n : ℕ) → ask_wrote id limit f k room ≡ wrote.Done n → n ≡ length (ask_bytes id limit f k)
unfolding ask_wrote
ask_done id limit f k room n h =
    let w = ask_bytes id limit f k in
    (written_done w n room (knowledge_done n (knowledge_given k) _ (first_done w n (filters_given f) _ h).1)).0

-- and so it was by a call that tells 0, since a refusal's number is never 0
pub request_written : (id limit : ℕ) (f k : List ℕ) (room : ℕ) (o : Wrote) → ask_wrote id limit f k room ≡ o → 0 ≡ (tell_wrote o).number → (n : ℕ) × (o ≡ wrote.Done n)
request_written id limit f k room (wrote.Done n) e h = (n, refl)
request_written id limit f k room (wrote.Refused r) e h = let w = (ask_fault id limit f k room r e).least in absurd (omega arith)

-- ---- an answer read

pub read_why : (w : List ℕ) (r : Refusal) → answer_in w ≡ answer.Refused r → WhyRead w r
read_why w r h = answer_fault w r h

pub why_read : (w : List ℕ) (r : Refusal) → WhyRead w r → answer_in w ≡ answer.Refused r
unfolding answer_in answer_on
why_read w r h = rw h

pub read_fault : (w : List ℕ) (r : Refusal) → answer_in w ≡ answer.Refused r → Fault (w ∷ []) r
read_fault w r h = first_fault w [] r (input_told longest_answer w r (answer_within w r (read_why w r h)))

-- ---- one element by its position

past_last : (all : List Element) (i : ℕ) (r : Refusal) → element_in all i ≡ found.Refused r → (length all ≤ i) × (r ≡ fault_at 9 0)
unfolding element_in
past_last [] i r h = (omega arith, cc)
past_last (x ∷ all) zero r h = impossible (cc)
past_last (x ∷ all) (suc i) r h = let w = past_last all i r h in (let z = w.0 in omega arith, w.1)

-- what the reading c, behind which all stand, leaves of it
found_why : (all : List Element) (i : ℕ) (c : Reading) (r : Refusal) → found_on all i c ≡ found.Refused r
    → (c ≡ reading.Refused r) ⊎ (Stands c × (length all ≤ i) × (r ≡ fault_at 9 0))
found_why all i (reading.At e v) r h = let w = past_last all i r h in inr (tt, w.0, w.1)
found_why all i (reading.Refused x) r h = inl (cc)

why_found : (all : List Element) (i : ℕ) (c : Reading) (r : Refusal) → Stands c → length all ≤ i → r ≡ fault_at 9 0 → found_on all i c ≡ found.Refused r
why_found all i (reading.At e v) r g l z = found_none all i l ∙ ap found.Refused (sym z)
why_found all i (reading.Refused x) r g l z = absurd g

module _ (kind : ℕ) (s : List ℕ) (i : ℕ) (r : Refusal) where
  -- by the kind, one of the two
  of_kind_store : kind ≡ 0 → element_found kind s i ≡ found_on (store_walk s).elements i (store_walk s).last
  unfolding element_found found_in
  of_kind_store e = rw (eq-eqb kind 0 e)

  of_kind_answer : (kind ≡ 0 → ⊥) → element_found kind s i ≡ found_on (package_in s).elements i (answer_end s)
  unfolding element_found received_at
  of_kind_answer n = rw (ne_eqb kind 0 n)

  pub element_why : element_found kind s i ≡ found.Refused r → WhyElement kind s i r
  element_why h =
      by_eq kind 0
      (λ e.
      ⊎_elim (λ z. WhyElement.store e z) (λ z. WhyElement.past_store e z.0 z.1 z.2)
      (found_why (store_walk s).elements i (store_walk s).last r (sym (of_kind_store e) ∙ h)))
      (λ n.
      ⊎_elim (λ z. WhyElement.answer n z) (λ z. WhyElement.past_answer n z.0 z.1 z.2)
      (found_why (package_in s).elements i (answer_end s) r (sym (of_kind_answer n) ∙ h)))

  pub why_element : WhyElement kind s i r → element_found kind s i ≡ found.Refused r
  why_element (WhyElement.store e h) = of_kind_store e ∙ rw h
  why_element (WhyElement.answer n h) = of_kind_answer n ∙ rw h
  why_element (WhyElement.past_store e g l z) = of_kind_store e ∙ why_found (store_walk s).elements i (store_walk s).last r g l z
  why_element (WhyElement.past_answer n g l z) = of_kind_answer n ∙ why_found (package_in s).elements i (answer_end s) r g l z

  why_element_fault : WhyElement kind s i r → Fault (s ∷ []) r
  why_element_fault (WhyElement.store e h) = of_store s [] r h
  why_element_fault (WhyElement.answer n h) = read_fault s r (why_read s r h)
  why_element_fault (WhyElement.past_store e g l z) = rw z (front_fault s [] 9 (omega arith) (omega arith))
  why_element_fault (WhyElement.past_answer n g l z) = rw z (front_fault s [] 9 (omega arith) (omega arith))

  pub element_fault : element_found kind s i ≡ found.Refused r → Fault (s ∷ []) r
  element_fault h = why_element_fault (element_why h)
