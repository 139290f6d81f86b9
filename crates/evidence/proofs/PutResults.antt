-- What the calls about puts came to (document 02, Q-1), each from what it promises and from nothing else: it gave its result, and there was
-- no reason to refuse; or it refused, and with the one refusal that has a reason. PutDemands.antt says it in the demand's words; who reads
-- that file can skip all of this one.
-- Assumes nothing.
use mathlib.Core.Path.{◌≡◌, refl, sym, ap, subst, ◌∙◌}
use mathlib.Core.List.{List, [], ◌∷◌}
use mathlib.Core.Logic.{inl, inr, ⊎_elim}
use Prim.Native.Nat.{ℕ, ◌≤◌, ◌<◌}
use native.Mathlib.Omega.{arith}
use lib.ListN.{length}
use borrow.Author.Tests.{lt-ltb, le-ltb, eq-eqb, ne_eqb}
use Rattle.laws.proofs.Cases.{by_lt, by_eq, impossible}
use Rattle.numbers.specs.Refusals.{fault_at, longest_input, tell_wrote, refusal_number}
use Rattle.numbers.specs.declared.refusal.Refusal.{Refusal}
use Rattle.numbers.specs.Results.Wrote.{Wrote}
use Rattle.numbers.specs.Results.Wrote as wrote
use Rattle.objects.specs.Results.Reading.{Reading}
use Rattle.objects.specs.Results.Reading as reading
use Rattle.objects.proofs.InputFaults.{input_told}
use Rattle.store.specs.Store.{Stands}
use Rattle.store.proofs.Contents.{place_value}
use Rattle.puts.specs.Applied.{Outcome, refused, entered, put_outcome, store_after, output_after}
use Rattle.client.specs.Ask.{written_in, judged_first, ask_output}
use Rattle.client.specs.PutWritten.{put_bytes, elements_given, put_wrote}
use Rattle.client.specs.Read.{longest_answer}
use Rattle.client.specs.ReadPut.{put_answer_end, put_answer_on, put_answer_in, tell_read_put_answer}
use Rattle.client.specs.declared.put_answer.ReceivedPut.{ReceivedPut}
use Rattle.client.specs.Results.ReadPutAnswer.{ReadPutAnswer}
use Rattle.client.specs.Results.ReadPutAnswer as answer
use Rattle.client.proofs.AnswerWithin.{put_answer_within}
use Rattle.client.proofs.PutGiven.{elements_fault}
use Rattle.hub.specs.Bench.{wrote_report, HubWrites}
use Rattle.hub.specs.BenchPut.{widest_number, expected_of, too_wide, put_asked, HubAsksPut, put_report_after, HubReadsPut}
use Rattle.hub.specs.Put.{guid_of, put_number, put_report, HubGivesPut, HubPuts}
use Rattle.evidence.specs.PutResults.{PutGiven, PutSent, PutAnswerRead, IndexFits, WhyAskPut, WhyReadPut}
use Rattle.evidence.specs.Puts.{PutFault, WhyPut}
use Rattle.evidence.specs.Refusing.{Fault}
use Rattle.evidence.proofs.PutRefusals.{why_put_fault, why_put_refused, put_refused_why}
use Rattle.evidence.proofs.Refusals.{first_fault, front_fault, short_fault, written_why, written_refused, written_done, first_passed, first_done}
use Rattle.evidence.proofs.Results.{gives, refuses, ExportComes}

-- ---- a put applied

module _ (s q : List ℕ) (low high number : ℕ) (new new' out out' report report' : List ℕ) where
  abbrev reason : Refusal → Type 0
  reason = WhyPut s q (guid_of low high) (length new) (length out)

  abbrev pub HubPutComes : Type 0
  HubPutComes =
      ExportComes (PutFault (s ∷ q ∷ [])) (PutGiven s q (guid_of low high) new new' out out' report report') reason ((new' ≡ new) × (out' ≡ out)) number report
      report'

  hub_put_by : (o : Outcome) → put_outcome s q (guid_of low high) (length new) (length out) ≡ o → HubGivesPut o number new new' out out' report report'
      → HubPutComes
  unfolding put_number store_after output_after put_report
  hub_put_by (refused x) e h =
      let y : reason x = put_refused_why s q (guid_of low high) (length new) (length out) x e in
      refuses x (h.0, why_put_fault s q (guid_of low high) (length new) (length out) x y, (h.1, h.2), h.3) y
      (λ z w. let j = why_put_refused s q (guid_of low high) (length new) (length out) z w in cc)
  hub_put_by (entered a w) e h =
      gives (h.0, record { answer = a; store = w; enters = e; store_stands = h.1; answer_stands = h.2; told = h.3 })
      (λ z y. let j = why_put_refused s q (guid_of low high) (length new) (length out) z y in impossible (cc))

  pub hub_put_comes : HubPuts s q low high number new new' out out' report report' → HubPutComes
  hub_put_comes h = hub_put_by (put_outcome s q (guid_of low high) (length new) (length out)) refl h

-- ---- a put written

module _ (id named low high number : ℕ) (e : List ℕ) (room : ℕ) (r : Refusal) where
  abbrev sent : List ℕ
  sent = put_bytes id (expected_of named low high number) e

  abbrev AskPutWhy : Type 0
  AskPutWhy = WhyAskPut id named low high number e room r

  elements_why : IndexFits named number → (c : Reading) → elements_given e ≡ c → judged_first c (written_in room sent) ≡ wrote.Refused r → AskPutWhy
  unfolding judged_first
  elements_why f (reading.At p v) g h =
      let s : Stands (elements_given e) = subst Stands (sym g) tt in
      ⊎_elim (λ z. WhyAskPut.long f s z.0 z.1) (λ z. WhyAskPut.short f s z.0 z.1 z.2) (written_why sent room r h)
  elements_why f (reading.Refused x) g h = let z : x ≡ r = cc in WhyAskPut.elements f (g ∙ ap reading.Refused z)

  -- where the number of the index fits, the elements are judged
  narrow : IndexFits named number → put_asked id named low high number e room ≡ put_wrote id (expected_of named low high number) e room
  unfolding put_asked too_wide
  narrow (inl z) = rw (eq-eqb named 0 z)
  narrow (inr l) = by_eq named 0 (λ z. rw (eq-eqb named 0 z)) (λ n. rw (ne_eqb named 0 n, le-ltb widest_number number l))

  wider : (named ≡ 0 → ⊥) → widest_number < number → put_asked id named low high number e room ≡ wrote.Refused (fault_at 3 0)
  unfolding put_asked too_wide
  wider n l = rw (ne_eqb named 0 n, lt-ltb widest_number number l)

  fits_why : IndexFits named number → put_asked id named low high number e room ≡ wrote.Refused r → AskPutWhy
  unfolding put_wrote
  fits_why f h = elements_why f (elements_given e) refl (sym (narrow f) ∙ h)

  pub ask_put_why : put_asked id named low high number e room ≡ wrote.Refused r → AskPutWhy
  ask_put_why h =
      by_eq named 0 (λ z. fits_why (inl z) h)
      (λ n.
      by_lt widest_number number
      (λ l. let z : wrote.Refused (fault_at 3 0) ≡ wrote.Refused r = sym (wider n l) ∙ h in WhyAskPut.wide n l (cc))
      (λ l. fits_why (inr l) h))

  pub why_ask_put : AskPutWhy → put_asked id named low high number e room ≡ wrote.Refused r
  unfolding put_wrote judged_first
  why_ask_put (WhyAskPut.wide n l z) = wider n l ∙ ap wrote.Refused (sym z)
  why_ask_put (WhyAskPut.elements f h) = narrow f ∙ rw h
  why_ask_put (WhyAskPut.long f g l z) = narrow f ∙ first_passed (elements_given e) _ g ∙ written_refused sent room r (inl (l, z))
  why_ask_put (WhyAskPut.short f g l m z) = narrow f ∙ first_passed (elements_given e) _ g ∙ written_refused sent room r (inr (l, m, z))

  why_ask_put_fault : AskPutWhy → Fault (e ∷ []) r
  why_ask_put_fault (WhyAskPut.wide n l z) = rw z (front_fault e [] 3 (omega arith) (omega arith))
  why_ask_put_fault (WhyAskPut.elements f h) = first_fault e [] r (input_told longest_input e r (elements_fault e r h))
  why_ask_put_fault (WhyAskPut.long f g l z) = rw z (front_fault e [] 1 (omega arith) (omega arith))
  why_ask_put_fault (WhyAskPut.short f g l m z) = rw z (short_fault e [] (length sent))

  -- 14 is given only where the put is not over-long and longer than the output
  pub why_ask_put_short : AskPutWhy → refusal_number r ≡ 14 → (length sent ≤ longest_input) × (room < length sent)
  why_ask_put_short (WhyAskPut.wide n l e) z = let m : ◌≡◌ {A = ℕ} 3 14 = rw e at z in absurd (omega arith)
  why_ask_put_short (WhyAskPut.elements f h) z = let m = (input_told longest_input e r (elements_fault e r h)).most in absurd (omega arith)
  why_ask_put_short (WhyAskPut.long f g l e) z = let m : ◌≡◌ {A = ℕ} 1 14 = rw e at z in absurd (omega arith)
  why_ask_put_short (WhyAskPut.short f g l m e) z = (l, m)

  pub ask_put_fault : put_asked id named low high number e room ≡ wrote.Refused r → Fault (e ∷ []) r
  ask_put_fault h = why_ask_put_fault (ask_put_why h)

-- where nothing is refused, the index fits, the elements are read, and all of the put was written
pub record PutDone (id named low high number : ℕ) (e : List ℕ) (n : ℕ) : Type 0 where
  pub fits : IndexFits named number
  pub place : ℕ
  pub value : ℕ
  pub judged : elements_given e ≡ reading.At place value
  pub short : length (put_bytes id (expected_of named low high number) e) ≤ longest_input
  pub whole : n ≡ length (put_bytes id (expected_of named low high number) e)

module _ (id named low high number : ℕ) (e : List ℕ) (room n : ℕ) where
  elements_done : IndexFits named number → put_asked id named low high number e room ≡ wrote.Done n → PutDone id named low high number e n
  unfolding put_wrote
  elements_done f h =
      let w = put_bytes id (expected_of named low high number) e in
      let d = first_done w n (elements_given e) (written_in room w) (sym (narrow id named low high number e room (fault_at 1 0) f) ∙ h) in
      let z = written_done w n room d.1 in
      let at = place_value (elements_given e) d.0 in
      record { fits = f; place = at.0; value = at.1; judged = at.2; short = z.1; whole = z.0 }

  pub put_done : put_asked id named low high number e room ≡ wrote.Done n → PutDone id named low high number e n
  put_done h =
      by_eq named 0 (λ z. elements_done (inl z) h)
      (λ m.
      by_lt widest_number number
      (λ l. let z : wrote.Refused (fault_at 3 0) ≡ wrote.Done n = sym (wider id named low high number e room (fault_at 1 0) m l) ∙ h in impossible (cc))
      (λ l. elements_done (inr l) h))

module _ (id named low high number : ℕ) (e : List ℕ) (returned : ℕ) (out out' report report' : List ℕ) where
  abbrev HubAskPutComes : Type 0
  HubAskPutComes =
      ExportComes (Fault (e ∷ [])) (PutSent id named low high number e out out' report report') (WhyAskPut id named low high number e (length out)) (out' ≡ out)
      returned report report'

  hub_ask_put_by : (o : Wrote) → put_asked id named low high number e (length out) ≡ o
      → HubWrites o (put_bytes id (expected_of named low high number) e) returned out out' report report' → HubAskPutComes
  unfolding ask_output wrote_report
  hub_ask_put_by (wrote.Refused x) i h =
      refuses x (h.0, ask_put_fault id named low high number e (length out) x i, h.1, h.2) (ask_put_why id named low high number e (length out) x i)
      (λ z w. let j = why_ask_put id named low high number e (length out) z w in cc)
  hub_ask_put_by (wrote.Done n) i h =
      let m = (put_done id named low high number e (length out) n i).whole in
      gives (h.0, (put_bytes id (expected_of named low high number) e, refl, h.1, rw (← m) h.2))
      (λ z y. let j = why_ask_put id named low high number e (length out) z y in impossible (cc))

  pub hub_ask_put_comes : HubAsksPut id named low high number e returned out out' report report' → HubAskPutComes
  hub_ask_put_comes h = hub_ask_put_by (put_asked id named low high number e (length out)) refl h

-- a call that tells 0 has written, since a refusal's number is never 0
pub put_written : (id named low high number : ℕ) (e : List ℕ) (room : ℕ) (o : Wrote) → put_asked id named low high number e room ≡ o → 0 ≡ (tell_wrote o).number
    → (n : ℕ) × (o ≡ wrote.Done n)
put_written id named low high number e room (wrote.Done n) i h = (n, refl)
put_written id named low high number e room (wrote.Refused r) i h =
    let w = (ask_put_fault id named low high number e room r i).least in
    absurd (omega arith)

-- ---- the answer to a put read

on_refused : (c : Reading) (x : ReceivedPut) (r : Refusal) → put_answer_on c x ≡ answer.Refused r → c ≡ reading.Refused r
unfolding put_answer_on
on_refused (reading.At p v) x r h = impossible (cc)
on_refused (reading.Refused y) x r h = cc

module _ (w : List ℕ) (number : ℕ) (report report' : List ℕ) where
  read_put_why : (r : Refusal) → put_answer_in w ≡ answer.Refused r → WhyReadPut w r
  unfolding put_answer_in
  read_put_why r h = on_refused (put_answer_end w) _ r h

  why_read_put : (r : Refusal) → WhyReadPut w r → put_answer_in w ≡ answer.Refused r
  unfolding put_answer_in put_answer_on
  why_read_put r h = rw h

  read_put_fault : (r : Refusal) → put_answer_in w ≡ answer.Refused r → Fault (w ∷ []) r
  read_put_fault r h = first_fault w [] r (input_told longest_answer w r (put_answer_within w r (read_put_why r h)))

  abbrev HubReadPutComes : Type 0
  HubReadPutComes = ExportComes (Fault (w ∷ [])) (PutAnswerRead w report report') (WhyReadPut w) (Unit {0}) number report report'

  hub_read_put_by : (a : ReadPutAnswer) → put_answer_in w ≡ a → (number ≡ (tell_read_put_answer a).number) × (report' ≡ put_report_after a report) → HubReadPutComes
  unfolding put_report_after
  hub_read_put_by (answer.Refused x) i h = refuses x (h.0, read_put_fault x i, tt, h.1) (read_put_why x i) (λ z y. let j = why_read_put z y in cc)
  hub_read_put_by (answer.Is x) i h = gives (h.0, (x, i, h.1)) (λ z y. let j = why_read_put z y in impossible (cc))

  pub hub_read_put_comes : HubReadsPut w number report report' → HubReadPutComes
  hub_read_put_comes h = hub_read_put_by (put_answer_in w) refl h
