-- What each call came to, from what it promises and from nothing else: it gave its result, and there was no reason to refuse; or it
-- refused, and with the one refusal that has a reason. DemandOne.antt says it in the demand's words; who reads that file can skip all of
-- this one.
-- Assumes nothing.
use native.Mathlib.Omega.{arith}
use mathlib.Core.Path.{◌≡◌, refl, ap, subst, ◌∙◌}
use mathlib.Core.Logic.{◌⊎◌, inl, inr}
use mathlib.Core.List.{List, [], ◌∷◌}
use Prim.Native.Nat.{ℕ}
use lib.ListN.{length}
use Rattle.laws.specs.Placed.{placed}
use Rattle.laws.proofs.Cases.{impossible}
use Rattle.numbers.specs.Refusals.{refusal_number}
use Rattle.numbers.specs.declared.refusal.Refusal.{Refusal}
use Rattle.numbers.specs.Results.Wrote.{Wrote}
use Rattle.numbers.specs.Results.Wrote as wrote
use Rattle.talk.specs.declared.range.Range.{Range}
use Rattle.order.specs.Order.{ranked_numbers}
use Rattle.store.specs.Accessor.{tell_found}
use Rattle.store.specs.Results.Found.{Found}
use Rattle.store.specs.Results.Found as found
use Rattle.store.specs.declared.element.Element.{Element}
use Rattle.pages.specs.Answer.{Outcome, refused, answered, number_in, answer_told, rows_after, ranges_after, answer_of, Tells, Gives, TellsLength, WritesAnswer, output_after as answerAfter, knowledge_numbers}
use Rattle.pages.specs.Cases.{Sends}
use Rattle.pages.specs.Results.Answered.{Answered, Refused, Sent}
use Rattle.pages.proofs.OneAnswers.{answer_telling_lem}
use Rattle.pages.proofs.Refusing.{answered_asks, call_sends}
use Rattle.pages.proofs.TwoCalls.{pair_gives}
use Rattle.client.specs.AskWritten.{ask_bytes}
use Rattle.client.specs.Ask.{ask_wrote, ask_output as requestAfter}
use Rattle.client.specs.Read.{answer_in, tell_read_answer}
use Rattle.client.specs.Results.ReadAnswer.{ReadAnswer}
use Rattle.client.specs.Results.ReadAnswer as answer
use Rattle.report.specs.Report.{refusal_report}
use Rattle.hub.specs.Call.{report_bytes, hub_outcome, HubTells, HubGives, HubTellsLength, HubWritesAnswer}
use Rattle.hub.specs.Bench.{wrote_report, HubWrites, report_after, element_found, found_report, HubAsks, HubReads, HubFinds}
use Rattle.evidence.specs.Refusing.{Fault, Tables, Why}
use Rattle.evidence.specs.BenchRefusing.{WhyAsk, WhyRead, WhyElement}
use Rattle.evidence.specs.Results.{Result, LengthTold, AnswerSent, PairGiven, RefusedWith, LengthGiven, AnswerGiven, RequestGiven, AnswerRead, ElementGiven}
use Rattle.evidence.proofs.Calling.{answered_outcome, all_written}
use Rattle.evidence.proofs.Refusals.{refused_why, why_refused, why_fault, ask_why, why_ask, ask_fault, ask_done, read_why, why_read, read_fault, element_why, why_element, element_fault}

-- ---- what a call comes to

pub data Comes (Given : Type 0) (Refusing Reason : Refusal → Type 0) : Type 0 where
  -- its result, where no refusal has a reason
  gives : Given → ((x : Refusal) → Reason x → ⊥) → Comes Given Refusing Reason
  -- or x, the one refusal that has a reason
  refuses : (x : Refusal) → Refusing x → Reason x → ((y : Refusal) → Reason y → x ≡ y) → Comes Given Refusing Reason

-- to refuse with x: a call that is lent tables returns it ..
abbrev pub LentRefused : List ℕ → List ℕ → Answered → Type 0 → Refusal → Type 0
LentRefused s q r Untouched x = (r ≡ Refused x) × Fault (s ∷ q ∷ []) x × Untouched

abbrev pub LentComes : List ℕ → List ℕ → ℕ → ℕ → ℕ → Type 0 → Type 0 → Answered → Type 0
LentComes s q rows ranges room Given Untouched r = Comes Given (LentRefused s q r Untouched) (Why s q rows ranges room)

-- .. and an exported call returns its number, and tells it in the report
abbrev pub ExportRefused : (Refusal → Type 0) → Type 0 → ℕ → List ℕ → List ℕ → Refusal → Type 0
ExportRefused IsFault Untouched number report report' x = (number ≡ refusal_number x) × IsFault x × Untouched × (report' ≡ placed (refusal_report x) report)

abbrev pub ExportComes : (Refusal → Type 0) → Type 0 → (Refusal → Type 0) → Type 0 → ℕ → List ℕ → List ℕ → Type 0
ExportComes IsFault Given Reason Untouched number report report' =
    Comes ((number ≡ 0) × Given) (ExportRefused IsFault Untouched number report report') Reason

-- ---- the answering calls, in either form

-- where something is answered, both inputs are read, and the greatest page is decided
result_of : (s q : List ℕ) (rows ranges room : ℕ) (w : List ℕ) (all : List Element) (l : List Range) → answer_of s q rows ranges room ≡ answered w all l
    → (x : Result s q room (length w) (length all) (length l)) × (all ≡ x.asked.elements) × (l ≡ x.ranges) × (w ≡ x.bytes)
result_of s q rows ranges room w all l h =
    let o = answered_outcome s q rows ranges room w all l h in
    let a = answered_asks s q room w all l o in
    let z = call_sends s q room a.0 a.1 w all l o in (
      record {
        asked = a.0;
        asks = a.1;
        bytes = w;
        ranges = l;
        sends = subst (λ (xs : List Element). Sends a.0 room w xs l) z.elements_are z;
        length_is = refl;
        rows_are = ap length z.elements_are;
        ranges_are = refl;
      },
      z.elements_are,
      refl,
      refl,
    )

-- a refusal is the one that has a reason, and an answer has none
refused_once : (s q : List ℕ) (rows ranges room : ℕ) (x : Refusal) → answer_of s q rows ranges room ≡ refused x → (y : Refusal) → Why s q rows ranges room y → x ≡ y
refused_once s q rows ranges room x e y w = let j = why_refused s q rows ranges room y w in cc

no_reason : (s q : List ℕ) (rows ranges room : ℕ) (w : List ℕ) (all : List Element) (l : List Range) → answer_of s q rows ranges room ≡ answered w all l
    → (x : Refusal) → Why s q rows ranges room x → ⊥
no_reason s q rows ranges room w all l e x y = let j = why_refused s q rows ranges room x y in impossible (cc)

module _ (s q : List ℕ) (r : Answered) (rows rows' ranges ranges' : List ℕ) where
  length_by : (offered : ℕ) (o : Outcome) → answer_of s q (length rows) (length ranges) offered ≡ o → Tells o r rows rows' ranges ranges'
      → LentComes s q (length rows) (length ranges) offered (LengthTold s q offered r rows rows' ranges ranges') ((rows' ≡ rows) × (ranges' ≡ ranges)) r
  unfolding answer_told rows_after ranges_after
  length_by offered (refused x) e h =
      let y = refused_why s q (length rows) (length ranges) offered x e in
      refuses x (answer_telling_lem r (Refused x) h.0, why_fault s q (length rows) (length ranges) offered x y, (h.1, h.2)) y (refused_once s q (length rows) (length ranges) offered x e)
  length_by offered (answered w all l) e h =
      let i : r ≡ Sent (length w) (length all) (length l) = answer_telling_lem r (Sent (length w) (length all) (length l)) h.0 in
      let x = result_of s q (length rows) (length ranges) offered w all l e in
      gives (length w, length all, length l, i, x.0, rw (← x.1, ← x.2) (h.1, h.2)) (no_reason s q (length rows) (length ranges) offered w all l e)

  pub length_comes : (offered : ℕ) → TellsLength s q offered r rows rows' ranges ranges'
      → LentComes s q (length rows) (length ranges) offered (LengthTold s q offered r rows rows' ranges ranges') ((rows' ≡ rows) × (ranges' ≡ ranges)) r
  length_comes offered h = length_by offered (answer_of s q (length rows) (length ranges) offered) refl h

  module _ (out out' : List ℕ) where
    abbrev AnswerComes : Type 0
    AnswerComes =
        LentComes s q (length rows) (length ranges) (length out) (AnswerSent s q r rows rows' ranges ranges' out out') ((rows' ≡ rows) × (ranges' ≡ ranges) × (out' ≡ out)) r

    answer_by : (o : Outcome) → answer_of s q (length rows) (length ranges) (length out) ≡ o → Gives o r rows rows' ranges ranges' out out' → AnswerComes
    unfolding answer_told rows_after ranges_after answerAfter
    answer_by (refused x) e h =
        let y = refused_why s q (length rows) (length ranges) (length out) x e in
        refuses x (answer_telling_lem r (Refused x) h.0, why_fault s q (length rows) (length ranges) (length out) x y, (h.1, h.2, h.3)) y
        (refused_once s q (length rows) (length ranges) (length out) x e)
    answer_by (answered w all l) e h =
        let i : r ≡ Sent (length w) (length all) (length l) = answer_telling_lem r (Sent (length w) (length all) (length l)) h.0 in
        let x = result_of s q (length rows) (length ranges) (length out) w all l e in
        gives (length w, length all, length l, i, x.0, rw (← x.1, ← x.2) (h.1, h.2), rw (← x.3) h.3) (no_reason s q (length rows) (length ranges) (length out) w all l e)

    pub answer_comes : WritesAnswer s q r rows rows' ranges ranges' out out' → AnswerComes
    answer_comes h = answer_by (answer_of s q (length rows) (length ranges) (length out)) refl h

-- and both together, where the second was lent tables that are long enough, and an output of exactly the told length
module _ (s q : List ℕ) (offered n rowCount rangeCount : ℕ) (rows rows' ranges ranges' : List ℕ) (r : Answered)
    (rowsThen rowsThen' rangesThen rangesThen' out out' : List ℕ) where
  abbrev PairComes : Type 0
  PairComes = PairGiven s q offered n rowCount rangeCount rows rows' ranges ranges' rowsThen rowsThen' rangesThen rangesThen' out'

  pair_by : (o : Outcome) → answer_of s q (length rows) (length ranges) offered ≡ o → Tells o (Sent n rowCount rangeCount) rows rows' ranges ranges'
      → Gives o r rowsThen rowsThen' rangesThen rangesThen' out out' → length out ≡ n → PairComes
  unfolding answer_told rows_after ranges_after
  pair_by (refused x) e h k long = let i = answer_telling_lem (Sent n rowCount rangeCount) (Refused x) h.0 in impossible (cc)
  pair_by (answered w all l) e h k long =
      let i = answer_telling_lem (Sent n rowCount rangeCount) (Sent (length w) (length all) (length l)) h.0 in
      let a : n ≡ length w = grind (arith, i) in
      let b : rowCount ≡ length all = grind (arith, i) in
      let c : rangeCount ≡ length l = grind (arith, i) in
      let x = result_of s q (length rows) (length ranges) offered w all l e in
      let written : out' ≡ w = all_written s q (answered w all l) w all l refl out out' (long ∙ a) k.3 in
      rw (a, b, c) (x.0, rw (← x.1, ← x.2) (h.1, h.2), rw (← x.1, ← x.2) (k.1, k.2), rw (← x.3) written)

  pub pair_comes : TellsLength s q offered (Sent n rowCount rangeCount) rows rows' ranges ranges' → Tables (length rowsThen) (length rangesThen) → length out ≡ n
      → WritesAnswer s q r rowsThen rowsThen' rangesThen rangesThen' out out' → (r ≡ Sent n rowCount rangeCount) × PairComes
  pair_comes h t long k =
      let g = pair_gives s q offered rows ranges n rowCount rangeCount rows' ranges' h r rowsThen rowsThen' rangesThen rangesThen' out out' t.0 t.1 long k in
      (g.0, pair_by (answer_of s q (length rows) (length ranges) offered) refl h g.1 long)

module _ (s q : List ℕ) (number : ℕ) (report report' : List ℕ) where
  hub_length_by : (offered : ℕ) (o : Outcome) → hub_outcome s q offered ≡ o → HubTells o number report report'
      → ExportComes (Fault (s ∷ q ∷ [])) (LengthGiven s q offered report report') (Why s q ranked_numbers knowledge_numbers offered) (Unit {0}) number report report'
  unfolding number_in report_bytes
  hub_length_by offered (refused x) e h =
      let y = refused_why s q ranked_numbers knowledge_numbers offered x e in
      refuses x (h.0, why_fault s q ranked_numbers knowledge_numbers offered x y, tt, h.1) y (refused_once s q ranked_numbers knowledge_numbers offered x e)
  hub_length_by offered (answered w all l) e h =
      gives (h.0, (length w, length all, length l, (result_of s q ranked_numbers knowledge_numbers offered w all l e).0, h.1)) (no_reason s q ranked_numbers knowledge_numbers offered w all l e)

  pub hub_length_comes : (offered : ℕ) → HubTellsLength s q offered number report report'
      → ExportComes (Fault (s ∷ q ∷ [])) (LengthGiven s q offered report report') (Why s q ranked_numbers knowledge_numbers offered) (Unit {0}) number report report'
  hub_length_comes offered h = hub_length_by offered (hub_outcome s q offered) refl h

  module _ (out out' : List ℕ) where
    abbrev HubAnswerComes : Type 0
    HubAnswerComes =
        ExportComes (Fault (s ∷ q ∷ [])) (AnswerGiven s q out out' report report') (Why s q ranked_numbers knowledge_numbers (length out)) (out' ≡ out) number
        report report'

    hub_write_by : (o : Outcome) → hub_outcome s q (length out) ≡ o → HubGives o number out out' report report' → HubAnswerComes
    unfolding number_in answerAfter report_bytes
    hub_write_by (refused x) e h =
        let y = refused_why s q ranked_numbers knowledge_numbers (length out) x e in
        refuses x (h.0, why_fault s q ranked_numbers knowledge_numbers (length out) x y, h.1, h.2) y (refused_once s q ranked_numbers knowledge_numbers (length out) x e)
    hub_write_by (answered w all l) e h =
        let x = result_of s q ranked_numbers knowledge_numbers (length out) w all l e in
        gives (h.0, (length w, length all, length l, x.0, rw (← x.3) h.1, h.2)) (no_reason s q ranked_numbers knowledge_numbers (length out) w all l e)

    pub hub_write_comes : HubWritesAnswer s q number out out' report report' → HubAnswerComes
    hub_write_comes h = hub_write_by (hub_outcome s q (length out)) refl h

-- ---- the bench's calls

module _ (id limit : ℕ) (f k : List ℕ) (number : ℕ) (out out' report report' : List ℕ) where
  abbrev HubAskComes : Type 0
  HubAskComes =
      ExportComes (Fault (f ∷ k ∷ [])) (RequestGiven id limit f k out out' report report') (WhyAsk id limit f k (length out)) (out' ≡ out) number report
      report'

  hub_ask_by : (o : Wrote) → ask_wrote id limit f k (length out) ≡ o → HubWrites o (ask_bytes id limit f k) number out out' report report' → HubAskComes
  unfolding requestAfter wrote_report
  hub_ask_by (wrote.Refused x) e h =
      refuses x (h.0, ask_fault id limit f k (length out) x e, h.1, h.2) (ask_why id limit f k (length out) x e)
      (λ z w. let j = why_ask id limit f k (length out) z w in cc)
  hub_ask_by (wrote.Done n) e h =
      let m = ask_done id limit f k (length out) n e in
      gives (h.0, (ask_bytes id limit f k, refl, h.1, rw (← m) h.2)) (λ z y. let j = why_ask id limit f k (length out) z y in impossible (cc))

  pub hub_ask_comes : HubAsks id limit f k number out out' report report' → HubAskComes
  hub_ask_comes h = hub_ask_by (ask_wrote id limit f k (length out)) refl h

-- reading an answer and finding an element have no output
module _ (w : List ℕ) (number : ℕ) (report report' : List ℕ) where
  abbrev HubReadComes : Type 0
  HubReadComes = ExportComes (Fault (w ∷ [])) (AnswerRead w report report') (WhyRead w) (Unit {0}) number report report'

  hub_read_by : (a : ReadAnswer) → answer_in w ≡ a → (number ≡ (tell_read_answer a).number) × (report' ≡ report_after a report) → HubReadComes
  unfolding report_after
  hub_read_by (answer.Refused x) e h = refuses x (h.0, read_fault w x e, tt, h.1) (read_why w x e) (λ z y. let j = why_read w z y in cc)
  hub_read_by (answer.Is x) e h = gives (h.0, (x, e, h.1)) (λ z y. let j = why_read w z y in impossible (cc))

  pub hub_read_comes : HubReads w number report report' → HubReadComes
  hub_read_comes h = hub_read_by (answer_in w) refl h

module _ (kind : ℕ) (s : List ℕ) (i number : ℕ) (report report' : List ℕ) where
  abbrev HubElementComes : Type 0
  HubElementComes = ExportComes (Fault (s ∷ [])) (ElementGiven kind s i report report') (WhyElement kind s i) (Unit {0}) number report report'

  hub_element_by : (a : Found) → element_found kind s i ≡ a → (number ≡ (tell_found a).number) × (report' ≡ placed (found_report a) report) → HubElementComes
  unfolding found_report
  hub_element_by (found.Refused x) e h =
      refuses x (h.0, element_fault kind s i x e, tt, h.1) (element_why kind s i x e) (λ z y. let j = why_element kind s i z y in cc)
  hub_element_by (found.At place n) e h =
      gives (h.0, (place, n, e, h.1)) (λ z y. let j = why_element kind s i z y in impossible (cc))

  pub hub_element_comes : HubFinds kind s i number report report' → HubElementComes
  hub_element_comes h = hub_element_by (element_found kind s i) refl h

-- ---- what DemandOne says of each, from what it came to

pub lent_kept : (s q : List ℕ) (rows ranges room : ℕ) (Given Untouched : Type 0) (r : Answered)
    → (Given → (n : ℕ) × (rowCount : ℕ) × (rangeCount : ℕ) × (r ≡ Sent n rowCount rangeCount)) → LentComes s q rows ranges room Given Untouched r
    → (Given ⊎ ((x : Refusal) × (r ≡ Refused x) × Fault (s ∷ q ∷ []) x))
    × ((x : Refusal) → r ≡ Refused x → Why s q rows ranges room x)
    × ((x : Refusal) → Why s q rows ranges room x → r ≡ Refused x)
    × ((x : Refusal) → r ≡ Refused x → Untouched)
lent_kept s q rows ranges room Given Untouched r sent (gives g none) = let i = (sent g).3 in (inl g, λ x j. impossible (cc), λ x w. absurd (none x w), λ x j. impossible (cc))
lent_kept s q rows ranges room Given Untouched r sent (refuses x (i, f, kept) w one) = (
  inr (x, i, f),
  λ y j. let k : x ≡ y = cc in rw (← k) w,
  λ y v. i ∙ ap Refused (one y v),
  λ y j. kept,
)

pub export_kept : (IsFault : Refusal → Type 0) (Given : Type 0) (Reason : Refusal → Type 0) (Untouched : Type 0) (number : ℕ) (report report' : List ℕ)
    → ExportComes IsFault Given Reason Untouched number report report'
    → (((number ≡ 0) × Given) ⊎ RefusedWith IsFault Reason number report report')
    × ((x : Refusal) → Reason x → (number ≡ refusal_number x) × (report' ≡ placed (refusal_report x) report))
    × ((number ≡ 0 → ⊥) → Untouched)
export_kept IsFault Given Reason Untouched number report report' (gives (e, g) none) = (inl (e, g), λ x w. absurd (none x w), λ z. absurd (z e))
export_kept IsFault Given Reason Untouched number report report' (refuses x (e, f, u, t) w one) = (
  inr (record { refusal = x; number_is = e; fault = f; reason = w; told = t }),
  λ y v. rw (← one y v) (e, t),
  λ z. u,
)
