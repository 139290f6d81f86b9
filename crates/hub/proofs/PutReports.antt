-- What the bench's calls about puts tell, as number and report; and any two answers that their promises allow are equal.
-- Assumes nothing.
use mathlib.Core.Path.{◌≡◌, refl, sym, ap, ◌∙◌}
use mathlib.Core.List.{List}
use Prim.Native.Nat.{ℕ, ◌≤◌, ◌<◌}
use lib.ListN.{length, get_or}
use borrow.Author.Tests.{lt-ltb, le-ltb, eq-eqb, ne_eqb}
use Rattle.laws.specs.Placed.{placed}
use Rattle.laws.proofs.Cases.{impossible}
use Rattle.numbers.specs.Refusals.{fault_at, refusal_number}
use Rattle.numbers.specs.Results.ExtendedGuid.{Named, Null}
use Rattle.numbers.specs.declared.refusal.Refusal.{Refusal}
use Rattle.numbers.specs.Results.Wrote.{Wrote}
use Rattle.numbers.specs.Results.Wrote as wrote
use Rattle.numbers.proofs.OneAnswers.{values_of}
use Rattle.client.specs.Ask.{ask_output, WroteAs}
use Rattle.client.specs.PutWritten.{put_bytes, WritesPut}
use Rattle.client.specs.ReadPut.{received_put_numbers, tell_read_put_answer}
use Rattle.client.specs.declared.put_answer.ReceivedPut.{ReceivedPut}
use Rattle.client.specs.Results.ReadPutAnswer.{ReadPutAnswer}
use Rattle.client.specs.Results.ReadPutAnswer as answer
use Rattle.report.specs.Report.{refusal_report}
use Rattle.hub.specs.BenchPut.{widest_number, expected_of, too_wide, put_asked, HubAsksPut, put_report_after, HubReadsPut}
use Rattle.hub.proofs.Reports.{same_refusal}

-- ---- a put written

module _ (id named low high number : ℕ) (s out : List ℕ) where
  -- what is promised where writing answers r
  abbrev Asked : Wrote → List ℕ → Type 0
  Asked r out' = WroteAs (put_asked id named low high number s (length out)) (put_bytes id (expected_of named low high number) s) r out out'

  -- no storage index is expected
  pub asked_null : (r : Wrote) (out' : List ℕ) → named ≡ 0 → WritesPut id Null s r out out' → Asked r out'
  unfolding put_asked too_wide expected_of
  asked_null r out' e h = rw (eq-eqb named 0 e) h

  -- one is, and its number fits, or not
  pub asked_named : (r : Wrote) (out' : List ℕ) → (named ≡ 0 → ⊥) → number ≤ widest_number → WritesPut id (Named (record { low = low; high = high }) number) s r out out'
      → Asked r out'
  unfolding put_asked too_wide expected_of
  asked_named r out' n l h = rw (ne_eqb named 0 n, le-ltb widest_number number l) h

  pub asked_wide : (named ≡ 0 → ⊥) → widest_number < number → Asked (wrote.Refused (fault_at 3 0)) out
  unfolding put_asked too_wide expected_of ask_output
  asked_wide n l = rw (ne_eqb named 0 n, lt-ltb widest_number number l) (refl, refl)

-- ---- the answer to a put read

-- equal numbers make equal reports
same_put : (x y : ReceivedPut) (report : List ℕ) → received_put_numbers x ≡ received_put_numbers y → put_report_after (answer.Is x) report ≡ put_report_after (answer.Is y) report
unfolding put_report_after
same_put x y report e =
    let k : x.knowledge ≡ y.knowledge = ap (λ (l : List ℕ). get_or l 0 0) e in
    let n : x.length ≡ y.length = ap (λ (l : List ℕ). get_or l 1 0) e in
    let i : x.id ≡ y.id = ap (λ (l : List ℕ). get_or l 2 0) e in
    rw (k, n, i)

pub put_told : (a : ReadPutAnswer) (x : ReceivedPut) → tell_read_put_answer (answer.Is x) ≡ tell_read_put_answer a
    → (0 ≡ (tell_read_put_answer a).number) × ((report : List ℕ) → put_report_after (answer.Is x) report ≡ put_report_after a report)
put_told (answer.Is y) x e = (refl, λ report. same_put x y report (values_of _ _ e))
put_told (answer.Refused r) x e = let v = values_of _ _ e in impossible (cc)

pub put_refused : (a : ReadPutAnswer) (r : Refusal) → tell_read_put_answer (answer.Refused r) ≡ tell_read_put_answer a
    → (refusal_number r ≡ (tell_read_put_answer a).number) × ((report : List ℕ) → placed (refusal_report r) report ≡ put_report_after a report)
unfolding put_report_after
put_refused (answer.Is y) r e = let v = values_of _ _ e in impossible (cc)
put_refused (answer.Refused q) r e = let t = same_refusal r q e in (t.0, λ report. ap (λ (v : List ℕ). placed v report) t.1)

-- ---- one answer

pub hub_asks_put_one : (id named low high number : ℕ) (s : List ℕ) (r r' : ℕ) (out x x' report y y' : List ℕ) → HubAsksPut id named low high number s r out x report y
    → HubAsksPut id named low high number s r' out x' report y' → (r ≡ r') × (x ≡ x') × (y ≡ y')
hub_asks_put_one id named low high number s r r' out x x' report y y' a b = (a.0 ∙ sym b.0, a.1 ∙ sym b.1, a.2 ∙ sym b.2)

pub hub_reads_put_one : (s : List ℕ) (r r' : ℕ) (report y y' : List ℕ) → HubReadsPut s r report y → HubReadsPut s r' report y' → (r ≡ r') × (y ≡ y')
hub_reads_put_one s r r' report y y' a b = (a.0 ∙ sym b.0, a.1 ∙ sym b.1)
