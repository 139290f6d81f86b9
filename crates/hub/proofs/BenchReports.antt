-- What the bench's calls tell, as number and report.
-- Assumes nothing.
use mathlib.Core.Path.{◌≡◌, refl, ap, ◌∙◌}
use mathlib.Core.List.{List}
use Prim.Native.Nat.{ℕ}
use lib.ListN.{get_or}
use Rattle.laws.specs.Placed.{placed}
use Rattle.laws.proofs.Cases.{impossible}
use Rattle.numbers.specs.Refusals.{tell_wrote, refusal_number}
use Rattle.numbers.specs.declared.refusal.Refusal.{Refusal}
use Rattle.numbers.specs.Results.Wrote.{Wrote}
use Rattle.numbers.specs.Results.Wrote as wrote
use Rattle.numbers.proofs.OneAnswers.{values_of}
use Rattle.store.specs.Accessor.{tell_found}
use Rattle.store.specs.Results.Found.{Found}
use Rattle.store.specs.Results.Found as found
use Rattle.client.specs.Ask.{WroteAs}
use Rattle.client.specs.Read.{received_numbers, tell_read_answer}
use Rattle.client.specs.declared.answer.Received.{Received}
use Rattle.client.specs.Results.ReadAnswer.{ReadAnswer}
use Rattle.client.specs.Results.ReadAnswer as answer
use Rattle.report.specs.Report.{three_numbers, refusal_report}
use Rattle.hub.specs.Bench.{wrote_report, HubWrites, report_after, found_report}
use Rattle.hub.proofs.Reports.{same_refusal}

-- ---- a request written

done_told : (o : Wrote) (n : ℕ) → tell_wrote (wrote.Done n) ≡ tell_wrote o → (0 ≡ (tell_wrote o).number) × (three_numbers 0 0 n ≡ wrote_report o)
unfolding wrote_report
done_told (wrote.Done m) n e = let v = values_of _ _ e in let k : n ≡ m = cc in (refl, ap (three_numbers 0 0) k)
done_told (wrote.Refused r) n e = let v = values_of _ _ e in impossible (cc)

refused_told : (o : Wrote) (r : Refusal) → tell_wrote (wrote.Refused r) ≡ tell_wrote o → (refusal_number r ≡ (tell_wrote o).number) × (refusal_report r ≡ wrote_report o)
unfolding wrote_report
refused_told (wrote.Done m) r e = let v = values_of _ _ e in impossible (cc)
refused_told (wrote.Refused q) r e = same_refusal r q e

module _ (o : Wrote) (w out out' report report' : List ℕ) where
  pub hub_wrote : (n : ℕ) → WroteAs o w (wrote.Done n) out out' → report' ≡ placed (three_numbers 0 0 n) report → HubWrites o w 0 out out' report report'
  hub_wrote n e p = let t = done_told o n e.0 in (t.0, e.1, p ∙ ap (λ (v : List ℕ). placed v report) t.1)

  pub hub_wrote_not : (r : Refusal) → WroteAs o w (wrote.Refused r) out out' → report' ≡ placed (refusal_report r) report
      → HubWrites o w (refusal_number r) out out' report report'
  hub_wrote_not r e p = let t = refused_told o r e.0 in (t.0, e.1, p ∙ ap (λ (v : List ℕ). placed v report) t.1)

-- ---- an answer read

-- equal numbers make equal reports
same_received : (x y : Received) (report : List ℕ) → received_numbers x ≡ received_numbers y → report_after (answer.Is x) report ≡ report_after (answer.Is y) report
unfolding report_after received_numbers
same_received x y report e =
    let k : x.knowledge ≡ y.knowledge = ap (λ (l : List ℕ). get_or l 0 0) e in
    let n : x.length ≡ y.length = ap (λ (l : List ℕ). get_or l 1 0) e in
    rw (e, k, n)

pub read_told : (a : ReadAnswer) (x : Received) → tell_read_answer (answer.Is x) ≡ tell_read_answer a
    → (0 ≡ (tell_read_answer a).number) × ((report : List ℕ) → report_after (answer.Is x) report ≡ report_after a report)
unfolding received_numbers
read_told (answer.Is y) x e = (refl, λ report. same_received x y report (values_of _ _ e))
read_told (answer.Refused r) x e = let v = values_of _ _ e in impossible (cc)

pub read_refused : (a : ReadAnswer) (r : Refusal) → tell_read_answer (answer.Refused r) ≡ tell_read_answer a
    → (refusal_number r ≡ (tell_read_answer a).number) × ((report : List ℕ) → placed (refusal_report r) report ≡ report_after a report)
unfolding report_after received_numbers
read_refused (answer.Is y) r e = let v = values_of _ _ e in impossible (cc)
read_refused (answer.Refused q) r e = let t = same_refusal r q e in (t.0, λ report. ap (λ (v : List ℕ). placed v report) t.1)

-- ---- one element

pub found_told : (f : Found) (at n : ℕ) → tell_found (found.At at n) ≡ tell_found f → (0 ≡ (tell_found f).number) × (three_numbers 0 at n ≡ found_report f)
unfolding found_report
found_told (found.At p m) at n e = let v = values_of _ _ e in let a : at ≡ p = cc in let b : n ≡ m = cc in (refl, rw (a, b))
found_told (found.Refused r) at n e = let v = values_of _ _ e in impossible (cc)

pub found_refused : (f : Found) (r : Refusal) → tell_found (found.Refused r) ≡ tell_found f → (refusal_number r ≡ (tell_found f).number) × (refusal_report r ≡ found_report f)
unfolding found_report
found_refused (found.At p m) r e = let v = values_of _ _ e in impossible (cc)
found_refused (found.Refused q) r e = same_refusal r q e
