-- What a put tells, as number and report; and any two answers that its promise allows are equal.
-- Assumes nothing.
use mathlib.Core.Path.{◌≡◌, refl, sym, ap, ◌∙◌}
use mathlib.Core.List.{List, [], ◌∷◌}
use Prim.Native.Nat.{ℕ}
use lib.ListN.{length}
use Rattle.laws.specs.Placed.{placed}
use Rattle.laws.proofs.Cases.{impossible}
use Rattle.numbers.specs.Refusals.{refusal_number}
use Rattle.numbers.specs.declared.refusal.Refusal.{Refusal}
use Rattle.numbers.proofs.OneAnswers.{values_of}
use Rattle.puts.specs.Applied.{Outcome, refused, entered, tell_applied, applied_told, GivesPut}
use Rattle.puts.specs.Results.Applied as applied
use Rattle.report.specs.Report.{numbers_bytes, three_numbers, refusal_report}
use Rattle.hub.specs.Put.{put_number, put_report, HubGivesPut, HubPuts}
use Rattle.hub.proofs.Reports.{same_refusal}

-- the report of a put that entered
abbrev pub entered_report : ℕ → ℕ → List ℕ → List ℕ
entered_report n m report = placed (numbers_bytes (0 ∷ 0 ∷ n ∷ m ∷ [])) (placed (three_numbers 0 0 n) report)

entered_told : (o : Outcome) (n m : ℕ) (report : List ℕ) → tell_applied (applied.Entered n m) ≡ tell_applied (applied_told o) → (0 ≡ put_number o) × (entered_report n m report ≡ put_report o report)
unfolding applied_told put_number put_report
entered_told (refused r) n m report e = let v = values_of _ _ e in impossible (cc)
entered_told (entered w new) n m report e =
    let v = values_of _ _ e in
    let a : n ≡ length w = cc in
    let b : m ≡ length new = cc in
    (refl, rw (a, b))

refused_told : (o : Outcome) (r : Refusal) (report : List ℕ) → tell_applied (applied.Refused r) ≡ tell_applied (applied_told o) → (refusal_number r ≡ put_number o) × (placed (refusal_report r) report ≡ put_report o report)
unfolding applied_told put_number put_report
refused_told (refused q) r report e = let s = same_refusal r q e in (s.0, ap (λ (w : List ℕ). placed w report) s.1)
refused_told (entered w new) r report e = let v = values_of _ _ e in impossible (cc)

module _ (o : Outcome) (new new' out out' report report' : List ℕ) where
  pub put_entered : (n m : ℕ) → GivesPut o (applied.Entered n m) new new' out out' → report' ≡ entered_report n m report → HubGivesPut o 0 new new' out out' report report'
  put_entered n m e p = let t = entered_told o n m report e.0 in (t.0, e.1, e.2, p ∙ t.1)

  pub put_refused : (r : Refusal) → GivesPut o (applied.Refused r) new new' out out' → report' ≡ placed (refusal_report r) report
      → HubGivesPut o (refusal_number r) new new' out out' report report'
  put_refused r e p = let t = refused_told o r report e.0 in (t.0, e.1, e.2, p ∙ t.1)

pub hub_puts_one : (s q : List ℕ) (low high r t : ℕ) (new new' new'' out out' out'' report report' report'' : List ℕ)
    → HubPuts s q low high r new new' out out' report report' → HubPuts s q low high t new new'' out out'' report report''
    → (r ≡ t) × (new' ≡ new'') × (out' ≡ out'') × (report' ≡ report'')
hub_puts_one s q low high r t new new' new'' out out' out'' report report' report'' a b =
    (a.0 ∙ sym b.0, a.1 ∙ sym b.1, a.2 ∙ sym b.2, a.3 ∙ sym b.3)
