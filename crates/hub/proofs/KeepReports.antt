-- What keeping an answer tells, as number and report; and any two answers that its promise allows are equal.
-- Assumes nothing.
use mathlib.Core.Path.{◌≡◌, refl, sym, ap, ◌∙◌}
use mathlib.Core.List.{List}
use Prim.Native.Nat.{ℕ}
use lib.ListN.{length}
use Rattle.laws.specs.Placed.{placed}
use Rattle.laws.proofs.Cases.{impossible}
use Rattle.numbers.specs.Refusals.{refusal_number}
use Rattle.numbers.specs.declared.refusal.Refusal.{Refusal}
use Rattle.numbers.proofs.OneAnswers.{values_of}
use Rattle.book.specs.Keep.{Outcome, refused, kept, tell_keeping, keep_told, GivesBook}
use Rattle.book.specs.Results.Keeping as keeping
use Rattle.report.specs.Report.{three_numbers, refusal_report}
use Rattle.hub.specs.Keep.{keep_number, keep_report, HubGivesBook, HubKeeps}
use Rattle.hub.proofs.Reports.{same_refusal}

kept_told : (o : Outcome) (n : ℕ) → tell_keeping (keeping.Book n) ≡ tell_keeping (keep_told o) → (0 ≡ keep_number o) × (three_numbers 0 0 n ≡ keep_report o)
unfolding keep_told keep_number keep_report
kept_told (refused r) n e = let v = values_of _ _ e in impossible (cc)
kept_told (kept new) n e =
    let v = values_of _ _ e in
    let a : n ≡ length new = cc in
    (refl, rw a)

refused_told : (o : Outcome) (r : Refusal) → tell_keeping (keeping.Refused r) ≡ tell_keeping (keep_told o) → (refusal_number r ≡ keep_number o) × (refusal_report r ≡ keep_report o)
unfolding keep_told keep_number keep_report
refused_told (refused q) r e = same_refusal r q e
refused_told (kept new) r e = let v = values_of _ _ e in impossible (cc)

module _ (o : Outcome) (new new' report report' : List ℕ) where
  pub book_kept : (n : ℕ) → GivesBook o (keeping.Book n) new new' → report' ≡ placed (three_numbers 0 0 n) report → HubGivesBook o 0 new new' report report'
  book_kept n e p = let t = kept_told o n e.0 in (t.0, e.1, p ∙ ap (λ (w : List ℕ). placed w report) t.1)

  pub book_refused : (r : Refusal) → GivesBook o (keeping.Refused r) new new' → report' ≡ placed (refusal_report r) report → HubGivesBook o (refusal_number r) new new' report report'
  book_refused r e p = let t = refused_told o r e.0 in (t.0, e.1, p ∙ ap (λ (w : List ℕ). placed w report) t.1)

pub hub_keeps_one : (b w : List ℕ) (r t : ℕ) (new new' new'' report report' report'' : List ℕ) → HubKeeps b w r new new' report report' → HubKeeps b w t new new'' report report''
    → (r ≡ t) × (new' ≡ new'') × (report' ≡ report'')
hub_keeps_one b w r t new new' new'' report report' report'' a c = (a.0 ∙ sym c.0, a.1 ∙ sym c.1, a.2 ∙ sym c.2)
