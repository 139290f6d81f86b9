-- Each answering call determines its answer and all that it is lent: any two that its promise allows are equal. What is decided is
-- known by what tells it, too.
-- Assumes nothing.
use mathlib.Core.Path.{◌≡◌, refl, sym, ap, ◌∙◌}
use mathlib.Core.Bool.{Bool, true, false}
use mathlib.Core.List.{List}
use Prim.Native.Nat.{ℕ}
use native.Mathlib.Omega.{arith}
use lib.ListN.{get_or}
use Rattle.std.specs.Prelude.{Ok, Err}
use Rattle.laws.specs.Pick.{pick}
use Rattle.laws.proofs.Cases.{impossible}
use Rattle.laws.proofs.OneAnswer.{Telling, one_answer}
use Rattle.numbers.proofs.OneAnswers.{refuses_telling, values_of}
use Rattle.numbers.specs.Refusals.{Told}
use Rattle.pages.specs.Decision.{tell_decided}
use Rattle.pages.specs.Answer.{Outcome, tell_answered, Tells, TellsLength, WritesAnswer}
use Rattle.pages.specs.Results.Decided as decided
use Rattle.pages.specs.Results.Answered.{Answered}
use Rattle.pages.specs.Results.Answered as answer

pub answer_telling_lem : Telling tell_answered
answer_telling_lem (Ok x) (Ok y) q = let v = values_of _ _ q in grind arith
answer_telling_lem (Ok x) (answer.Refused r) q = let v = values_of _ _ q in impossible (cc)
answer_telling_lem (answer.Refused r) (Ok x) q = let v = values_of _ _ q in impossible (cc)
answer_telling_lem (answer.Refused r) (answer.Refused t) q = ap answer.Refused (refuses_telling r t q)

pub mark_telling : (a b : Bool) → ◌≡◌ {A = ℕ} (pick a 1 0) (pick b 1 0) → a ≡ b
mark_telling true true e = refl
mark_telling true false e = absurd (omega arith)
mark_telling false true e = absurd (omega arith)
mark_telling false false e = refl

sent_telling : (k whole ranges k' whole' ranges' : ℕ) (m m' : Bool) → tell_decided (decided.Sent k whole ranges m) ≡ tell_decided (decided.Sent k' whole' ranges' m')
    → decided.Sent k whole ranges m ≡ decided.Sent k' whole' ranges' m'
sent_telling k whole ranges k' whole' ranges' m m' q =
    let v = values_of _ _ q in
    let e : m ≡ m' = mark_telling m m' (ap (λ (l : List ℕ). get_or l 3 0) v) in
    let a : k ≡ k' = ap (λ (l : List ℕ). get_or l 0 0) v in
    let b : whole ≡ whole' = ap (λ (l : List ℕ). get_or l 1 0) v in
    let c : ranges ≡ ranges' = ap (λ (l : List ℕ). get_or l 2 0) v in
    rw (a, b, c, e)

pub decided_telling : Telling tell_decided
decided_telling (Ok x) (Ok y) q = sent_telling x.count x.length x.ranges y.count y.length y.ranges x.more y.more q
decided_telling (Ok x) (Err d) q = let v = values_of _ _ q in impossible (cc)
decided_telling (Err e) (Ok x) q = let v = values_of _ _ q in impossible (cc)
decided_telling decided.Crowded decided.Crowded q = refl
decided_telling decided.Crowded (decided.Short n) q = let z : ◌≡◌ {A = ℕ} 9 14 = ap (λ (t : Told). t.number) q in absurd (omega arith)
decided_telling (decided.Short n) decided.Crowded q = let z : ◌≡◌ {A = ℕ} 14 9 = ap (λ (t : Told). t.number) q in absurd (omega arith)
decided_telling (decided.Short n) (decided.Short m) q = ap decided.Short (ap (λ (t : Told). t.needed) q)

-- what is told and both tables; and the output

pub tells_one : (o : Outcome) (r t : Answered) (rows rows' rows'' ranges ranges' ranges'' : List ℕ) → Tells o r rows rows' ranges ranges' → Tells o t rows rows'' ranges ranges''
    → (r ≡ t) × (rows' ≡ rows'') × (ranges' ≡ ranges'')
tells_one o r t rows rows' rows'' ranges ranges' ranges'' a b = (one_answer answer_telling_lem a.0 b.0, a.1 ∙ sym b.1, a.2 ∙ sym b.2)

pub length_one : (s q : List ℕ) (offered : ℕ) (r t : Answered) (rows rows' rows'' ranges ranges' ranges'' : List ℕ)
    → TellsLength s q offered r rows rows' ranges ranges' → TellsLength s q offered t rows rows'' ranges ranges''
    → (r ≡ t) × (rows' ≡ rows'') × (ranges' ≡ ranges'')
length_one s q offered r t rows rows' rows'' ranges ranges' ranges'' a b = tells_one _ r t rows rows' rows'' ranges ranges' ranges'' a b

pub writes_one : (s q : List ℕ) (r t : Answered) (rows rows' rows'' ranges ranges' ranges'' out out' out'' : List ℕ)
    → WritesAnswer s q r rows rows' ranges ranges' out out' → WritesAnswer s q t rows rows'' ranges ranges'' out out''
    → (r ≡ t) × (rows' ≡ rows'') × (ranges' ≡ ranges'') × (out' ≡ out'')
writes_one s q r t rows rows' rows'' ranges ranges' ranges'' out out' out'' a b =
    let x = tells_one _ r t rows rows' rows'' ranges ranges' ranges'' (a.0, a.1, a.2) (b.0, b.1, b.2) in
    (x.0, x.1, x.2, a.3 ∙ sym b.3)
