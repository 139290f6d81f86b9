-- When a page is refused, and with what: 9 and 14 of document 01's table, each exactly when it says.
-- Assumes nothing.
use mathlib.Core.Path.{◌≡◌, refl, subst}
use mathlib.Core.Logic.{◌⊎◌, inl, inr}
use Prim.Native.Nat.{ℕ, ◌≤◌, ◌<◌, min}
use native.Mathlib.Omega.{arith}
use lib.ListN.{length}
use borrow.Author.Tests.{le-leb, lt-leb, eq-eqb, ne_eqb}
use Rattle.laws.proofs.Cases.{by_lt, by_eq}
use Rattle.numbers.specs.Refusals.{fault_at, too_short}
use Rattle.talk.specs.Page.{page_count}
use Rattle.pages.specs.Decision.{Measure, sendable, sent, decision}
use Rattle.pages.specs.Answer.{Ask, refused, answered, number_in, page_ranges, page_bytes, page_measure, on_decided, page_decided, page_outcome}
use Rattle.pages.specs.Cases.{smallest, Few}
use Rattle.pages.specs.Results.Decided.{Decided, Crowded, Short}

-- ---- the decision, case by case

module _ (most limit room : ℕ) (m : Measure) (n : ℕ) where
  -- "the page of 1 (of 0, if nothing is wanted)"
  abbrev first : ℕ
  first = min 1 n

  data Case : Decided → Type 0 where
    nothing : n ≡ 0 → m.whole first ≤ room → Case (sent m n 0)
    crowded : 0 < n → most < m.ranges 1 → Case Crowded
    short : (0 < n → m.ranges 1 ≤ most) → room < m.whole first → Case (Short (m.whole first))
    some : 0 < n → m.ranges 1 ≤ most → m.whole first ≤ room → Case (sent m n (page_count (sendable most limit room m) n))

  when_none : n ≡ 0 → Case (decision most limit room m n)
  unfolding decision
  when_none e =
      let f : first ≡ 0 = omega arith in
      by_lt room (m.whole 0)
      (λ h. rw (eq-eqb n 0 e, lt-leb _ _ h) (subst (λ (k : ℕ). Case (Short (m.whole k))) f (short (λ p. absurd (omega arith)) (rw f h))))
      (λ h. rw (eq-eqb n 0 e, le-leb _ _ h) (nothing e (rw f h)))

  when_some : 0 < n → Case (decision most limit room m n)
  unfolding decision
  when_some p =
      let z : n ≡ 0 → ⊥ = λ e. omega arith in
      let f : first ≡ 1 = omega arith in
      by_lt most (m.ranges 1) (λ c. rw (ne_eqb n 0 z, lt-leb _ _ c) (crowded p c))
      (λ c.
      by_lt room (m.whole 1)
      (λ h. rw (ne_eqb n 0 z, le-leb _ _ c, lt-leb _ _ h) (subst (λ (k : ℕ). Case (Short (m.whole k))) f (short (λ q. c) (rw f h))))
      (λ h. rw (ne_eqb n 0 z, le-leb _ _ c, le-leb _ _ h) (some p c (rw f h))))

  case_of : Case (decision most limit room m n)
  case_of = by_eq n 0 when_none (λ z. when_some (omega arith))

-- ---- the page for what was asked

module _ (a : Ask) (room : ℕ) where
  abbrev PageCase : Decided → Type 0
  PageCase d = Case a.most a.limit room (page_measure a) (length a.wanted) d

  page_case : PageCase (page_decided a room)
  unfolding page_decided
  page_case = case_of a.most a.limit room (page_measure a) (length a.wanted)

  -- what is told of a case
  nine_on : (d : Decided) → PageCase d → number_in (on_decided a d) ≡ 9 → (0 < length a.wanted) × (a.most < length (page_ranges a 1))
  unfolding on_decided number_in page_measure
  nine_on _ (nothing e h) q = absurd (omega arith)
  nine_on _ (crowded p c) q = (p, c)
  nine_on _ (short f h) q = absurd (omega arith)
  nine_on _ (some p c h) q = absurd (omega arith)

  fourteen_on : (d : Decided) → PageCase d → number_in (on_decided a d) ≡ 14
      → (on_decided a d ≡ refused (too_short (length (page_bytes a (smallest a))))) × (room < length (page_bytes a (smallest a))) × Few a
  unfolding on_decided number_in page_measure
  fourteen_on _ (nothing e h) q = absurd (omega arith)
  fourteen_on _ (crowded p c) q = absurd (omega arith)
  fourteen_on _ (short f h) q = (refl, h, f)
  fourteen_on _ (some p c h) q = absurd (omega arith)

  answered_on : (d : Decided) → PageCase d → Few a → length (page_bytes a (smallest a)) ≤ room
      → (k : ℕ) × (on_decided a d ≡ answered (page_bytes a k) a.elements (page_ranges a k))
  unfolding on_decided page_measure
  answered_on _ (nothing e h) f g = (0, refl)
  answered_on _ (crowded p c) f g = let z = f p in absurd (omega arith)
  answered_on _ (short w h) f g = absurd (omega arith)
  answered_on _ (some p c h) f g = (page_count (sendable a.most a.limit room (page_measure a)) (length a.wanted), refl)

  numbers_on : (d : Decided) → PageCase d → (number_in (on_decided a d) ≡ 0) ⊎ ((number_in (on_decided a d) ≡ 9) ⊎ (number_in (on_decided a d) ≡ 14))
  unfolding on_decided number_in
  numbers_on _ (nothing e h) = inl refl
  numbers_on _ (crowded p c) = inr (inl refl)
  numbers_on _ (short w h) = inr (inr refl)
  numbers_on _ (some p c h) = inl refl

  -- 9, exactly when "a page of 1 needs over 512 ranges"
  pub nine_only_if : number_in (page_outcome a room) ≡ 9 → (0 < length a.wanted) × (a.most < length (page_ranges a 1))
  unfolding page_outcome
  nine_only_if q = nine_on (page_decided a room) page_case q

  pub nine_if : 0 < length a.wanted → a.most < length (page_ranges a 1) → page_outcome a room ≡ refused (fault_at 9 0)
  unfolding page_outcome page_decided decision on_decided page_measure
  nine_if p c = let z : length a.wanted ≡ 0 → ⊥ = λ e. omega arith in rw (ne_eqb _ 0 z, lt-leb _ _ c)

  -- 14, exactly when "the output is shorter than the page of 1 (of 0, if nothing is wanted)" and 9 does not come before it; the
  -- needed length is that of the page
  pub fourteen_only_if : number_in (page_outcome a room) ≡ 14
      → (page_outcome a room ≡ refused (too_short (length (page_bytes a (smallest a))))) × (room < length (page_bytes a (smallest a))) × Few a
  unfolding page_outcome
  fourteen_only_if q = fourteen_on (page_decided a room) page_case q

  pub fourteen_if : Few a → room < length (page_bytes a (smallest a)) → page_outcome a room ≡ refused (too_short (length (page_bytes a (smallest a))))
  unfolding page_outcome page_decided decision on_decided page_measure
  fourteen_if f h =
      by_eq (length a.wanted) 0
      (λ e. let z : smallest a ≡ 0 = omega arith in let g : room < length (page_bytes a 0) = rw (← z) h in rw (eq-eqb _ 0 e, lt-leb _ _ g, z))
      (λ n.
      let z : smallest a ≡ 1 = omega arith in
      let g : room < length (page_bytes a 1) = rw (← z) h in
      rw (ne_eqb _ 0 n, le-leb _ _ (f (omega arith)), lt-leb _ _ g, z))

  -- else a page is sent: nothing is refused without its ground
  pub page_answered : Few a → length (page_bytes a (smallest a)) ≤ room → (k : ℕ) × (page_outcome a room ≡ answered (page_bytes a k) a.elements (page_ranges a k))
  unfolding page_outcome
  page_answered f h = answered_on (page_decided a room) page_case f h

  pub page_numbers : (number_in (page_outcome a room) ≡ 0) ⊎ ((number_in (page_outcome a room) ≡ 9) ⊎ (number_in (page_outcome a room) ≡ 14))
  unfolding page_outcome
  page_numbers = numbers_on (page_decided a room) page_case
