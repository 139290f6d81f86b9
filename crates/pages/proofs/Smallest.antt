-- The needed length that 14 tells is that of the smallest page, and an output of exactly so many bytes gets that page: who lends what a
-- refusal asked for is not refused again, and gets the page of one (of none, if nothing is wanted).
-- Assumes nothing.
use mathlib.Core.Path.{◌≡◌, sym, ap, ◌∙◌}
use mathlib.Core.Bool.{true}
use mathlib.Core.List.{List}
use Prim.Native.Nat.{ℕ, ◌≤◌, ◌<◌}
use native.Mathlib.Omega.{arith}
use lib.ListN.{length}
use borrow.Author.Tests.{le-leb}
use Rattle.laws.proofs.Cases.{by_lt, impossible}
use Rattle.talk.specs.declared.range.Range.{Range}
use Rattle.pages.specs.Decision.{is_sendable, sendable}
use Rattle.pages.specs.Answer.{Ask, answered, page_bytes, page_ranges, page_measure, outcome}
use Rattle.pages.specs.Cases.{Asks, Few, smallest, Sends}
use Rattle.pages.proofs.Growing.{pages_grow}
use Rattle.pages.proofs.PageCases.{page_answered}
use Rattle.pages.proofs.Refusing.{asked_outcome, page_sends}
use Rattle.pages.proofs.Stops.{sendable_room}

module _ (s q : List ℕ) (a : Ask) (asks : Asks s q a) (few : Few a) where
  abbrev needed : ℕ
  needed = length (page_bytes a (smallest a))

  -- where something is wanted, the page of 1 may be sent
  first_sendable : 0 < length a.wanted → sendable a.most a.limit needed (page_measure a) 1 ≡ true
  unfolding is_sendable page_measure
  first_sendable p =
      let z : smallest a ≡ 1 = omega arith in
      let fits : length (page_bytes a 1) ≤ needed = rw z (omega arith) in
      rw (le-leb (length (page_ranges a 1)) a.most (few p), le-leb (length (page_bytes a 1)) needed fits)

  -- and a page of more is too long
  fits_one : (k : ℕ) → k ≤ length a.wanted → 0 < k → sendable a.most a.limit needed (page_measure a) k ≡ true → k ≤ 1
  unfolding page_measure
  fits_one k most p may =
      let whole = sendable_room a.most a.limit needed k _ _ _ may in
      let z : smallest a ≡ 1 = omega arith in
      by_lt 1 k (λ l. let longer = rw (← z) at (pages_grow s q a asks 1 k l most) in absurd (omega arith)) (λ l. l)

  smallest_sent : (w : List ℕ) (l : List Range) (x : Sends a needed w a.elements l) → x.count ≡ smallest a
  smallest_sent w l x =
      by_lt 0 (length a.wanted)
      (λ p.
      let z : smallest a ≡ 1 = omega arith in
      let g = x.greatest in
      by_lt 0 x.count
      (λ c. let one = fits_one x.count g.most c (g.every x.count c (omega arith)) in omega arith)
      (λ c.
      let none : x.count ≡ 0 = omega arith in
      let stop = rw none at (g.stop (omega arith)) in
      let both = sym (first_sendable p) ∙ stop in
      impossible (cc)))
      (λ p. let most = x.greatest.most in omega arith)

  pub needed_suffices : outcome s q needed ≡ answered (page_bytes a (smallest a)) a.elements (page_ranges a (smallest a))
  needed_suffices =
      let z = page_answered a needed few (omega arith) in
      let x = page_sends a needed (page_bytes a z.0) a.elements (page_ranges a z.0) z.1 in
      let e = smallest_sent (page_bytes a z.0) (page_ranges a z.0) x in
      let bytes = x.bytes_are ∙ ap (page_bytes a) e in
      let ranges = x.ranges_are ∙ ap (page_ranges a) e in
      asked_outcome s q a needed asks ∙ z.1 ∙ rw (bytes, ranges)
