-- An output of exactly the length that was told gets the same page: where a page of more is always longer, a page that is sent is the
-- greatest for an output of its own length too. So the call that writes an answer writes the same one into that many bytes.
-- Assumes nothing.
use mathlib.Core.Path.{◌≡◌, refl, sym, ap, ◌∙◌}
use mathlib.Core.Bool.{Bool, true, false}
use mathlib.Core.List.{List}
use Prim.Native.Nat.{ℕ, suc, ◌≤◌, ◌<◌}
use native.Mathlib.Omega.{arith}
use lib.ListN.{length}
use lib.Dec.{leb}
use borrow.Author.Tests.{le-leb, lt-leb, eq-eqb}
use Rattle.std.specs.Prelude.{Ok, Err}
use Rattle.laws.proofs.Cases.{by_bool, by_lt, by_eq, impossible}
use Rattle.talk.specs.declared.range.Range.{Range}
use Rattle.store.specs.declared.element.Element.{Element}
use Rattle.pages.specs.Decision.{Measure, is_sendable, sent, decision}
use Rattle.pages.specs.Answer.{Ask, answered, page_bytes, page_measure, on_decided, page_decided, page_outcome, outcome}
use Rattle.pages.specs.Cases.{Asks}
use Rattle.pages.specs.Results.Decided.{Decided}
use Rattle.pages.specs.Results.Decided as decided
use Rattle.pages.proofs.Stops.{sendable_both, some_taken, Sends, sent_law}
use Rattle.pages.proofs.Refusing.{asked_outcome, answered_asks}
use Rattle.pages.proofs.Growing.{pages_grow}

-- ---- a page in another output

-- one that is sendable is so wherever it fits
sendable_in : (most limit room room' j stored ranges whole : ℕ) → is_sendable most limit room j stored ranges whole ≡ true → whole ≤ room'
    → is_sendable most limit room' j stored ranges whole ≡ true
unfolding is_sendable
sendable_in most limit room room' j stored ranges whole h fits =
    let f = sendable_both most limit room j stored ranges whole h in
    rw (f.0, le-leb whole room' fits) (rw (f.0, f.1) at h)

-- and none is where it does not fit
too_long : (most limit room j stored ranges whole : ℕ) → room < whole → is_sendable most limit room j stored ranges whole ≡ false
unfolding is_sendable
too_long most limit room j stored ranges whole h = by_bool (leb ranges most) (λ e. rw (e, lt-leb whole room h)) (λ e. rw e)

-- ---- the decision, where lengths grow up to n

abbrev pub Grows : Measure → ℕ → Type 0
Grows m n = (j k : ℕ) → j < k → k ≤ n → m.whole j < m.whole k

module _ (most limit room : ℕ) (m : Measure) (n : ℕ) (grows : Grows m n) (k whole ranges : ℕ) (more : Bool) (x : Sends most limit room m n k whole ranges more) where
  no_longer : (j : ℕ) → j ≤ k → m.whole j ≤ m.whole k
  no_longer j h = by_lt j k (λ l. omega (arith, grows j k l x.greatest.most)) (λ l. let e : j ≡ k = omega arith in rw e (omega arith))

  -- nothing is wanted
  exact_none : n ≡ 0 → sent m n k ≡ decision most limit (m.whole k) m n
  unfolding decision
  exact_none e =
      let z : k ≡ 0 = omega (arith, x.greatest.most) in
      let f : m.whole 0 ≤ m.whole 0 = omega arith in
      rw (z, eq-eqb n 0 e, le-leb (m.whole 0) (m.whole 0) f)

  exact_some : 0 < n → sent m n k ≡ decision most limit (m.whole k) m n
  exact_some p =
      some_taken most limit (m.whole k) m n k (x.some p) x.greatest.most
      (λ j l h. sendable_in most limit room (m.whole k) j (m.stored j) (m.ranges j) (m.whole j) (x.greatest.every j l h) (no_longer j h))
      (λ l. too_long most limit (m.whole k) (suc k) (m.stored (suc k)) (m.ranges (suc k)) (m.whole (suc k)) (grows k (suc k) (omega arith) l))

  sent_again : decision most limit whole m n ≡ decided.Sent k whole ranges more
  sent_again =
      let e : sent m n k ≡ decision most limit (m.whole k) m n = by_eq n 0 exact_none (λ z. exact_some (omega arith)) in
      rw (x.whole_is, x.ranges_are, x.more_is) (sym e)

pub exact_decision : (most limit room : ℕ) (m : Measure) (n : ℕ) → Grows m n → (k whole ranges : ℕ) (more : Bool)
    → decision most limit room m n ≡ decided.Sent k whole ranges more → decision most limit whole m n ≡ decided.Sent k whole ranges more
exact_decision most limit room m n grows k whole ranges more h = sent_again most limit room m n grows k whole ranges more (sent_law most limit room m n k whole ranges more h)

-- ---- the call

asked_grows : (s q : List ℕ) (a : Ask) → Asks s q a → Grows (page_measure a) (length a.wanted)
unfolding page_measure
asked_grows s q a x = pages_grow s q a x

exact_on : (a : Ask) (room : ℕ) → Grows (page_measure a) (length a.wanted) → (d : Decided) → page_decided a room ≡ d → (w : List ℕ) (all : List Element) (l : List Range)
    → on_decided a d ≡ answered w all l → page_decided a (length w) ≡ d
unfolding on_decided page_decided page_measure
exact_on a room grows (Ok x) e w all l h =
    let n = length a.wanted in
    let s = sent_law a.most a.limit room (page_measure a) n x.count x.length x.ranges x.more e in
    let b : w ≡ page_bytes a x.count = cc (h) in
    let f : length w ≡ x.length = ap length b ∙ sym s.whole_is in
    rw f (exact_decision a.most a.limit room (page_measure a) n grows x.count x.length x.ranges x.more e)
exact_on a room grows (Err x) e w all l h = impossible (cc (h))

page_exact : (a : Ask) (room : ℕ) → Grows (page_measure a) (length a.wanted) → (w : List ℕ) (all : List Element) (l : List Range)
    → page_outcome a room ≡ answered w all l → page_outcome a (length w) ≡ answered w all l
unfolding page_outcome
page_exact a room grows w all l h = ap (on_decided a) (exact_on a room grows (page_decided a room) refl w all l h) ∙ h

pub exact_outcome : (s q : List ℕ) (room : ℕ) (w : List ℕ) (all : List Element) (l : List Range) → outcome s q room ≡ answered w all l
    → outcome s q (length w) ≡ answered w all l
exact_outcome s q room w all l h =
    let (a, x) = answered_asks s q room w all l h in
    asked_outcome s q a (length w) x ∙ page_exact a room (asked_grows s q a x) w all l (sym (asked_outcome s q a room x) ∙ h)
