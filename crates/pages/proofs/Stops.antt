-- The decision as the walk comes to it: where the next page is not sendable, and where nothing more is wanted. And what is known
-- of a page that is sent.
-- Assumes nothing.
use mathlib.Core.Path.{◌≡◌, refl, sym, ap, ◌∙◌}
use mathlib.Core.Bool.{Bool, true, false}
use Prim.Native.Nat.{ℕ, zero, suc, ◌≤◌, ◌<◌}
use native.Mathlib.Omega.{arith}
use lib.Dec.{leb, ltb, eqb}
use borrow.Author.Tests.{lt-ltb, le-ltb, ne_eqb, eqb-true, eqb-false, leb-true}
use Rattle.laws.specs.Pick.{pick}
use Rattle.laws.proofs.Cases.{by_bool, impossible}
use Rattle.talk.specs.Page.{Greatest, Every, page_count}
use Rattle.talk.proofs.PageRule.{page_greatest, greatest_one, greatest_some, every_none}
use Rattle.pages.specs.Results.Decided.{Decided, Sent, Crowded, Short}
use Rattle.pages.specs.Decision.{Measure, is_sendable, sendable, sent, decision}
use Rattle.pages.specs.Tables.{stopped, ended, taken_in}

-- ---- an sendable page carries at most so many ranges, and fits the output

both_hold : (a b c : Bool) → pick a (pick b c false) false ≡ true → (a ≡ true) × (b ≡ true)
both_hold true true c h = (refl, refl)
both_hold true false c h = impossible (cc)
both_hold false b c h = impossible (cc)

pub sendable_both : (most limit room j stored ranges whole : ℕ) → is_sendable most limit room j stored ranges whole ≡ true
    → (leb ranges most ≡ true) × (leb whole room ≡ true)
unfolding is_sendable
sendable_both most limit room j stored ranges whole h = both_hold (leb ranges most) (leb whole room) (pick (leb j 1) true (leb stored limit)) h

pub sendable_ranges : (most limit room j stored ranges whole : ℕ) → is_sendable most limit room j stored ranges whole ≡ true → ranges ≤ most
sendable_ranges most limit room j stored ranges whole h = leb-true ranges most (sendable_both most limit room j stored ranges whole h).0

pub sendable_room : (most limit room j stored ranges whole : ℕ) → is_sendable most limit room j stored ranges whole ≡ true → whole ≤ room
sendable_room most limit room j stored ranges whole h = leb-true whole room (sendable_both most limit room j stored ranges whole h).1

-- a page of 1 has no other test
first_sendable : (most limit room stored ranges whole : ℕ)
    → is_sendable most limit room 1 stored ranges whole ≡ pick (leb ranges most) (pick (leb whole room) true false) false
unfolding is_sendable
first_sendable most limit room stored ranges whole = refl

-- one that is not sendable is refused
first_refused : (a b : Bool) (needed : ℕ) (page : Decided) → pick a (pick b true false) false ≡ false
    → pick a (Short needed) Crowded ≡ pick a (pick b page (Short needed)) Crowded
first_refused true true needed page h = impossible (cc)
first_refused true false needed page h = refl
first_refused false b needed page h = refl

module _ (most limit room : ℕ) (m : Measure) (n : ℕ) where
  -- ---- the walk that has taken k

  count_is : (k : ℕ) → k ≤ n → Every (sendable most limit room m) k → (k < n → sendable most limit room m (suc k) ≡ false)
      → page_count (sendable most limit room m) n ≡ k
  count_is k h every stop =
      greatest_one (sendable most limit room m) n (page_count (sendable most limit room m) n) k (page_greatest (sendable most limit room m) n)
      (record { most = h; every = every; stop = stop })

  pub some_taken : (k : ℕ) → 0 < k → k ≤ n → Every (sendable most limit room m) k → (k < n → sendable most limit room m (suc k) ≡ false)
      → sent m n k ≡ decision most limit room m n
  unfolding decision
  some_taken k p h every stop =
      let f = sendable_both most limit room 1 (m.stored 1) (m.ranges 1) (m.whole 1) (every 1 (omega arith) p) in
      let z : n ≡ 0 → ⊥ = λ e. omega arith in
      rw (ne_eqb n 0 z, f.0, f.1, count_is k h every stop)

  pub stop_law : (k : ℕ) → k < n → Every (sendable most limit room m) k → sendable most limit room m (suc k) ≡ false
      → stopped most k (m.whole k) (m.ranges k) (m.ranges (suc k)) (m.whole (suc k)) ≡ decision most limit room m n
  unfolding stopped decision
  stop_law zero h every e =
      let z : n ≡ 0 → ⊥ = λ q. omega arith in
      rw (ne_eqb n 0 z)
      (first_refused (leb (m.ranges 1) most) (leb (m.whole 1) room) (m.whole 1) _ (sym (first_sendable most limit room (m.stored 1) (m.ranges 1) (m.whole 1)) ∙ e))
  stop_law (suc k) h every e =
      let z : suc k ≡ 0 → ⊥ = λ q. omega arith in
      rw (ne_eqb (suc k) 0 z)
      (ap (λ (more : Bool). Sent (suc k) (m.whole (suc k)) (m.ranges (suc k)) more) (sym (lt-ltb (suc k) n h))
      ∙ some_taken (suc k) (omega arith) (omega arith) every (λ l. e))

  pub end_law : (k : ℕ) → k ≡ n → Every (sendable most limit room m) k → ended room k (m.whole k) (m.ranges k) ≡ decision most limit room m n
  unfolding ended decision
  end_law zero e every = rw (← e)
  end_law (suc k) e every =
      let z : suc k ≡ 0 → ⊥ = λ q. omega arith in
      rw (ne_eqb (suc k) 0 z)
      (ap (λ (more : Bool). Sent (suc k) (m.whole (suc k)) (m.ranges (suc k)) more) (sym (le-ltb (suc k) n (omega arith)))
      ∙ some_taken (suc k) (omega arith) (omega arith) every (λ l. absurd (omega arith)))

  -- ---- a page that is sent

  pub record Sends (k whole ranges : ℕ) (more : Bool) : Type 0 where
    pub greatest : Greatest (sendable most limit room m) n k
    pub some : 0 < n → 0 < k
    pub whole_is : whole ≡ m.whole k
    pub ranges_are : ranges ≡ m.ranges k
    pub more_is : more ≡ ltb k n
    pub fits : m.whole k ≤ room
    pub carries : (top : ℕ) → m.ranges 0 ≤ top → most ≤ top → m.ranges k ≤ top

  sends_none : (k whole ranges : ℕ) (more : Bool) → n ≡ 0 → m.whole 0 ≤ room → sent m n 0 ≡ Sent k whole ranges more → Sends k whole ranges more
  sends_none k whole ranges more z f q =
      let e : k ≡ 0 = grind arith in
      record {
        greatest = record { most = omega arith; every = rw e (every_none _); stop = λ l. absurd (omega arith) };
        some = λ l. absurd (omega arith);
        whole_is = grind arith;
        ranges_are = grind arith;
        more_is = grind arith;
        fits = rw e f;
        carries = rw e (λ top h l. h);
      }

  sends_some : (k whole ranges : ℕ) (more : Bool) → 0 < n → sendable most limit room m 1 ≡ true
      → sent m n (page_count (sendable most limit room m) n) ≡ Sent k whole ranges more → Sends k whole ranges more
  sends_some k whole ranges more l f q =
      let e : page_count (sendable most limit room m) n ≡ k = grind arith in
      let g : Greatest (sendable most limit room m) n k = rw e at (page_greatest (sendable most limit room m) n) in
      let some : 0 < k = greatest_some (sendable most limit room m) n k g f l in
      let last : sendable most limit room m k ≡ true = g.every k (omega arith) (omega arith) in
      record {
        greatest = g;
        some = λ h. some;
        whole_is = grind arith;
        ranges_are = grind arith;
        more_is = grind arith;
        fits = sendable_room most limit room k (m.stored k) (m.ranges k) (m.whole k) last;
        carries = λ top h u. omega (arith, sendable_ranges most limit room k (m.stored k) (m.ranges k) (m.whole k) last);
      }

  pub sent_law : (k whole ranges : ℕ) (more : Bool) → decision most limit room m n ≡ Sent k whole ranges more → Sends k whole ranges more
  unfolding decision
  sent_law k whole ranges more h =
      by_bool (eqb n 0)
      (λ z. by_bool (leb (m.whole 0) room)
      (λ f. sends_none k whole ranges more (eqb-true n 0 z) (leb-true (m.whole 0) room f) (rw (z, f) at h))
      (λ f. let q : Short (m.whole 0) ≡ Sent k whole ranges more = rw (z, f) at h in impossible (cc)))
      (λ z. by_bool (leb (m.ranges 1) most)
      (λ r. by_bool (leb (m.whole 1) room)
      (λ f. sends_some k whole ranges more (positive (eqb-false n 0 z)) (first_sendable most limit room (m.stored 1) (m.ranges 1) (m.whole 1) ∙ rw (r, f)) (rw (z, r, f) at h))
      (λ f. let q : Short (m.whole 1) ≡ Sent k whole ranges more = rw (z, r, f) at h in impossible (cc)))
      (λ r. let q : Crowded ≡ Sent k whole ranges more = rw (z, r) at h in impossible (cc)))
    where
      positive : (n ≡ 0 → ⊥) → 0 < n
      positive z = omega arith

-- ---- how many a walk has sent

pub taken_stopped : (most k whole ranges ranges' whole' : ℕ) → taken_in (stopped most k whole ranges ranges' whole') ≡ k
unfolding stopped
taken_stopped most zero whole ranges ranges' whole' = none (leb ranges' most)
  where
    none : (t : Bool) → taken_in (pick t (Short whole') Crowded) ≡ 0
    none true = refl
    none false = refl
taken_stopped most (suc k) whole ranges ranges' whole' =
    let z : suc k ≡ 0 → ⊥ = λ e. omega arith in
    rw (ne_eqb (suc k) 0 z)

pub taken_ended : (room k whole ranges : ℕ) → taken_in (ended room k whole ranges) ≡ k
unfolding ended
taken_ended room zero whole ranges = none (leb whole room)
  where
    none : (t : Bool) → taken_in (pick t (Sent 0 whole ranges false) (Short whole)) ≡ 0
    none true = refl
    none false = refl
taken_ended room (suc k) whole ranges =
    let z : suc k ≡ 0 → ⊥ = λ e. omega arith in
    rw (ne_eqb (suc k) 0 z)
