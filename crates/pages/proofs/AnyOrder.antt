-- The ranges with the serial numbers of some elements, and the sum of their stored lengths, are the same in whatever order they come. And
-- where all of them cannot fail to be carried, the page is all of them, in whatever order; and so it is where they were tried in one order and
-- none of them remained.
-- Assumes nothing.
use mathlib.Core.Path.{◌≡◌, refl, sym, ap, ◌∙◌}
use mathlib.Core.Bool.{Bool, true, false}
use mathlib.Core.List.{List, [], ◌∷◌}
use Prim.Native.Nat.{ℕ, zero, suc, ◌+◌, ◌*◌, ◌≤◌, ◌<◌}
use native.Mathlib.Omega.{arith}
use lib.ListN.{length, take, drop, length-take, length-drop}
use lib.Seq.{take-length}
use lib.Dec.{eqb, leb}
use borrow.Author.Tests.{leb-true, le-leb, lt-leb, eq-eqb, ne_eqb, eqb-true, le-ltb, ltb-false}
use Rattle.std.specs.Prelude.{Ok, Err}
use Rattle.laws.specs.Pick.{pick}
use Rattle.laws.proofs.Cases.{by_bool, by_eq, by_lt, impossible}
use Rattle.talk.specs.Page.{Every}
use Rattle.talk.specs.Ranges.{insert, within, holds, Normal}
use Rattle.talk.specs.declared.range.Range.{Range}
use Rattle.talk.proofs.Insertion.{length_insert, normal_insert}
use Rattle.talk.proofs.Membership.{holds_insert}
use Rattle.talk.proofs.OneForm.{one_form}
use Rattle.store.specs.KnowledgeWritten.{ranges_bytes}
use Rattle.store.specs.Held.{serial_range, key_range, ranges_with}
use Rattle.ranges.specs.Ranged.{range_of}
use Rattle.store.specs.declared.element.Element.{Element}
use Rattle.talk.specs.Each.{Each}
use Rattle.talk.proofs.Things.{each_next}
use Rattle.store.proofs.RangesSaved.{ranges_saved, ranges_some}
use Rattle.store.proofs.StoreHeld.{normal_with}
use Rattle.order.specs.Rearranged.{Inserted, here, there, Rearranged, nothing, one_more}
use Rattle.order.specs.Groups.{stored_length}
use Rattle.pages.specs.Decision.{is_sendable, sendable, sent, decision}
use Rattle.ranges.specs.RangeTable.{ranges_at}
use Rattle.order.proofs.Rearranged.{rearranged_length}
use Rattle.pages.specs.Tables.{laid_all, table_measure, whole_of, Decides, DecidesPage, is_whole, takes_all, tries_all}
use Rattle.pages.specs.declared.page.Bounds.{Bounds}
use Rattle.pages.specs.Results.Decided.{Decided, Sent}
use Rattle.pages.proofs.Lengths.{whole_some}
use Rattle.pages.proofs.Pricing.{bytes_most, rows_laid}
use Rattle.pages.proofs.Stops.{some_taken, sent_law}
use Rattle.pages.proofs.UnderWay.{stored_next, ranges_next}

-- ---- ranges

serial_some : (x : Element) → (serial_range x).from ≤ (serial_range x).to
unfolding serial_range key_range range_of
serial_some x = omega arith

-- two serial numbers, one after the other or the other way round
turned : (x y : Element) (l : List Range) → Normal l → insert (serial_range x) (insert (serial_range y) l) ≡ insert (serial_range y) (insert (serial_range x) l)
turned x y l n =
    let p = normal_insert (serial_range y) l (serial_some y) n in
    let q = normal_insert (serial_range x) l (serial_some x) n in
    one_form _ _ (normal_insert (serial_range x) _ (serial_some x) p) (normal_insert (serial_range y) _ (serial_some y) q)
    (λ a b m.
    holds_insert (serial_range x) (insert (serial_range y) l) a b m p
    ∙ ap (pick (within (serial_range x) a b m) true) (holds_insert (serial_range y) l a b m n)
    ∙ either (within (serial_range x) a b m) (within (serial_range y) a b m) (holds l a b m)
    ∙ sym (ap (pick (within (serial_range y) a b m) true) (holds_insert (serial_range x) l a b m n))
    ∙ sym (holds_insert (serial_range y) (insert (serial_range x) l) a b m q))
  where
    either : (a b c : Bool) → pick a true (pick b true c) ≡ pick b true (pick a true c)
    either true true c = refl
    either true false c = refl
    either false true c = refl
    either false false c = refl

with_inserted : {x : Element} {xs ys : List Element} → Inserted x xs ys → (l : List Range) → Normal l → ranges_with l ys ≡ ranges_with (insert (serial_range x) l) xs
unfolding ranges_with
with_inserted (here xs) l n = refl
with_inserted {x} {xs = z ∷ xs} (there y i) l n =
    with_inserted i (insert (serial_range y) l) (normal_insert (serial_range y) l (serial_some y) n) ∙ ap (λ (m : List Range). ranges_with m xs) (turned x y l n)

pub with_rearranged : {xs ys : List Element} → Rearranged xs ys → (l : List Range) → Normal l → ranges_with l ys ≡ ranges_with l xs
unfolding ranges_with
with_rearranged nothing l n = refl
with_rearranged {xs = x ∷ xs} (one_more r i) l n =
    with_inserted i l n ∙ with_rearranged r (insert (serial_range x) l) (normal_insert (serial_range x) l (serial_some x) n)

-- ---- lengths

stored_inserted : {x : Element} {l m : List Element} → Inserted x l m → stored_length m ≡ x.length + stored_length l
unfolding stored_length
stored_inserted (here l) = refl
stored_inserted (there y i) = let r = stored_inserted i in omega arith

pub stored_rearranged : {xs ys : List Element} → Rearranged xs ys → stored_length ys ≡ stored_length xs
unfolding stored_length
stored_rearranged nothing = refl
stored_rearranged (one_more r i) = let a = stored_inserted i in let b = stored_rearranged r in omega arith

-- the first ones are not longer than all
pub stored_first : (n : ℕ) (xs : List Element) → stored_length (take n xs) ≤ stored_length xs
unfolding stored_length
stored_first zero xs = omega arith
stored_first (suc n) [] = omega arith
stored_first (suc n) (x ∷ xs) = let r = stored_first n xs in omega arith

-- each element brings one range at most
with_most : (xs : List Element) (l : List Range) → length (ranges_with l xs) ≤ length l + length xs
unfolding ranges_with
with_most [] l = omega arith
with_most (x ∷ xs) l = omega (arith, with_most xs (insert (serial_range x) l), length_insert (serial_range x) l)

-- ---- everything at once

-- a whole is no longer than one with a cell knowledge
whole_most : (fixed stored ranges spelled : ℕ) → whole_of fixed stored ranges spelled ≤ fixed + 25 + stored + spelled
unfolding whole_of
whole_most fixed stored ranges spelled = by_eq ranges 0 (λ e. rw (eq-eqb ranges 0 e) (omega arith)) (λ z. rw (ne_eqb ranges 0 z) (omega arith))

-- what the test says
four_hold : (a b c d : Bool) → pick a false (pick b (pick c d false) false) ≡ true → (a ≡ false) × (b ≡ true) × (c ≡ true) × (d ≡ true)
four_hold true b c d h = impossible (cc)
four_hold false true true d h = (refl, refl, refl, h)
four_hold false true false d h = impossible (cc)
four_hold false false c d h = impossible (cc)

all_taken : (b : Bounds) (count wanted stored : ℕ) → takes_all b count wanted stored ≡ true
    → (0 < wanted) × (count + wanted ≤ b.most) × (stored ≤ b.limit) × (b.fixed + 25 + stored + 36 * (count + wanted) ≤ b.room)
unfolding takes_all
all_taken b count wanted stored h =
    let f = four_hold (eqb wanted 0) (leb (count + wanted) b.most) (leb stored b.limit) (leb (b.fixed + 25 + stored + 36 * (count + wanted)) b.room) h in (
      by_eq wanted 0 (λ e. let z : true ≡ false = sym (eq-eqb wanted 0 e) ∙ f.0 in impossible (cc)) (λ e. omega arith),
      leb-true _ _ f.1,
      leb-true _ _ f.2,
      leb-true _ _ f.3,
    )

takes_every : (b : Bounds) (l : List Range) (w : List Element) → takes_all b (length l) (length w) (stored_length w) ≡ true
    → Every (sendable b.most b.limit b.room (table_measure b.fixed l w)) (length w)
unfolding is_sendable
takes_every b l w h j least most =
    let f = all_taken b (length l) (length w) (stored_length w) h in
    let p = take j w in
    let n : length p ≤ length w = omega (arith, length-take j w) in
    let r : length (ranges_with l p) ≤ length l + length p = with_most p l in
    let s : stored_length p ≤ stored_length w = stored_first j w in
    let k : length (ranges_bytes (ranges_with l p)) ≤ 36 * length (ranges_with l p) = bytes_most (ranges_with l p) in
    let v = whole_most b.fixed (stored_length p) (length (ranges_with l p)) (length (ranges_bytes (ranges_with l p))) in
    let f1 = f.1 in
    let f2 = f.2 in
    let f3 = f.3 in
    let x : length (ranges_with l p) ≤ b.most = omega arith in
    let y : whole_of b.fixed (stored_length p) (length (ranges_with l p)) (length (ranges_bytes (ranges_with l p))) ≤ b.room = omega arith in
    let z : stored_length p ≤ b.limit = omega arith in
    rw (le-leb _ _ x, le-leb _ _ y, le-leb _ _ z) (by_bool (leb j 1) (λ e. rw e) (λ e. rw e))

pub all_sent_lem : (b : Bounds) (l : List Range) (w : List Element) → takes_all b (length l) (length w) (stored_length w) ≡ true
    → Sent (length w) (whole_of b.fixed (stored_length w) (length (ranges_with l w)) (length (ranges_bytes (ranges_with l w)))) (length (ranges_with l w)) false
    ≡ decision b.most b.limit b.room (table_measure b.fixed l w) (length w)
all_sent_lem b l w h =
    let f = all_taken b (length l) (length w) (stored_length w) h in
    let m = table_measure b.fixed l w in
    let x : sent m (length w) (length w) ≡ decision b.most b.limit b.room m (length w) =
    some_taken b.most b.limit b.room m (length w) (length w) f.0 (omega arith) (takes_every b l w h) (λ k. absurd (omega arith)) in
    rw (take-length w, le-ltb (length w) (length w) (omega arith)) at x

-- ---- what is decided so, and what the table of ranges then holds

-- by taking one element after the other
pub one_by_one : (b : Bounds) (l : List Range) (w : List Element) (r : Decided) (t t' : List ℕ) → ranges_at t 0 (length l) ≡ l → Decides w l b r t t' → DecidesPage w l b r t'
one_by_one b l w (Ok x) t t' h d =
    let s = sent_law b.most b.limit b.room (table_measure b.fixed l w) (length w) x.count x.length x.ranges x.more (sym d.0) in
    (d.0, rw (d.1, s.ranges_are) (rows_laid (take x.count w) l t h))
one_by_one b l w (Err e) t t' h d = (d.0, tt)

-- the page of all
abbrev all_of : Bounds → List Range → List Element → Decided
all_of b l x = Sent (length x) (whole_of b.fixed (stored_length x) (length (ranges_with l x)) (length (ranges_bytes (ranges_with l x)))) (length (ranges_with l x)) false

same_all : (b : Bounds) (l : List Range) → Normal l → {c w : List Element} → Rearranged c w → all_of b l c ≡ all_of b l w
same_all b l n e = rw (rearranged_length e, stored_rearranged e, with_rearranged e l n)

-- by taking all of them, in another order
module _ (b : Bounds) (l : List Range) (n : Normal l) (c w : List Element) (e : Rearranged c w) (a : takes_all b (length l) (length c) (stored_length c) ≡ true) where
  takes_other : takes_all b (length l) (length w) (stored_length w) ≡ true
  takes_other = rw (rearranged_length e, stored_rearranged e) a

  pub all_at_once : (r : Decided) (t t' : List ℕ) → ranges_at t 0 (length l) ≡ l → Decides c l b r t t' → DecidesPage w l b r t'
  all_at_once r t t' h d =
      let is : r ≡ all_of b l c = d.0 ∙ sym (all_sent_lem b l c a) in
      let whole : take (length c) c ≡ c = take-length c in
      let other : take (length c) w ≡ w = rw (← rearranged_length e) (take-length w) in
      let t-is : t' ≡ laid_all c l t = rw (is, whole) at d.1 in (
        is ∙ same_all b l n e ∙ all_sent_lem b l w takes_other,
        rw is (rw (other, t-is, with_rearranged e l n) (rows_laid c l t h)),
      )

-- ---- a page of more is longer, by the tables

whole_longer : (fixed stored more ranges ranges' spelled spelled' : ℕ) → 46 ≤ more → 0 < ranges' → spelled ≤ 36 + spelled'
    → whole_of fixed stored ranges spelled < whole_of fixed (stored + more) ranges' spelled'
whole_longer fixed stored more ranges ranges' spelled spelled' h p saved =
    omega (arith, whole_most fixed stored ranges spelled, whole_some fixed (stored + more) ranges' spelled' (λ z. omega arith))

module _ (fixed : ℕ) (l : List Range) (n : Normal l) (w : List Element) (least : Each (λ (x : Element). 46 ≤ x.length) w) where
  abbrev whole_at : ℕ → ℕ
  whole_at j = (table_measure fixed l w).whole j

  longer_on : (j : ℕ) → j < length w → (rest : List Element) → drop j w ≡ rest → whole_at j < whole_at (suc j)
  longer_on j h [] d = absurd (omega (arith, length-drop j w, ap length d))
  longer_on j h (x ∷ r) d =
      let p = ranges_with l (take j w) in
      let m : Normal p = normal_with (take j w) l n in
      rw (stored_next w j d, ranges_next w j d l)
      (whole_longer fixed (stored_length (take j w)) x.length (length p) (length (insert (serial_range x) p)) (length (ranges_bytes p)) (length (ranges_bytes (insert (serial_range x) p)))
      (each_next (λ (y : Element). 46 ≤ y.length) j w d least) (ranges_some x p m) (ranges_saved x p m))

  pub whole_grows : (j : ℕ) → j < length w → whole_at j < whole_at (suc j)
  whole_grows j h = longer_on j h (drop j w) refl

  pub wholes_grow : (j k : ℕ) → j ≤ k → k ≤ length w → whole_at j ≤ whole_at k
  wholes_grow j zero a b = let e : j ≡ 0 = omega arith in rw e (omega arith)
  wholes_grow j (suc k) a b =
      by_lt j (suc k)
      (λ i. let f = wholes_grow j k (omega arith) (omega arith) in let g = whole_grows k (omega arith) in omega arith)
      (λ i. let e : j ≡ suc k = omega arith in rw e (omega arith))

-- ---- all of them, where they were tried in another order and fit

tries_hold : (a b c d : Bool) → pick a (pick b false (pick c d false)) false ≡ true → (a ≡ true) × (b ≡ false) × (c ≡ true)
tries_hold true true c d h = impossible (cc)
tries_hold true false true d h = (refl, refl, refl)
tries_hold true false false d h = impossible (cc)
tries_hold false b c d h = impossible (cc)

pub all_tried : (b : Bounds) (count wanted stored : ℕ) → tries_all b count wanted stored ≡ true → (count ≡ 0) × (0 < wanted) × (wanted ≤ b.most)
unfolding tries_all
all_tried b count wanted stored h =
    let f = tries_hold (eqb count 0) (eqb wanted 0) (leb wanted b.most) (pick (leb stored b.limit) (leb (b.fixed + stored) b.room) false) h in (
      eqb-true count 0 f.0,
      by_eq wanted 0 (λ e. let z : true ≡ false = sym (eq-eqb wanted 0 e) ∙ f.1 in impossible (cc)) (λ e. omega arith),
      leb-true _ _ f.2,
    )

three_hold : (a b c : Bool) → pick a (pick b c false) false ≡ true → (a ≡ true) × (b ≡ true) × (c ≡ true)
three_hold true true c h = (refl, refl, h)
three_hold true false c h = impossible (cc)
three_hold false b c h = impossible (cc)

module _ (b : Bounds) (l : List Range) (n : Normal l) (c w : List Element) (e : Rearranged c w) (least : Each (λ (x : Element). 46 ≤ x.length) w)
    (some : 0 < length c) (few : length l + length c ≤ b.most) where
  -- each page of the others is sendable, where that of all of these is
  tried_every : (k : ℕ) → k ≡ length c → is_sendable b.most b.limit b.room k (stored_length (take k c)) (length (ranges_with l (take k c))) ((table_measure b.fixed l c).whole k) ≡ true
      → Every (sendable b.most b.limit b.room (table_measure b.fixed l w)) (length w)
  unfolding is_sendable
  tried_every k ke h j least-j most-j =
      let f = three_hold (leb (length (ranges_with l (take k c))) b.most) (leb ((table_measure b.fixed l c).whole k) b.room) (pick (leb k 1) true (leb (stored_length (take k c)) b.limit)) h in
      let lengths : length w ≡ length c = rearranged_length e in
      let whole-c : take k c ≡ c = rw ke (take-length c) in
      let p = take j w in
      let r : length (ranges_with l p) ≤ length l + length p = with_most p l in
      let m : length p ≤ length w = omega (arith, length-take j w) in
      let x : length (ranges_with l p) ≤ b.most = omega (arith, length-take j w) in
      let g = wholes_grow b.fixed l n w least j (length w) most-j (omega arith) in
      let v : (table_measure b.fixed l w).whole (length w) ≡ (table_measure b.fixed l c).whole k =
      rw (take-length w, whole-c, stored_rearranged e, with_rearranged e l n) in
      let u : (table_measure b.fixed l c).whole k ≤ b.room = leb-true _ _ f.1 in
      let y : (table_measure b.fixed l w).whole j ≤ b.room = omega arith in
      by_lt 1 j
      (λ more.
      let two : leb k 1 ≡ false = lt-leb k 1 (omega arith) in
      let t : stored_length (take k c) ≤ b.limit = leb-true _ _ (rw two at f.2) in
      let q : stored_length c ≤ b.limit = rw whole-c at t in
      let o : stored_length p ≤ stored_length w = stored_first j w in
      let s = stored_rearranged e in
      let z : stored_length p ≤ b.limit = omega arith in
      rw (le-leb _ _ x, le-leb _ _ y, le-leb _ _ z) (by_bool (leb j 1) (λ i. rw i) (λ i. rw i)))
      (λ one. rw (le-leb _ _ x, le-leb _ _ y, le-leb j 1 one))

  pub tried : (r : Decided) (t t' : List ℕ) → ranges_at t 0 (length l) ≡ l → Decides c l b r t t' → is_whole r ≡ true → DecidesPage w l b r t'
  unfolding is_whole
  tried (Ok x) t t' h d is =
      let k = x.count in
      let all_sent : x.more ≡ false = by_bool x.more (λ i. impossible (cc)) (λ i. i) in
      let m = table_measure b.fixed l c in
      let s = sent_law b.most b.limit b.room m (length c) k x.length x.ranges x.more (sym d.0) in
      let a = ltb-false k (length c) (sym s.more_is ∙ all_sent) in
      let z = s.greatest.most in
      let ke : k ≡ length c = omega arith in
      let whole-c : take k c ≡ c = rw ke (take-length c) in
      let lengths : length w ≡ length c = rearranged_length e in
      let whole-w : take k w ≡ w = rw (ke, ← lengths) (take-length w) in
      let every = tried_every k ke (s.greatest.every k (omega arith) (omega arith)) in
      let all : sent (table_measure b.fixed l w) (length w) (length w) ≡ decision b.most b.limit b.room (table_measure b.fixed l w) (length w) =
      some_taken b.most b.limit b.room (table_measure b.fixed l w) (length w) (length w) (omega arith) (omega arith) every (λ i. absurd (omega arith)) in
      let all-w : all_of b l w ≡ decision b.most b.limit b.room (table_measure b.fixed l w) (length w) = rw (take-length w, le-ltb (length w) (length w) (omega arith)) at all in
      let is_all : Sent k x.length x.ranges x.more ≡ all_of b l c = rw (s.whole_is, s.ranges_are, all_sent, whole-c, ke) in (
        is_all ∙ same_all b l n e ∙ all-w,
        rw (whole-w, with_rearranged e l n) (rw (s.ranges_are, d.1, whole-c) (rows_laid c l t h)),
      )
  tried (Err e) t t' h d is = impossible (cc)
