-- How many ranges a series of answers needs: at most one more for each thing sent. So what is known at the start and what is wanted then
-- bound the ranges of every page of one thing, and from 256 ranges and 256 things there are never more than 512 (`never_crowded`). And
-- an answer over ranges is one over sets (`ranged_judged`).
-- Assumes nothing.
use mathlib.Core.Path.{◌≡◌, refl, sym, ◌∙◌, ap}
use mathlib.Core.Bool.{Bool, true, false}
use mathlib.Core.List.{List, [], ◌∷◌, ◌++◌, map}
use Prim.Native.Nat.{ℕ, ◌+◌, ◌≤◌}
use native.Mathlib.Omega.{arith}
use lib.ListN.{length, length-append, length-map, take}
use lib.Dec.{eqb, leb}
use borrow.Author.Tests.{eq-eqb, ne_eqb, le-leb, lt-leb}
use Rattle.laws.specs.Pick.{pick}
use Rattle.laws.specs.Once.{seen, once}
use Rattle.laws.proofs.Cases.{by_lt}
use Rattle.talk.specs.declared.range.Range.{Range}
use Rattle.talk.specs.Ranges.{range, within, holds, insert, Normal}
use Rattle.talk.specs.Each.{Each}
use Rattle.talk.specs.Wanted.{is_wanted, wanted}
use Rattle.talk.specs.Series.{Chain, done, next, Answer, Takes, with_keys, Judged}
use Rattle.talk.specs.RangeSeries.{with_ranges, HoldsSome, RangeOfKey, Ranged}
use Rattle.talk.proofs.Insertion.{length_insert, normal_insert}
use Rattle.talk.proofs.Membership.{holds_insert}
use Rattle.talk.proofs.Things.{each_kept}
use Rattle.talk.proofs.Delivery.{length_wanted, judged_takes}

-- ---- ranges put into a list

-- so many ranges more are at most so many rows more
pub length_with : (l more : List Range) → length (with_ranges l more) ≤ length l + length more
unfolding with_ranges
length_with l [] = omega arith
length_with l (r ∷ more) = omega (arith, length_with (insert r l) more, length_insert r l)

-- the normal form is kept
pub normal_with : (l more : List Range) → Each HoldsSome more → Normal l → Normal (with_ranges l more)
unfolding with_ranges
normal_with l [] s n = n
normal_with l (r ∷ more) s n = normal_with (insert r l) more s.1 (normal_insert r l s.0 n)

-- a range of one number holds that number under its GUID, and no other
pub within_one : (a b m u l n : ℕ) → within (range a b m m) u l n ≡ pick (eqb a u) (pick (eqb b l) (eqb m n) false) false
unfolding within
within_one a b m u l n = ap (λ (p : Bool). pick (eqb a u) (pick (eqb b l) p false) false) ends
  where
    ends : pick (leb m n) (leb n m) false ≡ eqb m n
    ends =
        by_lt m n (λ h. rw (le-leb m n (omega arith), lt-leb n m h, ne_eqb m n (λ e. omega arith)))
        (λ h. by_lt n m (λ k. rw (lt-leb m n k, ne_eqb m n (λ e. omega arith))) (λ k. rw (le-leb m n k, le-leb n m h, eq-eqb m n (omega arith))))

-- so with one such range more, one pair more is held
pub holds_insert_one : (a b m : ℕ) (l : List Range) → Normal l → (u v n : ℕ)
    → holds (insert (range a b m m) l) u v n ≡ pick (pick (eqb a u) (pick (eqb b v) (eqb m n) false) false) true (holds l u v n)
holds_insert_one a b m l o u v n = rw (← within_one a b m u v n) (holds_insert (range a b m m) l u v n o)

-- ---- a series

module _ {E K : Type 0} (key : E → K) (range_of : E → Range) (known : List Range → K → Bool) (things : List E) (lets : E → Bool) where
  -- what one answer adds
  pub ranged_length : (l l' : List Range) (a : Answer E) → Ranged key range_of known things lets l a l' → length l' ≤ length l + length a.page
  ranged_length l l' a r = rw r.adds (omega (arith, length_with l (map range_of a.page), length-map a.page range_of))

each_front : {E : Type 0} (P : E → Type 0) (s t : List E) → Each P (s ++ t) → Each P s
each_front P [] t h = tt
each_front P (x ∷ s) t h = (h.0, each_front P s t h.1)

module _ {E K : Type 0} (same : K → K → Bool) (Fits : K → Type 0) (key : E → K) (range_of : E → Range) (known : List Range → K → Bool)
    (keyed : RangeOfKey key range_of known same Fits) where
  each_some : (page : List E) → Each HoldsSome (map range_of page)
  each_some [] = tt
  each_some (x ∷ page) = (keyed.some x, each_some page)

  -- known with a page's ranges: what was known, and the page's keys
  pub known_with : (l : List Range) (page : List E) → Normal l → Each (λ (x : E). Fits (key x)) page → (k : K) → Fits k
      → known (with_ranges l (map range_of page)) k ≡ with_keys same (known l) (map key page) k
  unfolding with_ranges seen
  known_with l [] o all k f = sym (alone (known l k))
    where
      alone : (p : Bool) → pick p true false ≡ p
      alone true = refl
      alone false = refl
  known_with l (x ∷ page) o all k f =
      known_with (insert (range_of x) l) page (normal_insert (range_of x) l (keyed.some x) o) all.1 k f
      ∙ (rw (keyed.adds_one x all.0 l o k f) (turned (same k (key x)) (known l k) (seen same k (map key page))))
    where
      turned : (p q t : Bool) → pick (pick p true q) true t ≡ pick q true (pick p true t)
      turned true true t = refl
      turned true false t = refl
      turned false q t = refl

  module _ (things : List E) (lets : E → Bool) (all : Each (λ (x : E). Fits (key x)) things) where
    page_fits : (know : K → Bool) (a : Answer E) (rest : List E) → Takes (wanted key lets know things) a rest → Each (λ (x : E). Fits (key x)) a.page
    unfolding wanted
    page_fits know a rest t =
        each_front (λ (x : E). Fits (key x)) a.page rest (rw t.run (each_kept (λ (x : E). Fits (key x)) (is_wanted key lets know) things all))

    -- one answer over ranges is one over sets, and leaves ranges in normal form
    pub ranged_judged : (l l' : List Range) (a : Answer E) → Normal l → Ranged key range_of known things lets l a l'
        → Judged same Fits key things lets (known l) a (known l') × Normal l'
    ranged_judged l l' a o r = (
      record {
        rest = r.rest;
        takes = r.takes;
        adds = λ k f. rw r.adds (known_with l a.page o (page_fits (known l) a r.rest r.takes) k f);
      },
      rw r.adds (normal_with l (map range_of a.page) (each_some a.page) o),
    )

    module _ (itself : (k : K) → same k k ≡ true) (turn : (a b : K) → same a b ≡ same b a) (o : once same (map key things) ≡ true) where
      -- the ranges and the wanted things together never become more: by one answer ..
      pub ranged_room : (l l' : List Range) (a : Answer E) → Normal l → Ranged key range_of known things lets l a l'
          → length l' + length (wanted key lets (known l') things) ≤ length l + length (wanted key lets (known l) things)
      ranged_room l l' a n r =
          let t = judged_takes same itself turn key Fits things lets all o (known l) (known l') a (ranged_judged l l' a n r).0 in
          omega (arith, ranged_length key range_of known things lets l l' a r, simp length-append at (ap length t.run))

      -- .. and by a series
      pub series_room : {l l' : List Range} {answers : List (Answer E)} → Normal l → Chain (Ranged key range_of known things lets) l answers l'
          → length l' + length (wanted key lets (known l') things) ≤ length l + length (wanted key lets (known l) things)
      series_room n done = omega arith
      series_room n (next {k = l} {m = m} {a = a} r c) = omega (arith, ranged_room l m a n r, series_room (ranged_judged l m a n r).1 c)

      -- the page of one thing, or of none if none is wanted
      pub page_of_one : {l l' : List Range} {answers : List (Answer E)} → Normal l → Chain (Ranged key range_of known things lets) l answers l'
          → length (with_ranges l' (map range_of (take 1 (wanted key lets (known l') things)))) ≤ length l + length (wanted key lets (known l) things)
      page_of_one {l} {l'} n c = omega (arith, one (wanted key lets (known l') things), series_room n c)
        where
          one : (w : List E) → length (with_ranges l' (map range_of (take 1 w))) ≤ length l' + length w
          one [] = omega (arith, length_with l' [])
          one (x ∷ w) = omega (arith, length_with l' (range_of x ∷ []))

      -- from at most 256 ranges, with at most 256 things in all, it has at most 512 ranges
      pub never_crowded : {l l' : List Range} {answers : List (Answer E)} → Normal l → length l ≤ 256 → length things ≤ 256
          → Chain (Ranged key range_of known things lets) l answers l'
          → length (with_ranges l' (map range_of (take 1 (wanted key lets (known l') things)))) ≤ 512
      never_crowded {l} n h g c = omega (arith, page_of_one n c, length_wanted key lets (known l) things)
