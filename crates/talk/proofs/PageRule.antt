-- The page rule: the walk finds the greatest, and there is one greatest.
-- Assumes nothing.
use mathlib.Core.Path.{◌≡◌, sym, ◌∙◌, ap}
use mathlib.Core.Bool.{Bool, true, false}
use Prim.Native.Nat.{ℕ, zero, suc, ◌+◌, ◌<◌}
use native.Mathlib.Omega.{arith}
use lib.Dec.{ltb}
use borrow.Author.Tests.{ltb-true, ltb-false}
use Rattle.laws.proofs.Cases.{by_bool, impossible}
use Rattle.talk.specs.Page.{Greatest, grow, page_count, Every}

pub every_none : (ok : ℕ → Bool) → Every ok 0
every_none ok j l u = absurd (omega arith)

pub every_more : (ok : ℕ → Bool) (k : ℕ) → Every ok k → ok (suc k) ≡ true → Every ok (suc k)
every_more ok k h e j l u = by_bool (ltb k j) (λ t. let q : j ≡ suc k = omega (arith, ltb-true) in ap ok q ∙ e) (λ t. h j l (omega (arith, ltb-false)))

grow_greatest : (ok : ℕ → Bool) (n m k : ℕ) → k + m ≡ n → Every ok k → Greatest ok n (grow ok m k)
unfolding grow
grow_greatest ok n zero k q h = record { most = omega arith; every = h; stop = λ l. absurd (omega arith) }
grow_greatest ok n (suc m) k q h =
    by_bool (ok (suc k)) (λ e. rw e (grow_greatest ok n m (suc k) (omega arith) (every_more ok k h e)))
    (λ e. rw e (record { most = omega arith; every = h; stop = λ l. e }))

-- the walk finds it
pub page_greatest : (ok : ℕ → Bool) (n : ℕ) → Greatest ok n (page_count ok n)
unfolding page_count
page_greatest ok n = grow_greatest ok n n 0 (omega arith) (every_none ok)

-- there is one
pub greatest_one : (ok : ℕ → Bool) (n k k' : ℕ) → Greatest ok n k → Greatest ok n k' → k ≡ k'
greatest_one ok n k k' g g' = omega (arith, not_less k k' g g', not_less k' k g' g)
  where
    not_less : (k k' : ℕ) → Greatest ok n k → Greatest ok n k' → ¬ (k < k')
    not_less k k' g g' h =
        let e : true ≡ false = sym (g'.every (suc k) (omega arith) h) ∙ g.stop (omega (arith, g'.most)) in
        impossible (cc)

-- a page of 1 that is ok is sent, if anything is wanted; with nothing wanted the page is empty
pub greatest_some : (ok : ℕ → Bool) (n k : ℕ) → Greatest ok n k → ok 1 ≡ true → 0 < n → 0 < k
greatest_some ok n zero g h l = let e : true ≡ false = sym h ∙ g.stop l in impossible (cc)
greatest_some ok n (suc k) g h l = omega arith

pub greatest_none : (ok : ℕ → Bool) (k : ℕ) → Greatest ok 0 k → k ≡ 0
greatest_none ok k g = let m = g.most in omega arith
