-- The order of bytes is the order of numbers: runs of one length stand as the numbers do that they make, the highest byte first.
-- Assumes nothing.
use mathlib.Core.Path.{◌≡◌, refl}
use mathlib.Core.Bool.{true, false}
use mathlib.Core.List.{List, [], ◌∷◌, ◌++◌}
use Prim.Native.Nat.{ℕ, suc, ◌+◌, ◌*◌, ◌^◌, ◌≤◌, ◌<◌}
use native.Mathlib.Nat.{mul-le-mul_right, pow-suc, suc-mul}
use native.Mathlib.Omega.{arith}
use lib.ListN.{length}
use lib.Dec.{ltb}
use borrow.Author.Tests.{lt-ltb, le-ltb}
use Rattle.laws.specs.Pick.{pick}
use Rattle.laws.specs.Bytes.{AllBytes, before, be}
use Rattle.laws.proofs.Cases.{by_lt}

-- a lower first byte, whatever follows
lower : (x y p r s : ℕ) → x < y → r < p → x * p + r < y * p + s
lower x y p r s h k = omega (arith, mul-le-mul_right p h, suc-mul x p)

pub be_lt : (xs : List ℕ) → AllBytes xs → be xs < 256 ^ length xs
unfolding be
be_lt [] b = omega arith
be_lt (x ∷ xs) b =
    omega (arith, be_lt xs (λ i. b (suc i)), mul-le-mul_right (256 ^ length xs) (b 0), suc-mul x (256 ^ length xs), pow-suc 256 (length xs))

-- what is added on both sides does not matter
ltb_add : (p a b : ℕ) → ltb (p + a) (p + b) ≡ ltb a b
ltb_add p a b =
    by_lt a b
    (λ h. let k : p + a < p + b = omega arith in rw (lt-ltb _ _ k, lt-ltb _ _ h))
    (λ h. let k : p + b ≤ p + a = omega arith in rw (le-ltb _ _ k, le-ltb _ _ h))

cons_before : (x y : ℕ) (xs ys : List ℕ) → AllBytes xs → AllBytes ys → length xs ≡ length ys → before xs ys ≡ ltb (be xs) (be ys)
    → before (x ∷ xs) (y ∷ ys) ≡ ltb (be (x ∷ xs)) (be (y ∷ ys))
unfolding before be
cons_before x y xs ys b c e ih =
    by_lt x y
    (λ h.
    let l : be xs < 256 ^ length ys = rw e at (be_lt xs b) in
    let m : x * 256 ^ length ys + be xs < y * 256 ^ length ys + be ys = lower x y (256 ^ length ys) (be xs) (be ys) h l in
    rw (e, lt-ltb _ _ h, lt-ltb _ _ m))
    (λ k.
    by_lt y x
    (λ h.
    let l : be ys < 256 ^ length ys = be_lt ys c in
    let m : y * 256 ^ length ys + be ys < x * 256 ^ length ys + be xs = lower y x (256 ^ length ys) (be ys) (be xs) h l in
    let n : y * 256 ^ length ys + be ys ≤ x * 256 ^ length ys + be xs = omega arith in
    rw (e, le-ltb _ _ k, lt-ltb _ _ h, le-ltb _ _ n))
    (λ h. let q : x ≡ y = omega arith in rw (le-ltb _ _ k, le-ltb _ _ h, e, q, ltb_add (y * 256 ^ length ys) (be xs) (be ys)) ih))

nil_before : before [] [] ≡ ltb (be []) (be [])
unfolding before be
nil_before = refl

pub before_be : (xs ys : List ℕ) → AllBytes xs → AllBytes ys → length xs ≡ length ys → before xs ys ≡ ltb (be xs) (be ys)
before_be [] [] b c e = nil_before
before_be [] (y ∷ ys) b c e = absurd (omega arith)
before_be (x ∷ xs) [] b c e = absurd (omega arith)
before_be (x ∷ xs) (y ∷ ys) b c e =
    cons_before x y xs ys (λ i. b (suc i)) (λ i. c (suc i)) (omega arith) (before_be xs ys (λ i. b (suc i)) (λ i. c (suc i)) (omega arith))

-- a run in two parts: the first decides, and then the second
pub before_append : (xs ys us vs : List ℕ) → length xs ≡ length ys
    → before (xs ++ us) (ys ++ vs) ≡ pick (before xs ys) true (pick (before ys xs) false (before us vs))
unfolding before
before_append [] [] us vs e = refl
before_append [] (y ∷ ys) us vs e = absurd (omega arith)
before_append (x ∷ xs) [] us vs e = absurd (omega arith)
before_append (x ∷ xs) (y ∷ ys) us vs e =
    by_lt x y
    (λ h. rw (lt-ltb x y h))
    (λ k.
    by_lt y x
    (λ h. rw (le-ltb x y k, lt-ltb y x h))
    (λ h. rw (le-ltb x y k, le-ltb y x h) (before_append xs ys us vs (omega arith))))
