-- Stores of numbers one after the other into a table are one run of numbers laid over it.
-- Assumes nothing.
use mathlib.Core.Path.{◌≡◌, ◌∙◌}
use mathlib.Core.List.{List, [], ◌∷◌, ◌++◌, append_assoc}
use Prim.Native.Nat.{ℕ, suc, ◌+◌, ◌≤◌}
use native.Mathlib.Omega.{arith}
use lib.ListN.{length, take, drop, set}
use lib.Seq.{sets-eq}

pub put_three : (t : List ℕ) (i a b c : ℕ) → i + 3 ≤ length t
    → set (set (set t i a) (i + 1) b) (i + 2) c ≡ take i t ++ ((a ∷ b ∷ c ∷ []) ++ drop (i + 3) t)
put_three t i a b c p =
    let e1 : i + 1 ≡ suc i = omega arith in
    let e2 : i + 2 ≡ suc (suc i) = omega arith in
    rw (e1, e2) (sets-eq (a ∷ b ∷ c ∷ []) t i p ∙ append_assoc (take i t) (a ∷ b ∷ c ∷ []) (drop (i + 3) t))

pub put_six : (t : List ℕ) (i a b c d e f : ℕ) → i + 6 ≤ length t
    → set (set (set (set (set (set t i a) (i + 1) b) (i + 2) c) (i + 3) d) (i + 4) e) (i + 5) f
    ≡ take i t ++ ((a ∷ b ∷ c ∷ d ∷ e ∷ f ∷ []) ++ drop (i + 6) t)
put_six t i a b c d e f p =
    let e1 : i + 1 ≡ suc i = omega arith in
    let e2 : i + 2 ≡ suc (suc i) = omega arith in
    let e3 : i + 3 ≡ suc (suc (suc i)) = omega arith in
    let e4 : i + 4 ≡ suc (suc (suc (suc i))) = omega arith in
    let e5 : i + 5 ≡ suc (suc (suc (suc (suc i)))) = omega arith in
    rw (e1, e2, e3, e4, e5)
    (sets-eq (a ∷ b ∷ c ∷ d ∷ e ∷ f ∷ []) t i p ∙ append_assoc (take i t) (a ∷ b ∷ c ∷ d ∷ e ∷ f ∷ []) (drop (i + 6) t))
