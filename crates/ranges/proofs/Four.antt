-- Stores of numbers one after the other into a table are one run of numbers laid over it.
-- Assumes nothing.
use mathlib.Core.Path.{◌≡◌, ◌∙◌}
use mathlib.Core.List.{List, [], ◌∷◌, ◌++◌, append_assoc}
use Prim.Native.Nat.{ℕ, suc, ◌+◌, ◌≤◌}
use native.Mathlib.Omega.{arith}
use lib.ListN.{length, take, drop, set}
use lib.Seq.{sets-eq}

pub put_four : (t : List ℕ) (i a b c d : ℕ) → i + 4 ≤ length t
    → set (set (set (set t i a) (i + 1) b) (i + 2) c) (i + 3) d ≡ take i t ++ ((a ∷ b ∷ c ∷ d ∷ []) ++ drop (i + 4) t)
put_four t i a b c d p =
    let e1 : i + 1 ≡ suc i = omega arith in
    let e2 : i + 2 ≡ suc (suc i) = omega arith in
    let e3 : i + 3 ≡ suc (suc (suc i)) = omega arith in
    rw (e1, e2, e3) (sets-eq (a ∷ b ∷ c ∷ d ∷ []) t i p ∙ append_assoc (take i t) (a ∷ b ∷ c ∷ d ∷ []) (drop (i + 4) t))
