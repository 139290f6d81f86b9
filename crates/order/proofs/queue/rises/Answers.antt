-- `queue::rises` meets its contract.
-- Assumes nothing.
use mathlib.Core.Path.{◌≡◌, refl, sym}
use mathlib.Core.Bool.{Bool, true, false}
use mathlib.Core.List.{List, [], ◌∷◌}
use Prim.Native.Nat.{ℕ, zero, suc, ◌+◌, ◌≤◌, ◌<◌}
use native.Mathlib.Omega.{arith}
use lib.ListN.{length, get_or}
use lib.Dec.{ltb}
use borrow.Author.Tests.{lt-ltb, le-ltb}
use native.Mathlib.Numerals.{add-one}
use Rattle.std.specs.Prelude.{MatchBool}
use Rattle.std.specs.List.Sorted.{IsNonDecreasing}
use Rattle.std.proofs.lemmas.List.Sorted.{non_decreasing_from_is_sorted}
use Rattle.laws.specs.Pick.{pick}
use Rattle.order.specs.Queue.{rising_from}
use Rattle.order.proofs.queue.rises.Goals as goal

rises_lem : (last : ℕ) (xs : List ℕ) → IsNonDecreasing xs → (0 < length xs → last ≤ get_or xs 0 0) → rising_from last xs ≡ true
unfolding rising_from
rises_lem last [] h l = refl
rises_lem last (x ∷ xs) h l = rw (le-ltb x last (l (omega arith))) (rises_lem x xs (λ i j d p q. h (suc i) (suc j) d (omega arith) (omega arith)) (λ p. h 0 1 0 (omega arith) (omega arith)))

either_false : (b : Bool) → pick b false false ≡ false
either_false true = refl
either_false false = refl

falls_lem : (last : ℕ) (xs : List ℕ) (k : ℕ) → suc k < length xs → get_or xs (suc k) 0 < get_or xs k 0 → rising_from last xs ≡ false
unfolding rising_from
falls_lem last [] k l h = absurd (omega arith)
falls_lem last (x ∷ []) k l h = absurd (omega arith)
falls_lem last (x ∷ y ∷ xs) zero l h = rw (lt-ltb y x h) (either_false (ltb x last))
falls_lem last (x ∷ y ∷ xs) (suc k) l h = rw (falls_lem x (y ∷ xs) k (omega arith) h) (either_false (ltb x last))

rises_just_if : (xs : List ℕ) (b : Bool) → MatchBool b (IsNonDecreasing xs) ((k : ℕ) × (k + 1 < length xs) × ((d : ℕ) → get_or xs (k + 1) d < get_or xs k d)) → b ≡ rising_from 0 xs
rises_just_if xs true h = sym (rises_lem 0 xs h (λ p. omega arith))
rises_just_if xs false h = sym (falls_lem 0 xs h.0 (omega (arith, h.1)) (rw add-one at (h.2 0)))

pub returns : goal.returns
returns c = rises_just_if _ _ (non_decreasing_from_is_sorted _ _ c.is_sorted.ensures.cases)
