-- Tests for 'seen before' and 'no key twice', over any keys and any test of sameness.
-- Assumes nothing.
use Rattle.std.specs.Prelude.{Bool, true, false, List, [], ◌∷◌}
use Rattle.laws.specs.Pick.{pick}

module _ {K : Type 0} (same : K → K → Bool) where
  -- k is among the keys
  unfoldable pub seen : K → List K → Bool
  seen k [] = false
  seen k (x ∷ xs) = pick (same k x) true (seen k xs)

  -- no key stands twice
  unfoldable pub once : List K → Bool
  once [] = true
  once (x ∷ xs) = pick (seen x xs) false (once xs)
