-- A plan gone through from its first number to its last: what is still to come, turn by turn.
-- Assumes nothing.
use mathlib.Core.Path.{◌≡◌}
use mathlib.Core.List.{List, ◌∷◌}
use Prim.Native.Nat.{ℕ, ◌+◌, ◌<◌}
use native.Mathlib.Numerals.{add-one}
use lib.ListN.{length, drop, get_or}
use lib.Seq.{drop-cons}

-- one number more
pub plan_turn : (plan : List ℕ) (k : ℕ) → k < length plan → drop k plan ≡ get_or plan k 0 ∷ drop (k + 1) plan
plan_turn plan k h = rw (drop-cons plan k 0, add-one k)
