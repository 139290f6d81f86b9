-- The one loop by which definitions go that are not counted: a turn goes on at another state, or is done.
-- Assumes nothing.
use Rattle.std.specs.Prelude.{ℕ, zero, suc}

pub data Turn (A R : Type 0) : Type 0 where
  more : A → Turn A R
  done : R → Turn A R

abbrev pub after : {A R : Type 0} → (A → R) → Turn A R → R
after go (more a) = go a
after go (done r) = r

-- at most so many turns; `out` if they do not suffice
unfoldable pub turns : {A R : Type 0} → (A → Turn A R) → R → ℕ → A → R
turns step out zero a = out
turns step out (suc f) a = after (λ b. turns step out f b) (step a)

-- the loop from a; `size` falls with each turn (the laws ask for it), so that `out` is never the answer
unfoldable pub iterate : {A R : Type 0} → (A → Turn A R) → (A → ℕ) → R → A → R
iterate step size out a = turns step out (suc (size a)) a
