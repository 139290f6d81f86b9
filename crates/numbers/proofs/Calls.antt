-- What the calls for a single item tell, case by case, and that an answer is known by what it tells.
-- Assumes nothing.
use mathlib.Core.Path.{◌≡◌, sym, ◌∙◌}
use mathlib.Core.List.{List, ◌++◌}
use Prim.Native.Nat.{ℕ, ◌≤◌, ◌<◌}
use lib.ListN.{length, drop}
use borrow.Author.Tests.{lt-ltb, le-ltb}
use Rattle.laws.proofs.Placing.{placed_fits, placed_short}
use Rattle.numbers.specs.Refusals.{Told, refuses, longest_input, over_long, too_short}
use Rattle.numbers.specs.Calls.{single, written, Writes}
use Rattle.numbers.specs.Results.Wrote.{Done, Refused}

-- ---- reading

pub single_over : (item : List ℕ → Told) (s : List ℕ) → longest_input < length s → single item s ≡ refuses over_long
unfolding single
single_over item s h = rw (lt-ltb longest_input (length s) h)

pub single_item : (item : List ℕ → Told) (s : List ℕ) → length s ≤ longest_input → single item s ≡ item s
unfolding single
single_item item s h = rw (le-ltb longest_input (length s) h)

-- ---- writing an item of n bytes

pub wrote_short : (w s : List ℕ) (n : ℕ) → length w ≡ n → length s < n → Writes w s (Refused (too_short n)) s
unfolding written
wrote_short w s n e h =
    let l : length s < length w = rw e h in
    (rw (lt-ltb _ _ l, e), sym (placed_short w s l))

pub wrote_done : (w s exit : List ℕ) (n : ℕ) → length w ≡ n → n ≤ length s → exit ≡ w ++ drop n s → Writes w s (Done n) exit
unfolding written
wrote_done w s exit n e h x =
    let l : length w ≤ length s = rw e h in
    (rw (le-ltb _ _ l, e), x ∙ sym (rw e at (placed_fits w s l)))
