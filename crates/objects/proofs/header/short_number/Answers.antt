-- `header::short_number` meets its contract.
-- Assumes nothing.
use Prim.Native.Nat.{ℕ, ◌-◌, ◌≤◌, ◌<◌}
use native.Mathlib.Omega.{arith}
use borrow.Author.Tests.{lt-ltb, le-ltb}
use Rattle.laws.proofs.Parts.{tail_part}
use Rattle.objects.specs.Next.{short_number}
use Rattle.objects.proofs.header.short_number.Goals as goal

less_than_two : (n at : ℕ) → n - 1 ≤ at → n - at < 2
less_than_two n at h = omega arith

two_there : (n at : ℕ) → at < n - 1 → 2 ≤ n - at
two_there n at h = omega arith

pub returns-then-left_of-at : goal.returns-then-left_of-at
unfolding short_number
returns-then-left_of-at c = let h = rw c.left_of.ensures at c.if-left_of-at.true in
    rw (lt-ltb _ 2 (less_than_two _ _ h))

pub returns : goal.returns
unfolding short_number
returns c = let h = rw c.left_of.ensures at c.if-left_of-at.false in
    rw (le-ltb _ 2 (two_there _ _ h)) (rw tail_part at c.read_le.ensures)
