-- `compact::read_form` meets its contract: the tests that led to a `return` say which case of `read_form` holds.
-- Assumes nothing.
use native.Mathlib.Omega.{arith}
use borrow.Author.Tests.{lt-ltb, le-ltb}
use Prim.Native.Nat.{◌≤◌, ◌<◌}
use lib.ListN.{length}
use Rattle.numbers.specs.Compact.{read_form, size_of}
use Rattle.numbers.proofs.Forms.{least_shl}
use Rattle.numbers.proofs.compact.read_form.Goals as goal

pub returns-then-s-n : goal.returns-then-s-n
unfolding read_form
returns-then-s-n c = let a = c.args in
    let h : length a.s.now < size_of a.k = omega arith in
    rw (lt-ltb _ _ h, c.at_front.ensures)

pub returns : goal.returns
unfolding read_form
returns c = let a = c.args in
    let h : size_of a.k ≤ length a.s.now = omega arith in
    rw (le-ltb _ _ h, least_shl a.k (omega arith), c.value_of-v.ensures, c.size_of-n.ensures)
