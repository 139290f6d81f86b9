-- `compact::form_at` meets its contract: the tests that led to a `return` say which case of `read_compact` holds.
-- Assumes nothing.
use native.Mathlib.Omega.{arith}
use borrow.Author.Tests.{eq-eqb, ne_eqb}
use Prim.Native.Nat.{◌<◌}
use lib.ListN.{get_or}
use lib.Count.{count_trailing_zeros}
use Rattle.numbers.specs.Compact.{read_compact}
use Rattle.numbers.proofs.LowestBit.{zeros_lt}
use Rattle.numbers.proofs.compact.form_at.Goals as goal
use Rattle.numbers.proofs.compact.form_at.Goals.{Else-b-eq0}

pub returns-then-s-eq0 : goal.returns-then-s-eq0
unfolding read_compact
returns-then-s-eq0 c = rw (eq-eqb _ _ c.if-s-eq0.true, c.at_front.ensures)

pub returns-then-b-eq0 : goal.returns-then-b-eq0
unfolding read_compact
returns-then-b-eq0 c = rw (ne_eqb _ _ c.if-s-eq0.false, eq-eqb _ _ c.if-b-eq0.true)

-- the first byte has a set bit
form : (c : Else-b-eq0) → count_trailing_zeros 8 (get_or c.args.s.now 0 0) < 8
form c = zeros_lt 8 _ (c.type_inv.s 0).fits c.if-b-eq0.false

pub overflow_cast-k : goal.overflow_cast-k
overflow_cast-k c = omega (arith, form c)

pub read_form-requires : goal.read_form-requires
read_form-requires c = omega (arith, form c)

pub returns : goal.returns
unfolding read_compact
returns c = rw (ne_eqb _ _ c.if-s-eq0.false, ne_eqb _ _ c.if-b-eq0.false) c.read_form.ensures
