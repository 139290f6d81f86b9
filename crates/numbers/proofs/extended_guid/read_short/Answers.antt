-- `extended_guid::read_short` meets its contract: the tests that led to a `return` say which case of `named_of` holds.
-- Assumes nothing.
use native.Mathlib.Omega.{arith}
use borrow.Author.Tests.{lt-ltb, le-ltb}
use Rattle.laws.proofs.Parts.{tail_part}
use Rattle.numbers.specs.ExtendedGuid.{short_form, named_of}
use Rattle.numbers.proofs.ExtendedGuids.{short_fits}
use Rattle.numbers.proofs.extended_guid.read_short.Goals as goal

pub returns-then-s-n : goal.returns-then-s-n
unfolding short_form named_of
returns-then-s-n c = rw (lt-ltb _ _ c.if-s-n.true, c.at_front.ensures)

pub returns-then-x-least : goal.returns-then-x-least
unfolding short_form named_of
returns-then-x-least c = let h = rw c.read_le.ensures at c.if-x-least.true in
    rw (le-ltb _ _ c.if-s-n.false, lt-ltb _ _ h, c.at_front-then-x-least.ensures)

pub overflow_cast-result : goal.overflow_cast-result
overflow_cast-result c = let a = c.args in
    record { fits = rw c.read_le.ensures (short_fits a.k a.m a.s.now (omega arith) (λ i. (c.type_inv.s i).fits)) }

pub returns : goal.returns
unfolding short_form named_of
returns c = let a = c.args in
    let h = rw c.read_le.ensures at c.if-x-least.false in
    rw (le-ltb _ _ c.if-s-n.false, le-ltb _ _ h, c.read_le.ensures, c.guid_at-g.ensures, tail_part a.m a.s.now)
