-- `nesting::pass_object` meets its contract: what is refused is read twice, and the two numbers are the fault.
-- Assumes nothing.
use mathlib.Core.Path.{sym, ap, ◌∙◌}
use native.Mathlib.Omega.{arith}
use Rattle.objects.specs.Results.Passed.{Refused}
use Rattle.objects.proofs.Ahead.{object_ahead}
use Rattle.objects.proofs.Told.{told_goes, told_both, object_behind}
use Rattle.objects.proofs.nesting.pass_object.Goals as goal

pub returns-then-s-at : goal.returns-then-s-at
returns-then-s-at c = ap Refused c.at_place.ensures ∙ sym (object_behind _ _ _ _ c.if-s-at.true)

pub returns-then-e-lt-REFUSED : goal.returns-then-e-lt-REFUSED
returns-then-e-lt-REFUSED c = sym (told_goes _ _ _ c.read_object-e.ensures c.if-e-lt-REFUSED.true)

pub overflow_sub-place : goal.overflow_sub-place
overflow_sub-place c = let l = c.well_formed.0.1 in
    (told_both _ _ _ _ _ (omega arith) (object_ahead _ _ _ _) c.read_object-e.ensures c.read_object-place.ensures c.if-e-lt-REFUSED.false).1

pub overflow_cast-e : goal.overflow_cast-e
overflow_cast-e c = let l = c.well_formed.0.1 in
    let w = (told_both _ _ _ _ _ (omega arith) (object_ahead _ _ _ _) c.read_object-e.ensures c.read_object-place.ensures c.if-e-lt-REFUSED.false).0 in
    omega arith

pub returns : goal.returns
returns c = let l = c.well_formed.0.1 in
    let w = (told_both _ _ _ _ _ (omega arith) (object_ahead _ _ _ _) c.read_object-e.ensures c.read_object-place.ensures c.if-e-lt-REFUSED.false).2 in
    ap Refused c.at_place-2.ensures ∙ sym w
