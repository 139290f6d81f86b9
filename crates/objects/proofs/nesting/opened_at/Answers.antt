-- `nesting::opened_at` meets its contract.
-- Assumes nothing.
use mathlib.Core.Path.{sym}
use native.Mathlib.Omega.{arith}
use Rattle.objects.proofs.Short.{short_room}
use Rattle.objects.proofs.Next.{opened_other, opened_over, opened_cut, opened_wide, opened_there}
use Rattle.objects.proofs.nesting.opened_at.Goals as goal

pub returns-then-w-ne4 : goal.returns-then-w-ne4
returns-then-w-ne4 c = sym (opened_other _ _ _ _ (sym c.requires) c.if-w-ne4.true)

pub returns-then-depth-eq0 : goal.returns-then-depth-eq0
returns-then-depth-eq0 c = sym (opened_over _ _ _ _ (sym c.requires) c.if-w-ne4.false c.if-depth-eq0.true)

pub overflow_add-result : goal.overflow_add-result
overflow_add-result c = let w = short_room _ _ _ 0 (sym c.requires) (let h = c.if-w-ne4.false in omega arith) (omega arith) in
    omega arith

pub returns-then-n-eq0 : goal.returns-then-n-eq0
returns-then-n-eq0 c = let z = c.if-n-eq0.true in
    sym (opened_there _ _ _ _ (sym c.requires) c.if-w-ne4.false c.if-depth-eq0.false _ (omega arith) (omega arith) (omega arith))

pub overflow_sub-left : goal.overflow_sub-left
overflow_sub-left c = let w = short_room _ _ _ 0 (sym c.requires) (let h = c.if-w-ne4.false in omega arith) (omega arith) in
    omega arith

pub overflow_sub-left-2 : goal.overflow_sub-left-2
overflow_sub-left-2 c = let w = short_room _ _ _ 0 (sym c.requires) (let h = c.if-w-ne4.false in omega arith) (omega arith) in
    omega arith

pub returns-then-left-n : goal.returns-then-left-n
returns-then-left-n c = sym (opened_cut _ _ _ _ (sym c.requires) c.if-w-ne4.false c.if-depth-eq0.false c.if-left-n.true)

pub returns-then-n-gt127 : goal.returns-then-n-gt127
returns-then-n-gt127 c = sym (opened_wide _ _ _ _ (sym c.requires) c.if-w-ne4.false c.if-depth-eq0.false c.if-left-n.false c.if-n-gt127.true)

pub returns : goal.returns
returns c = sym (opened_there _ _ _ _ (sym c.requires) c.if-w-ne4.false c.if-depth-eq0.false _ c.if-left-n.false c.if-n-gt127.false (omega arith))
