-- `nesting::met_at` meets its contract: a short header by its two bytes, any other by itself.
-- Assumes nothing.
use mathlib.Core.Path.{sym, ◌∙◌}
use native.Mathlib.Omega.{arith}
use Rattle.objects.proofs.Short.{short_room}
use Rattle.objects.proofs.Next.{met_by_header, met_ended, met_other_end, met_compound, met_cut, met_wide, met_plain}
use Rattle.objects.proofs.nesting.met_at.Goals as goal

pub overflow_add-result : goal.overflow_add-result
overflow_add-result c = let w = short_room _ _ _ 0 (sym c.short_number-w.ensures) (let h = c.if-w-eq0.true in omega arith) (omega arith) in
    omega arith

pub returns-then-n-eq0 : goal.returns-then-n-eq0
returns-then-n-eq0 c = let z = c.if-n-eq0.true in
    sym (met_plain _ _ _ _ (sym c.short_number-w.ensures) c.if-w-eq0.true _ (omega arith) (omega arith) (omega arith))

pub overflow_sub-left : goal.overflow_sub-left
overflow_sub-left c = let w = short_room _ _ _ 0 (sym c.short_number-w.ensures) (let h = c.if-w-eq0.true in omega arith) (omega arith) in
    omega arith

pub overflow_sub-left-then-w-eq0 : goal.overflow_sub-left-then-w-eq0
overflow_sub-left-then-w-eq0 c = let w = short_room _ _ _ 0 (sym c.short_number-w.ensures) (let h = c.if-w-eq0.true in omega arith) (omega arith) in
    omega arith

pub returns-then-left-n : goal.returns-then-left-n
returns-then-left-n c = sym (met_cut _ _ _ _ (sym c.short_number-w.ensures) c.if-w-eq0.true c.if-left-n.true)

pub returns-then-n-gt127 : goal.returns-then-n-gt127
returns-then-n-gt127 c = sym (met_wide _ _ _ _ (sym c.short_number-w.ensures) c.if-w-eq0.true c.if-left-n.false c.if-n-gt127.true)

pub returns-then-w-eq0 : goal.returns-then-w-eq0
returns-then-w-eq0 c = sym (met_plain _ _ _ _ (sym c.short_number-w.ensures) c.if-w-eq0.true _ c.if-left-n.false c.if-n-gt127.false (omega arith))

pub bounds-s-at : goal.bounds-s-at
bounds-s-at c = let w = short_room _ _ _ 1 (sym c.short_number-w.ensures) c.if-w-eq1.true (omega arith) in
    omega arith

pub overflow_cast-s : goal.overflow_cast-s
overflow_cast-s c = omega (arith, c.type_inv.s c.args.at)

pub overflow_add-result-then-s-at : goal.overflow_add-result-then-s-at
overflow_add-result-then-s-at c = let w = short_room _ _ _ 1 (sym c.short_number-w.ensures) c.if-w-eq1.true (omega arith) in
    omega arith

pub returns-then-s-at : goal.returns-then-s-at
returns-then-s-at c = sym (met_ended _ _ _ _ (sym c.short_number-w.ensures) c.if-w-eq1.true c.if-s-at.true)

pub returns-then-w-eq1 : goal.returns-then-w-eq1
returns-then-w-eq1 c = sym (met_other_end _ _ _ _ (sym c.short_number-w.ensures) c.if-w-eq1.true c.if-s-at.false)

pub returns-then-w-eq4 : goal.returns-then-w-eq4
returns-then-w-eq4 c = sym (met_compound _ _ _ _ (sym c.short_number-w.ensures) c.if-w-eq4.true)

pub returns : goal.returns
returns c = c.met_by_header.ensures ∙ sym (met_by_header _ _ _ _ (sym c.short_number-w.ensures) c.if-w-eq0.false)
