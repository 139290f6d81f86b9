-- `ranges::is_before` meets its contract.
-- Assumes nothing.
use mathlib.Core.Path.{sym, ◌∙◌}
use native.Mathlib.Omega.{arith}
use borrow.Author.Tests.{lt-ltb, le-ltb, eq-eqb}
use Rattle.laws.proofs.Cases.{by_lt}
use Rattle.talk.proofs.Order.{before_upper, after_upper, before_lower, after_lower, before_numbers, touching_not_before}
use Rattle.ranges.proofs.is_before.Goals as goal

pub returns-then-a-b : goal.returns-then-a-b
returns-then-a-b c = let x = c.args.a in
    let y = c.args.b in
    by_lt x.upper y.upper (λ h. lt-ltb _ _ h ∙ sym (before_upper x y h)) (λ h. le-ltb _ _ h ∙ sym (after_upper x y (omega arith)))

pub returns-then-a-b-2 : goal.returns-then-a-b-2
returns-then-a-b-2 c = let x = c.args.a in
    let y = c.args.b in
    by_lt x.lower y.lower (λ h. lt-ltb _ _ h ∙ sym (before_lower x y (omega arith) h)) (λ h. le-ltb _ _ h ∙ sym (after_lower x y (omega arith) (omega arith)))

pub returns-then-a-ne-LAST : goal.returns-then-a-ne-LAST
returns-then-a-ne-LAST c = sym (before_numbers _ _ (omega arith) (omega arith))

pub returns-else-a-ne-LAST : goal.returns-else-a-ne-LAST
returns-else-a-ne-LAST c = simp (eq-eqb _ _ c.if-a-ne-LAST.false) (sym (touching_not_before _ _ (omega arith) (omega arith) (omega arith)))
