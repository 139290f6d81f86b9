-- `wanted::clear_known` meets its contract. The invariant: the flags that are told are those set from here on.
-- Assumes nothing.
use mathlib.Core.Path.{sym, ◌∙◌}
use native.Mathlib.Omega.{arith}
use Rattle.request.proofs.Setting.{setting_start, setting_matched, setting_passed, setting_end}
use Rattle.pages.proofs.wanted.clear_known.Goals as goal
use Rattle.pages.proofs.wanted.clear_known.Goals.{then-knows_element, else-knows_element}

pub loop-i-init : goal.loop-i-init
loop-i-init c = setting_start _ _ _ _ _ _ (omega arith)

pub loop-i-preserved : goal.loop-i-preserved
loop-i-preserved c = let e = rw c.element.ensures at (sym c.knows_element.ensures) in
    elim c.if-knows_element.branch [
      | then-knows_element w ↦ rw w.flags-is (setting_matched c.loop-i.invariant c.loop-i-test.true (e ∙ w.if-knows_element.true))
      | else-knows_element w ↦ rw w.flags-is (setting_passed c.loop-i.invariant c.loop-i-test.true (e ∙ w.if-knows_element.false))
    ]

pub returns : goal.returns
returns c = setting_end c.loop-i.invariant (omega arith)
