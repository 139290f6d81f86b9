-- `choice::set_matched` meets its contract. The invariant: the flags that are told are those set from here on.
-- Assumes nothing.
use mathlib.Core.Path.{sym, ◌∙◌}
use native.Mathlib.Omega.{arith}
use Rattle.request.proofs.Setting.{setting_matched, setting_passed, setting_end}
use Rattle.request.proofs.choice.set_matched.Goals as goal
use Rattle.request.proofs.choice.set_matched.Goals.{then-matches, else-matches}

pub loop-i-preserved : goal.loop-i-preserved
loop-i-preserved c = let e = rw c.element.ensures at (sym c.matches.ensures) in
    elim c.if-matches.branch [
      | then-matches w ↦ rw w.flags-is (setting_matched c.loop-i.invariant c.loop-i-test.true (e ∙ w.if-matches.true))
      | else-matches w ↦ rw w.flags-is (setting_passed c.loop-i.invariant c.loop-i-test.true (e ∙ w.if-matches.false))
    ]

pub returns : goal.returns
returns c = setting_end c.loop-i.invariant (omega arith)
