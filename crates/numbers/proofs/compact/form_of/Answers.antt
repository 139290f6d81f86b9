-- `compact::form_of` meets its contract. The invariant: the form of v is k forms more than that of the rest.
-- Assumes nothing.
use mathlib.Core.Path.{◌≡◌, sym, ◌∙◌}
use Prim.Native.Nat.{◌-◌}
use native.Mathlib.Nat.{add-zero}
use native.Mathlib.Omega.{arith}
use Rattle.numbers.specs.Compact.{form_from, form_of}
use Rattle.numbers.proofs.Forms.{form_more, form_no_more}
use Rattle.numbers.proofs.compact.form_of.Goals as goal

pub loop-k-init : goal.loop-k-init
unfolding form_of
loop-k-init c = omega arith

pub loop-k-preserved : goal.loop-k-preserved
loop-k-preserved c = let l = c.loop-k in
    l.invariant ∙ form_more l.k l.rest (omega arith) (omega arith)

pub returns-then-rest-lt128 : goal.returns-then-rest-lt128
returns-then-rest-lt128 c = let l = c.loop-k in
    sym (l.invariant ∙ rw (form_no_more (7 - l.k) l.rest (omega arith)) (add-zero l.k))

pub returns : goal.returns
unfolding form_from
returns c = let l = c.loop-k in
    let e : l.k ≡ 7 = omega arith in
    sym (rw e at l.invariant)
