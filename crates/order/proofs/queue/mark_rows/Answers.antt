-- `queue::mark_rows` meets its contract. The invariant: the rows at the positions that were passed are marked.
-- Assumes nothing.
use mathlib.Core.Path.{refl, ap, ◌∙◌}
use mathlib.Core.List.{List}
use Prim.Native.Nat.{ℕ, ◌<◌}
use native.Mathlib.Omega.{arith}
use lib.ListN.{length, take, get_or, set}
use lib.Seq.{take_all}
use Rattle.order.specs.Queue.{marking}
use Rattle.order.proofs.Queueing.{each_get}
use Rattle.order.proofs.Marking.{marking_more}
use Rattle.order.proofs.queue.mark_rows.Goals as goal

pub loop-i-init : goal.loop-i-init
unfolding marking
loop-i-init c = refl

pub bounds-flags-i : goal.bounds-flags-i
bounds-flags-i c = let a = c.args in
    let inside : get_or (take a.n a.queue.now) c.loop-i.i-index 0 < length a.flags.now =
    each_get (λ (i : ℕ). i < length a.flags.now) (take a.n a.queue.now) c.loop-i.i-index c.loop-i-test.true c.requires.1 in
    omega arith

pub loop-i-preserved : goal.loop-i-preserved
loop-i-preserved c = let places = take c.args.n c.args.queue.now in
    ap (λ (t : List ℕ). set t (get_or places c.loop-i.i-index 0) 1) c.loop-i.invariant ∙ marking_more places c.args.flags.now c.loop-i.i-index c.loop-i-test.true

pub returns : goal.returns
returns c = let places = take c.args.n c.args.queue.now in
    c.loop-i.invariant ∙ ap (λ (l : List ℕ). marking l c.args.flags.now) (take_all c.loop-i.i-index places c.loop-i-test.false)
