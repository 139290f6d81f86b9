-- `rows::put_queued` meets its contract. The invariant: the rows of the first k stand in front of the table's own numbers.
-- Assumes nothing.
use mathlib.Core.Path.{◌≡◌}
use native.Mathlib.Omega.{arith}
use Rattle.order.proofs.Linking.{row_inside}
use Rattle.order.proofs.Putting.{put_none, put_next}
use Rattle.order.proofs.rows.put_queued.Goals as goal

pub loop-k-init : goal.loop-k-init
loop-k-init c = let a = c.args in
    put_none a.all.rows.now a.all.ids.now a.queue.now a.t.now

pub row_at-i-requires : goal.row_at-i-requires
row_at-i-requires c = let long = c.requires.0.long in
    omega arith

pub element-requires : goal.element-requires
element-requires c = rw c.row_at-i.ensures (row_inside c.requires.0 c.loop-k.k c.loop-k-test.true)

pub loop-k-preserved : goal.loop-k-preserved
loop-k-preserved c = let a = c.args in
    let e = rw c.row_at-i.ensures at c.element.ensures in
    put_next a.all.rows.now a.all.ids.now a.queue.now a.t.now c.loop-k.t c.put_ranked.new.t c.loop-k.k c.element.result (omega arith) c.loop-k.invariant e c.put_ranked.ensures

pub returns : goal.returns
returns c = let e : c.loop-k.k ≡ c.args.all.count = omega arith in
    rw e at c.loop-k.invariant
