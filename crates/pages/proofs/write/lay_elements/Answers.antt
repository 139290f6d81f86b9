-- `write::lay_elements` meets its contract. The invariant: with the elements still to come laid at p, out is what it is to be.
-- Assumes nothing.
use mathlib.Core.Path.{◌≡◌}
use native.Mathlib.Omega.{arith}
use lib.ListN.{get_or}
use Rattle.laws.specs.Placed.{Lays}
use Rattle.store.specs.Tables.{element_in_row}
use Rattle.store.specs.Held.{stored_bytes}
use Rattle.pages.proofs.Laying.{laying_fits, laying_taken, laying_end}
use Rattle.pages.proofs.write.lay_elements.Goals as goal

pub lay_part-p-requires : goal.lay_part-p-requires
unfolding stored_bytes
lay_part-p-requires c = let a = c.args in
    let e : c.part.result.now ≡ stored_bytes a.store.now (element_in_row a.rows.now a.ids.now (get_or a.queue.now c.loop-i.i 0)) = rw (c.element_in_row-x.ensures, c.row_at.ensures) at c.part.ensures in
    rw e (laying_fits c.requires.0.long c.loop-i.invariant c.loop-i-test.true)

pub loop-i-preserved : goal.loop-i-preserved
unfolding stored_bytes
loop-i-preserved c = let a = c.args in
    let w = stored_bytes a.store.now (element_in_row a.rows.now a.ids.now (get_or a.queue.now c.loop-i.i 0)) in
    let e : c.part.result.now ≡ w = rw (c.element_in_row-x.ensures, c.row_at.ensures) at c.part.ensures in
    let f : Lays c.loop-i.p w c.loop-i.out c.lay_part-p.result c.lay_part-p.new.out = rw e at c.lay_part-p.ensures in
    laying_taken c.requires.0.long c.loop-i.invariant c.lay_part-p.result c.lay_part-p.new.out c.loop-i-test.true (omega arith) f

pub returns : goal.returns
returns c = laying_end c.requires.0.long c.loop-i.invariant (omega arith)
