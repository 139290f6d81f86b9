-- `choice::choose` meets its contract. The invariant: what is told is what the filters still to come set.
-- Assumes nothing.
use mathlib.Core.Path.{refl, ◌∙◌}
use native.Mathlib.Omega.{arith}
use lib.ListN.{get_or-replicate}
use Rattle.store.specs.Elements.{elements_of}
use Rattle.request.specs.Index.{index_marks}
use Rattle.request.proofs.Putting.{putting_start, putting_more, putting_end, putting_all}
use Rattle.request.proofs.choice.choose.Goals as goal

pub returns-then-count-eq0 : goal.returns-then-count-eq0
returns-then-count-eq0 c = let a = c.args in
    putting_end (putting_start a.s.now (elements_of a.all) a.count _ a.c) (omega arith)
    ∙ rw c.set_matched.ensures (putting_all _ a.all.rows.now a.all.ids.now a.all.count a.flags.now (omega arith))

pub index_ids-requires : goal.index_ids-requires
index_ids-requires c = (refl, refl, λ mark low. get_or-replicate index_marks mark 0 0 low)

pub loop-preserved : goal.loop-preserved
loop-preserved c = rw (c.put_filter-at.ensures.0, c.put_filter-at.ensures.1) (putting_more c.loop.invariant c.loop-test.true)

pub returns : goal.returns
returns c = let a = c.args in
    putting_end c.loop.invariant (omega arith)
    ∙ rw c.set_matched.ensures (putting_all _ a.all.rows.now a.all.ids.now a.all.count a.flags.now (omega arith))
