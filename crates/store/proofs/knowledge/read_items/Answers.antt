-- `knowledge::read_items` meets its contract.
-- Assumes nothing.
use mathlib.Core.Path.{refl, sym, ◌∙◌}
use native.Mathlib.Omega.{arith}
use Rattle.store.proofs.Uniting.{uniting_end, uniting_over, uniting_long, uniting_more}
use Rattle.store.proofs.knowledge.read_items.Goals as goal

pub loop-last-init : goal.loop-last-init
loop-last-init c = (refl, record { room = c.requires.0; normal = c.requires.1; rest = refl })

pub shape_of-table-then-k-eq0 : goal.shape_of-table-then-k-eq0
shape_of-table-then-k-eq0 c = c.loop-last.invariant.0

pub returns-then-k-eq0 : goal.returns-then-k-eq0
returns-then-k-eq0 c = let e = sym c.item_next.ensures ∙ c.loop-last-test.true in
    uniting_over _ c.loop-last.invariant.1 e c.if-k-eq0.true _ refl refl (c.start-last.ensures ∙ rw c.item_kind.ensures)

pub unite-requires : goal.unite-requires
unite-requires c = let u = c.loop-last.invariant.1.room in
    (omega arith, c.loop-last.invariant.1.normal)

pub loop-last-preserved : goal.loop-last-preserved
loop-last-preserved c = let e = sym c.item_next.ensures ∙ c.loop-last-test.true in
    let m = uniting_more _ c.loop-last.invariant.1 e c.if-k-eq0.false in
    let f = uniting_long _ c.loop-last.invariant.1 c.if-k-eq0.false ∙ c.loop-last.invariant.0 in
    let i = c.unite.ensures in
    rw (c.on.ensures, i.0, i.1, c.read_item-item.ensures) (f, m)

pub shape_of-table : goal.shape_of-table
shape_of-table c = c.loop-last.invariant.0

pub returns : goal.returns
returns c = let e = sym c.item_next.ensures ∙ c.loop-last-test.false in
    uniting_end _ c.loop-last.invariant.1 e _ refl refl c.end.ensures
