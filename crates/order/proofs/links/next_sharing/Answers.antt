-- `links::next_sharing` meets its contract. The invariant: of those that were passed none shares the serial number.
-- Assumes nothing.
use mathlib.Core.Path.{◌≡◌, sym, ap, ◌∙◌}
use mathlib.Core.Bool.{Bool, true, false}
use native.Mathlib.Omega.{arith}
use native.Mathlib.Numerals.{add-one}
use Rattle.store.specs.declared.element.Element.{Element}
use Rattle.order.specs.Groups.{sharing}
use Rattle.order.specs.Links.{queued_at}
use Rattle.order.proofs.Linking.{row_inside, first_passes, first_stops, first_ends}
use Rattle.order.proofs.links.next_sharing.Goals as goal
use Rattle.order.proofs.links.next_sharing.Goals.{After-same_key}

pub row_at-requires : goal.row_at-requires
row_at-requires c = let q = c.requires.0.long in omega arith

pub element-y-requires : goal.element-y-requires
element-y-requires c = rw c.row_at.ensures (row_inside c.requires.0 c.loop-k.k c.loop-k-test.true)

-- the element that was looked at
looked_at : (c : After-same_key) → c.element-y.result ≡ queued_at c.args.all.rows.now c.args.all.ids.now c.args.queue.now c.loop-k.k
looked_at c = rw c.row_at.ensures at c.element-y.ensures

shares_is : (c : After-same_key) (b : Bool) → c.same_key.result ≡ b
    → sharing c.args.x (queued_at c.args.all.rows.now c.args.all.ids.now c.args.queue.now c.loop-k.k) ≡ b
shares_is c b e = ap (λ (y : Element). sharing c.args.x y) (sym (looked_at c)) ∙ sym c.same_key.ensures ∙ e

pub returns-then-same_key : goal.returns-then-same_key
returns-then-same_key c = let a = c.args in
    let h = shares_is (goal.at.returns-then-same_key c).After-same_key true c.if-same_key.true in
    (sym (c.loop-k.invariant ∙ first_stops a.all.rows.now a.all.ids.now a.all.count a.queue.now c.requires.0.long a.x c.loop-k.k (omega arith) h), omega arith)

pub loop-k-preserved : goal.loop-k-preserved
loop-k-preserved c = let a = c.args in
    let h = shares_is (goal.at.loop-k-preserved c).After-same_key false c.if-same_key.false in
    rw (add-one c.loop-k.k) (c.loop-k.invariant ∙ first_passes a.all.rows.now a.all.ids.now a.all.count a.queue.now c.requires.0.long a.x c.loop-k.k (omega arith) h)

pub returns : goal.returns
returns c = let a = c.args in
    let e : c.loop-k.k ≡ a.all.count = omega arith in
    (sym (c.loop-k.invariant ∙ first_ends a.all.rows.now a.all.ids.now a.all.count a.queue.now c.requires.0.long a.x c.loop-k.k (omega arith) ∙ e), omega arith)
