-- `keep::count` meets its contract.
-- Assumes nothing.
use mathlib.Core.Path.{◌≡◌, ◌∙◌}
use Prim.Native.Nat.{ℕ}
use native.Mathlib.Omega.{arith}
use lib.ListN.{length, length-replicate}
use Rattle.book.specs.Keep.{kept_elements}
use Rattle.book.proofs.Keeping.{planned_count, planned_book, plan_taken, plan_made}
use Rattle.book.proofs.Outcomes.{refused_gives, counted_over, counted_fits}
use Rattle.book.proofs.keep.count.Goals as goal

pub plan_elements-planned-requires : goal.plan_elements-planned-requires
plan_elements-planned-requires c = let h = c.requires.0 in
    let g = c.requires.1 in
    let i = h.most in
    let j = g.most in
    (h.stand.id_room, g.stand.id_room, i, j, omega (arith, length-replicate {A = ℕ} 512 0))

pub returns-then-planned-gt-MOST_ELEMENTS : goal.returns-then-planned-gt-MOST_ELEMENTS
returns-then-planned-gt-MOST_ELEMENTS c = let a = c.args in
    let new = kept_elements a.book.bytes.now a.answer.bytes.now in
    let r = c.plan_elements-planned.ensures in
    let e : c.plan_elements-planned.result ≡ length new = r.0 ∙ planned_count a.book.bytes.now a.book.elements.rows.now a.book.elements.ids.now a.answer.bytes.now a.answer.elements.rows.now a.answer.elements.ids.now a.book.elements.count a.answer.elements.count c.requires.0 c.requires.1 in
    rw (counted_over new (length a.newbook.now) _ e c.if-planned-gt-MOST_ELEMENTS.true, c.at_place.ensures) (refused_gives _ a.newbook.now)

pub size-requires : goal.size-requires
size-requires c = let a = c.args in
    let new = kept_elements a.book.bytes.now a.answer.bytes.now in
    let r = c.plan_elements-planned.ensures in
    let e : c.plan_elements-planned.result ≡ length new = r.0 ∙ planned_count a.book.bytes.now a.book.elements.rows.now a.book.elements.ids.now a.answer.bytes.now a.answer.elements.rows.now a.answer.elements.ids.now a.book.elements.count a.answer.elements.count c.requires.0 c.requires.1 in
    plan_made a.book.bytes.now a.book.elements.rows.now a.book.elements.ids.now a.answer.bytes.now a.answer.elements.rows.now a.answer.elements.ids.now a.book.elements.count a.answer.elements.count c.requires.0 c.requires.1 _ _ c.plan_elements-planned.result r.0 r.1 c.if-planned-gt-MOST_ELEMENTS.false

pub returns : goal.returns
returns c = let a = c.args in
    let new = kept_elements a.book.bytes.now a.answer.bytes.now in
    let r = c.plan_elements-planned.ensures in
    let e : c.plan_elements-planned.result ≡ length new = r.0 ∙ planned_count a.book.bytes.now a.book.elements.rows.now a.book.elements.ids.now a.answer.bytes.now a.answer.elements.rows.now a.answer.elements.ids.now a.book.elements.count a.answer.elements.count c.requires.0 c.requires.1 in
    let t = plan_taken a.book.bytes.now a.book.elements.rows.now a.book.elements.ids.now a.answer.bytes.now a.answer.elements.rows.now a.answer.elements.ids.now a.book.elements.count a.answer.elements.count c.requires.0 c.requires.1 _ _ c.plan_elements-planned.result r.0 r.1 in
    rw (counted_fits new (length a.newbook.now) _ e c.if-planned-gt-MOST_ELEMENTS.false)
    (rw (t, planned_book a.book.bytes.now a.book.elements.rows.now a.book.elements.ids.now a.answer.bytes.now a.answer.elements.rows.now a.answer.elements.ids.now a.book.elements.count a.answer.elements.count c.requires.0 c.requires.1) at c.size.ensures)
