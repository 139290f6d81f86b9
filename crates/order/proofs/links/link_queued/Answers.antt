-- `links::link_queued` meets its contract. The invariant: those from k on have their links, and of each mark none of them stands before its head.
-- Assumes nothing.
use mathlib.Core.Path.{◌≡◌, sym, ap, subst, ◌∙◌}
use Prim.Native.Nat.{ℕ, suc, ◌+◌, ◌-◌, ◌≤◌, ◌<◌}
use native.Mathlib.Omega.{arith}
use lib.ListN.{get_or, set}
use Rattle.store.specs.Tables.{most_elements, mark_of}
use Rattle.store.specs.declared.element.Element.{Element}
use Rattle.order.specs.Links.{queued_at, queued_from, first_sharing, from_head, head_count, LinkedFrom}
use Rattle.order.proofs.Linking.{row_inside, NoneMarked, link_found, none_marked_start, none_marked_more, linked_more}
use Rattle.order.proofs.links.link_queued.Goals as goal
use Rattle.order.proofs.links.link_queued.Goals.{After-mark_of-mark}

module _ (m : After-mark_of-mark) where
  abbrev k : ℕ
  k = m.loop-k.k - 1

  abbrev y : Element
  y = queued_at m.args.all.rows.now m.args.all.ids.now m.args.queue.now k

  one_more : m.loop-k.k ≡ suc k
  one_more = let h = m.loop-k-test.true in omega arith

  inside : k < m.args.all.count
  inside = let h = m.loop-k-test.true in omega arith

  looked_at : m.element-x.result ≡ y
  looked_at = rw m.row_at.ensures at m.element-x.ensures

  mark_is : m.mark_of-mark.result ≡ mark_of head_count y.serial
  mark_is = m.mark_of-mark.ensures.0 ∙ ap (λ (x : Element). mark_of head_count x.serial) looked_at

  mark_less : mark_of head_count y.serial < head_count
  mark_less = let h = m.mark_of-mark.ensures.1 in let g = mark_is in omega arith

  none_yet : NoneMarked m.args.all.rows.now m.args.all.ids.now m.args.all.count m.args.queue.now m.loop-k.heads head_count (suc k)
  none_yet = subst (NoneMarked m.args.all.rows.now m.args.all.ids.now m.args.all.count m.args.queue.now m.loop-k.heads head_count) one_more m.loop-k.invariant.0

  linked_yet : LinkedFrom m.args.all.rows.now m.args.all.ids.now m.args.all.count m.args.queue.now m.loop-k.links (suc k)
  linked_yet = subst (LinkedFrom m.args.all.rows.now m.args.all.ids.now m.args.all.count m.args.queue.now m.loop-k.links) one_more m.loop-k.invariant.1

pub loop-k-init : goal.loop-k-init
loop-k-init c = let a = c.args in
    (none_marked_start a.all.rows.now a.all.ids.now a.all.count a.queue.now c.requires.0.long a.heads.now head_count c.requires.2, λ j l m. absurd (omega arith))

pub row_at-requires : goal.row_at-requires
row_at-requires c = let q = c.requires.0.long in omega arith

pub element-x-requires : goal.element-x-requires
element-x-requires c = rw c.row_at.ensures (row_inside c.requires.0 (c.loop-k.k - 1) (omega arith))

pub mark_of-mark-requires : goal.mark_of-mark-requires
mark_of-mark-requires c = (omega arith, omega arith)

pub bounds-heads-mark : goal.bounds-heads-mark
bounds-heads-mark c = let m = c.mark_of-mark.ensures.1 in let h = c.loop-k.auto.heads in let g = c.requires.1 in omega arith

pub next_sharing-requires : goal.next_sharing-requires
next_sharing-requires c = let h = (none_yet (goal.at.next_sharing-requires c).After-mark_of-mark (mark_of head_count (y (goal.at.next_sharing-requires c).After-mark_of-mark).serial) (mark_less (goal.at.next_sharing-requires c).After-mark_of-mark)).1 in
    (c.requires.0, rw (c.from_head.ensures, mark_is (goal.at.next_sharing-requires c).After-mark_of-mark) h)

pub bounds-links-k : goal.bounds-links-k
bounds-links-k c = let i = inside (goal.at.bounds-links-k c).After-mark_of-mark in
    let r = c.requires.3 in
    let g = c.loop-k.auto.links in
    omega arith

pub overflow_cast-heads : goal.overflow_cast-heads
overflow_cast-heads c = let i = inside (goal.at.overflow_cast-heads c).After-mark_of-mark in
    let f : c.args.all.count ≤ most_elements = c.requires.0.few in
    omega arith

pub bounds-heads-mark-in-loop-k : goal.bounds-heads-mark-in-loop-k
bounds-heads-mark-in-loop-k c = let m = c.mark_of-mark.ensures.1 in let h = c.loop-k.auto.heads in let g = c.requires.1 in omega arith

pub loop-k-preserved : goal.loop-k-preserved
loop-k-preserved c = let a = c.args in
    let i = inside (goal.at.loop-k-preserved c).After-mark_of-mark in
    let r = c.requires.3 in
    let g = c.loop-k.auto.links in
    let found = link_found a.all.rows.now a.all.ids.now a.all.count a.queue.now c.requires.0.long c.loop-k.heads head_count (suc (k (goal.at.loop-k-preserved c).After-mark_of-mark)) (y (goal.at.loop-k-preserved c).After-mark_of-mark) (mark_less (goal.at.loop-k-preserved c).After-mark_of-mark) (none_yet (goal.at.loop-k-preserved c).After-mark_of-mark) in
    let begin : c.from_head.result ≡ from_head (get_or c.loop-k.heads (mark_of head_count (y (goal.at.loop-k-preserved c).After-mark_of-mark).serial) 0) a.all.count = c.from_head.ensures ∙ ap (λ (h : ℕ). from_head (get_or c.loop-k.heads h 0) a.all.count) (mark_is (goal.at.loop-k-preserved c).After-mark_of-mark) in
    let link = c.next_sharing.ensures.0
    ∙ ap (λ (x : Element). first_sharing x c.from_head.result (queued_from a.all.rows.now a.all.ids.now a.all.count a.queue.now c.from_head.result)) (looked_at (goal.at.loop-k-preserved c).After-mark_of-mark)
    ∙ ap (λ (f : ℕ). first_sharing (y (goal.at.loop-k-preserved c).After-mark_of-mark) f (queued_from a.all.rows.now a.all.ids.now a.all.count a.queue.now f)) begin in (
      subst (λ (h : ℕ). NoneMarked a.all.rows.now a.all.ids.now a.all.count a.queue.now (set c.loop-k.heads h (k (goal.at.loop-k-preserved c).After-mark_of-mark + 1)) head_count (k (goal.at.loop-k-preserved c).After-mark_of-mark)) (sym (mark_is (goal.at.loop-k-preserved c).After-mark_of-mark))
          (none_marked_more a.all.rows.now a.all.ids.now a.all.count a.queue.now c.requires.0.long c.loop-k.heads head_count (k (goal.at.loop-k-preserved c).After-mark_of-mark) i (c.loop-k.auto.heads ∙ c.requires.1) (mark_less (goal.at.loop-k-preserved c).After-mark_of-mark) (none_yet (goal.at.loop-k-preserved c).After-mark_of-mark)),
      linked_more a.all.rows.now a.all.ids.now a.all.count a.queue.now c.requires.0.long c.loop-k.links (k (goal.at.loop-k-preserved c).After-mark_of-mark) _ i (omega arith) (link ∙ sym found) (linked_yet (goal.at.loop-k-preserved c).After-mark_of-mark),
    )

pub returns : goal.returns
returns c = let a = c.args in
    let e : c.loop-k.k ≡ 0 = omega arith in
    subst (LinkedFrom a.all.rows.now a.all.ids.now a.all.count a.queue.now c.loop-k.links) e c.loop-k.invariant.1
