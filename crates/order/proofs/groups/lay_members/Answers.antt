-- `groups::lay_members` meets its contract. The invariant is `Laying`.
-- Assumes nothing.
use Prim.Native.Nat.{◌+◌, ◌*◌, ◌^◌, ◌≤◌, ◌<◌}
use native.Mathlib.Omega.{arith}
use lib.ListN.{length, get_or}
use Rattle.store.specs.Tables.{most_elements}
use Rattle.order.specs.Links.{queued_at, group_from}
use Rattle.order.proofs.Linking.{row_inside}
use Rattle.order.proofs.Laying.{laying_start, laying_more, laying_end, count_now, done_few, link_is, next_from}
use Rattle.order.proofs.groups.lay_members.Goals as goal
use Rattle.order.proofs.groups.lay_members.Goals.{In-loop-p}

module _ (c : In-loop-p) where
  turn_room : c.loop-p.end < length c.loop-p.laid
  turn_room =
      let a = c.args in
      let e = count_now a.all.rows.now a.all.ids.now a.all.count a.queue.now a.links.now a.flags.now a.k a.passed.now a.at a.laid.now c.requires c.loop-p.invariant c.loop-p-test.true in
      let r = c.requires.room in
      let g = c.loop-p.invariant.long in
      omega arith

  turn_row : get_or c.args.queue.now c.loop-p.p 0 < c.args.all.count
  turn_row = row_inside c.requires.queued c.loop-p.p c.loop-p-test.true

  turn_short : (queued_at c.args.all.rows.now c.args.all.ids.now c.args.queue.now c.loop-p.p).length ≤ 2 ^ 24
  turn_short = c.requires.short _ turn_row

  turn_small : c.loop-p.stored ≤ 2 ^ 24 * most_elements
  turn_small =
      let a = c.args in
      let d = done_few a.all.rows.now a.all.ids.now a.all.count a.queue.now a.links.now a.flags.now a.k a.passed.now a.at a.laid.now c.requires c.loop-p.invariant c.loop-p-test.true in
      let f : a.all.count ≤ most_elements = c.requires.queued.few in
      let m = c.loop-p.invariant.small in
      omega arith

pub row_at-earliest-requires : goal.row_at-earliest-requires
row_at-earliest-requires c = let q = c.requires.queued.long in
    let i = c.requires.inside in
    omega arith

pub loop-p-init : goal.loop-p-init
loop-p-init c = let a = c.args in
    rw c.row_at-earliest.ensures
    (laying_start a.all.rows.now a.all.ids.now a.all.count a.queue.now a.links.now a.flags.now a.k a.passed.now a.at a.laid.now c.requires)

pub row_at-i-requires : goal.row_at-i-requires
row_at-i-requires c = let q = c.requires.queued.long in omega arith

pub element-x-requires : goal.element-x-requires
element-x-requires c = rw c.row_at-i.ensures (row_inside c.requires.queued c.loop-p.p c.loop-p-test.true)

pub overflow_cast-laid : goal.overflow_cast-laid
overflow_cast-laid c = let r = turn_row (goal.at.overflow_cast-laid c).In-loop-p in let f : c.args.all.count ≤ most_elements = c.requires.queued.few in rw c.row_at-i.ensures (omega arith)

pub bounds-laid-end : goal.bounds-laid-end
bounds-laid-end c = turn_room (goal.at.bounds-laid-end c).In-loop-p

pub overflow_add-end : goal.overflow_add-end
overflow_add-end c = let a = c.args in
    let e = count_now a.all.rows.now a.all.ids.now a.all.count a.queue.now a.links.now a.flags.now a.k a.passed.now a.at a.laid.now c.requires c.loop-p.invariant c.loop-p-test.true in
    let f : a.at + length (group_from a.all.rows.now a.all.ids.now a.all.count a.queue.now a.k) ≤ most_elements = c.requires.few in
    omega arith

pub overflow_add-stored : goal.overflow_add-stored
overflow_add-stored c = let short = turn_short (goal.at.overflow_add-stored c).In-loop-p in
    let small = turn_small (goal.at.overflow_add-stored c).In-loop-p in
    let e = rw c.row_at-i.ensures at c.element-x.ensures in
    rw e (omega arith)

pub bounds-flags-i : goal.bounds-flags-i
bounds-flags-i c = let r = turn_row (goal.at.bounds-flags-i c).In-loop-p in
    let f = c.requires.flags_long in
    rw c.row_at-i.ensures (omega arith)

pub bounds-passed-p : goal.bounds-passed-p
bounds-passed-p c = let l = c.loop-p.invariant.passed_long in
    let r = c.requires.passed_long in
    omega arith

pub offset_bounds-links-p : goal.offset_bounds-links-p
offset_bounds-links-p c = let h = c.loop-p-test.true in
    let f : c.args.all.count ≤ most_elements = c.requires.queued.few in
    omega arith

pub bounds-links-p : goal.bounds-links-p
bounds-links-p c = let r = c.requires.links_long in
    omega arith

pub loop-p-smaller : goal.loop-p-smaller
loop-p-smaller c = let a = c.args in
    let e = link_is a.all.rows.now a.all.ids.now a.all.count a.queue.now a.links.now a.flags.now a.k a.passed.now a.at a.laid.now c.requires c.loop-p.invariant c.loop-p-test.true in
    let f = next_from a.all.rows.now a.all.ids.now a.all.count a.queue.now a.links.now a.flags.now a.k a.passed.now a.at a.laid.now c.requires c.loop-p.invariant c.loop-p-test.true in
    omega arith

pub loop-p-preserved : goal.loop-p-preserved
loop-p-preserved c = let a = c.args in
    let e = rw c.row_at-i.ensures at c.element-x.ensures in
    let link = link_is a.all.rows.now a.all.ids.now a.all.count a.queue.now a.links.now a.flags.now a.k a.passed.now a.at a.laid.now c.requires c.loop-p.invariant c.loop-p-test.true in
    rw (c.min-earliest.ensures, link, c.row_at-i.ensures, e)
    (laying_more a.all.rows.now a.all.ids.now a.all.count a.queue.now a.links.now a.flags.now a.k a.passed.now a.at a.laid.now c.requires c.loop-p.invariant c.loop-p-test.true (turn_short (goal.at.loop-p-preserved c).In-loop-p))

pub shape_of-passed : goal.shape_of-passed
shape_of-passed c = c.loop-p.invariant.passed_long

pub shape_of-laid : goal.shape_of-laid
shape_of-laid c = c.loop-p.invariant.long

pub returns : goal.returns
returns c = let a = c.args in
    laying_end a.all.rows.now a.all.ids.now a.all.count a.queue.now a.links.now a.flags.now a.k a.passed.now a.at a.laid.now c.requires c.loop-p.invariant c.loop-p-test.false
