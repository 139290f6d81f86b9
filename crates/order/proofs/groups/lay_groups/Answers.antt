-- `groups::lay_groups` meets its contract. The invariant is `GroupsLaying`.
-- Assumes nothing.
use Prim.Native.Nat.{◌≤◌, ◌<◌}
use native.Mathlib.Omega.{arith}
use lib.ListN.{set}
use Rattle.std.proofs.lemmas.Bool.{not-true, not-false}
use Rattle.store.specs.Tables.{most_elements}
use Rattle.order.proofs.GroupsLaying.{first_end, groups_start, groups_passed, groups_room, to_lay_lem, groups_left, groups_laid, groups_end}
use Rattle.order.proofs.groups.lay_groups.Goals as goal
use Rattle.order.proofs.groups.lay_groups.Goals.{Else-passed-k-ne0, Else-not-g}

-- the first of a group
module _ (e : Else-passed-k-ne0) where
  first_inside : e.loop-k.k < e.args.all.count
  first_inside = e.loop-k-test.true

  room_left : e.loop-k.w < e.args.all.count
  room_left = let a = e.args in groups_room a.all.rows.now a.all.ids.now a.all.count a.queue.now a.links.now a.flags.now a.passed.now a.sums.now a.earliest.now a.laid.now (set a.ends.now 0 0) (first_end e.requires).0 e.loop-k.invariant first_inside e.if-passed-k-ne0.false

pub bounds-ends-0 : goal.bounds-ends-0
bounds-ends-0 c = let r = c.requires.ends_room in omega arith

pub loop-k-init : goal.loop-k-init
loop-k-init c = let a = c.args in
    let t = first_end c.requires in
    groups_start a.all.rows.now a.all.ids.now a.all.count a.queue.now a.links.now a.flags.now a.passed.now a.sums.now a.earliest.now a.laid.now (set a.ends.now 0 0) t.0 t.1

pub bounds-passed-k : goal.bounds-passed-k
bounds-passed-k c = let r = c.requires.passed_long in let e = c.loop-k.invariant.passed_long in omega arith

pub loop-k-preserved-then-passed-k-ne0 : goal.loop-k-preserved-then-passed-k-ne0
loop-k-preserved-then-passed-k-ne0 c = let a = c.args in
    groups_passed a.all.rows.now a.all.ids.now a.all.count a.queue.now a.links.now a.flags.now a.passed.now a.sums.now a.earliest.now a.laid.now (set a.ends.now 0 0) (first_end c.requires).0 c.loop-k.invariant c.loop-k-test.true c.if-passed-k-ne0.true

pub lay_members-g-requires : goal.lay_members-g-requires
lay_members-g-requires c = let a = c.args in
    to_lay_lem a.all.rows.now a.all.ids.now a.all.count a.queue.now a.links.now a.flags.now a.passed.now a.sums.now a.earliest.now a.laid.now (set a.ends.now 0 0) (first_end c.requires).0 c.loop-k.invariant (first_inside (goal.at.lay_members-g-requires c).Else-passed-k-ne0) c.if-passed-k-ne0.false

pub loop-k-preserved-then-not-g : goal.loop-k-preserved-then-not-g
loop-k-preserved-then-not-g c = let a = c.args in
    groups_left a.all.rows.now a.all.ids.now a.all.count a.queue.now a.links.now a.flags.now a.passed.now a.sums.now a.earliest.now a.laid.now (set a.ends.now 0 0) (first_end c.requires).0 c.loop-k.invariant (first_inside (goal.at.loop-k-preserved-then-not-g c).Else-passed-k-ne0) c.if-passed-k-ne0.false c.lay_members-g.ensures (not-true _ c.if-not-g.true)

-- ---- one of whose members is chosen
module _ (c : Else-not-g) where
  abbrev few_rows : c.args.all.count ≤ most_elements
  few_rows = (first_end c.requires).0.queued.few

  row_inside : c.lay_members-g.result.earliest < c.args.all.count
  row_inside = c.lay_members-g.ensures.inside

pub offset_bounds-sums-i : goal.offset_bounds-sums-i
offset_bounds-sums-i c = let i = row_inside c in let f : c.args.all.count ≤ most_elements = few_rows c in omega arith

pub bounds-sums-i : goal.bounds-sums-i
bounds-sums-i c = let i = row_inside c in let r = (first_end c.requires).0.sums_room in let e = c.loop-k.invariant.sums_long in omega arith

pub overflow_cast-earliest : goal.overflow_cast-earliest
overflow_cast-earliest c = let i = row_inside c in let f : c.args.all.count ≤ most_elements = few_rows c in omega arith

pub bounds-earliest-w : goal.bounds-earliest-w
bounds-earliest-w c = let w = room_left (goal.at.bounds-earliest-w c).Else-passed-k-ne0 in let r = (first_end c.requires).0.earliest_room in let e = c.loop-k.invariant.earliest_long in omega arith

pub overflow_add-w : goal.overflow_add-w
overflow_add-w c = let w = room_left (goal.at.overflow_add-w c).Else-passed-k-ne0 in let f : c.args.all.count ≤ most_elements = few_rows c in omega arith

pub offset_bounds-ends-w : goal.offset_bounds-ends-w
offset_bounds-ends-w c = let w = room_left (goal.at.offset_bounds-ends-w c).Else-passed-k-ne0 in let f : c.args.all.count ≤ most_elements = few_rows c in omega arith

pub bounds-ends-w : goal.bounds-ends-w
bounds-ends-w c = let w = room_left (goal.at.bounds-ends-w c).Else-passed-k-ne0 in let r = (first_end c.requires).0.ends_room in let e = c.loop-k.invariant.ends_long in omega arith

pub loop-k-preserved : goal.loop-k-preserved
loop-k-preserved c = let a = c.args in
    groups_laid a.all.rows.now a.all.ids.now a.all.count a.queue.now a.links.now a.flags.now a.passed.now a.sums.now a.earliest.now a.laid.now (set a.ends.now 0 0) (first_end c.requires).0 c.loop-k.invariant (first_inside (goal.at.loop-k-preserved c).Else-passed-k-ne0) c.if-passed-k-ne0.false c.lay_members-g.ensures (not-false _ c.if-not-g.false)

pub returns : goal.returns
returns c = let a = c.args in
    groups_end a.all.rows.now a.all.ids.now a.all.count a.queue.now a.links.now a.flags.now a.passed.now a.sums.now a.earliest.now a.laid.now (set a.ends.now 0 0) (first_end c.requires).0 c.loop-k.invariant c.loop-k-test.false
