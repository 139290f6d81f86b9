-- `whole::decide_queued` meets its contract: the decision by the queue, or by the rows that are chosen in the store's order.
-- Assumes nothing.
use mathlib.Core.Path.{◌≡◌, sym, ap, subst, ◌∙◌}
use mathlib.Core.Bool.{true}
use mathlib.Core.List.{List, []}
use Prim.Native.Nat.{ℕ, ◌+◌, ◌^◌, ◌≤◌, ◌<◌}
use native.Mathlib.Omega.{arith}
use lib.ListN.{length, get_or}
use Rattle.ranges.specs.RangeTable.{ranges_at}
use Rattle.ranges.proofs.RangeRows.{length_rows}
use Rattle.talk.specs.declared.range.Range.{Range}
use Rattle.store.specs.declared.element.Element.{Element}
use Rattle.order.specs.Groups.{stored_length}
use Rattle.order.specs.Queue.{chosen}
use Rattle.pages.specs.Weighed.{weighed, weighed_in, weighed_rows}
use Rattle.order.proofs.Rearranged.{rearranged_each, rearranged_back}
use Rattle.pages.specs.Tables.{ToDecide, Decides, DecidesPage, takes_all, Gathered}
use Rattle.pages.proofs.AnyOrder.{one_by_one, all_at_once, all_tried}
use Rattle.pages.proofs.Weighing.{chosen_row}
use Rattle.pages.proofs.whole.decide_queued.Goals as goal
use Rattle.pages.proofs.whole.decide_queued.Goals.{After-flagged_rows-all, Start}

-- ---- the places: where the call begins, and where the rows were gathered in the store's order
-- a row whose flag is not 0 is not long, as it is queued
flagged_light : (s : Start) (i : ℕ) → i < s.args.weights.all.count → 0 < get_or s.args.flags.now i 0
    → (weighed s.args.weights.all.rows.now s.args.weights.all.ids.now s.args.weights.lengths.now s.args.weights.column i).length ≤ 2 ^ 32
flagged_light s i h z =
    let a = s.args in
    let e : 0 + i ≡ i = omega arith in
    let row = weighed a.weights.all.rows.now a.weights.all.ids.now a.weights.lengths.now a.weights.column in
    rw e at
    (chosen_row (λ (x : Element). x.length ≤ 2 ^ 32) row 0 a.weights.all.count a.flags.now
    (rearranged_each (λ (x : Element). x.length ≤ 2 ^ 32) (rearranged_back s.requires.0.same) s.requires.0.short) i h z)

module _ (f : After-flagged_rows-all) where
  abbrev queued_then : List Element
  queued_then = weighed_in f.args.weights.all.rows.now f.args.weights.all.ids.now f.args.weights.lengths.now f.args.weights.column f.args.wanted.count f.args.wanted.queue.now

  abbrev chosen_then : List Element
  chosen_then = chosen (weighed_rows f.args.weights.all.rows.now f.args.weights.all.ids.now f.args.weights.lengths.now f.args.weights.column f.args.weights.all.count) f.args.flags.now

  abbrev gathered_then : List ℕ
  gathered_then = f.flagged_rows-all.new.queue

  gathered_here : Gathered f.args.weights.all.rows.now f.args.weights.all.ids.now f.args.weights.lengths.now f.args.weights.column chosen_then gathered_then f.flagged_rows-all.result
  gathered_here = f.flagged_rows-all.ensures

  abbrev known_here : List Range
  known_here = ranges_at f.args.known.now 0 f.args.count

  known_long : length known_here ≡ f.args.count
  known_long = length_rows f.args.known.now 0 f.args.count

  known_rows : ranges_at f.args.known.now 0 (length known_here) ≡ known_here
  known_rows = rw known_long

  nothing_known_lem : f.args.count ≡ 0 → known_here ≡ []
  unfolding ranges_at
  nothing_known_lem z = ap (λ (m : ℕ). ranges_at f.args.known.now 0 m) z

  -- either queue is fit to be decided by: that in the store's order, and that which is lent
  in-store-order : ToDecide f.args.weights.all.rows.now f.args.weights.all.ids.now f.args.weights.lengths.now f.args.weights.column f.flagged_rows-all.result.count gathered_then f.args.known.now f.args.count f.args.b.most
  in-store-order = let g = gathered_here in record { queued = g.queued; few = g.few; short = g.light; carry = f.requires.0.carry }

  as_queued : ToDecide f.args.weights.all.rows.now f.args.weights.all.ids.now f.args.weights.lengths.now f.args.weights.column f.args.wanted.count f.args.wanted.queue.now f.args.known.now f.args.count f.args.b.most
  as_queued = let lent = f.requires.0 in record { queued = lent.queued; few = lent.wanted_few; short = lent.short; carry = lent.carry }

pub flagged_rows-all-requires : goal.flagged_rows-all-requires
flagged_rows-all-requires c = let lent = c.requires.0 in
    let few = lent.few in
    (few, lent.flagged, omega arith, lent.column, flagged_light (goal.at.flagged_rows-all-requires c).Start)

pub returns-then-takes_all : goal.returns-then-takes_all
returns-then-takes_all c = let g = gathered_here (goal.at.returns-then-takes_all c).After-flagged_rows-all in
    let a = c.args in
    let l = known_here (goal.at.returns-then-takes_all c).After-flagged_rows-all in
    let known' = c.decide.new.t in
    let test = sym c.takes_all.ensures ∙ c.if-takes_all.true in
    let taken : takes_all a.b (length l) (length (chosen_then (goal.at.returns-then-takes_all c).After-flagged_rows-all)) (stored_length (chosen_then (goal.at.returns-then-takes_all c).After-flagged_rows-all)) ≡ true = rw (known_long (goal.at.returns-then-takes_all c).After-flagged_rows-all, ← g.counted, ← g.summed) test in
    let decided = subst (λ (w : List Element). Decides w l a.b c.decide.result a.known.now known') g.are c.decide.ensures in
    all_at_once a.b l c.requires.0.carry.ranges_stand.1 (chosen_then (goal.at.returns-then-takes_all c).After-flagged_rows-all) (queued_then (goal.at.returns-then-takes_all c).After-flagged_rows-all) c.requires.0.same taken c.decide.result a.known.now known' (known_rows (goal.at.returns-then-takes_all c).After-flagged_rows-all) decided

pub try_all-requires : goal.try_all-requires
try_all-requires c = let a = c.args in
    let test = all_tried _ _ _ _ (sym c.tries_all.ensures ∙ c.if-tries_all.true) in (
      record {
        first = subst (λ (m : ℕ). ToDecide a.weights.all.rows.now a.weights.all.ids.now a.weights.lengths.now a.weights.column c.flagged_rows-all.result.count (gathered_then (goal.at.try_all-requires c).After-flagged_rows-all) a.known.now m a.b.most) test.0 (in-store-order (goal.at.try_all-requires c).After-flagged_rows-all);
        then = subst (λ (m : ℕ). ToDecide a.weights.all.rows.now a.weights.all.ids.now a.weights.lengths.now a.weights.column a.wanted.count a.wanted.queue.now a.known.now m a.b.most) test.0 (as_queued (goal.at.try_all-requires c).After-flagged_rows-all);
        same = rw (gathered_here (goal.at.try_all-requires c).After-flagged_rows-all).are c.requires.0.same;
        some = test.1;
        few = test.2;
        least = c.requires.0.least;
      },
      c.requires.1,
    )

pub returns-then-tries_all : goal.returns-then-tries_all
returns-then-tries_all c = let a = c.args in
    let test = all_tried _ _ _ _ (sym c.tries_all.ensures ∙ c.if-tries_all.true) in
    subst (λ (l : List Range). DecidesPage (queued_then (goal.at.returns-then-tries_all c).After-flagged_rows-all) l a.b c.try_all.result c.try_all.new.t) (sym (nothing_known_lem (goal.at.returns-then-tries_all c).After-flagged_rows-all test.0)) c.try_all.ensures

pub returns : goal.returns
returns c = let a = c.args in
    one_by_one a.b (known_here (goal.at.returns c).After-flagged_rows-all) (queued_then (goal.at.returns c).After-flagged_rows-all) c.decide-2.result a.known.now c.decide-2.new.t (known_rows (goal.at.returns c).After-flagged_rows-all) c.decide-2.ensures
