-- `singles::decide_singles` meets its contract: the queue of those that are chosen, then the decision by it, each as long as its row says.
-- Assumes nothing.
use mathlib.Core.Path.{◌≡◌, subst, ◌∙◌}
use mathlib.Core.List.{List}
use Prim.Native.Nat.{ℕ, ◌^◌, ◌≤◌, ◌<◌}
use native.Mathlib.Omega.{arith}
use Rattle.laws.specs.Placed.{Lays}
use Rattle.ranges.specs.RangeTable.{ranges_at}
use Rattle.talk.specs.Each.{Each}
use Rattle.store.specs.Tables.{element_in_row, elements_in}
use Rattle.store.specs.declared.element.Element.{Element}
use Rattle.store.proofs.Elements.{rows_up_to}
use Rattle.order.specs.Order.{ordered}
use Rattle.order.specs.Queue.{chosen, queue_of}
use Rattle.order.proofs.Ordering.{rearranged}
use Rattle.order.proofs.Queueing.{queue_most, queue_stands, queue_each, queue_elements}
use Rattle.pages.specs.Weighed.{length_column, weighed_in}
use Rattle.pages.specs.Tables.{ToWeigh, DecidesPage}
use Rattle.pages.specs.declared.weighed.Column.{Column}
use Rattle.pages.proofs.Weighing.{weighed_queue, weighed_elements, length_inside, weighs_itself}
use Rattle.pages.proofs.singles.decide_singles.Goals as goal
use Rattle.pages.proofs.singles.decide_singles.Goals.{After-queue_rows-wanted}

-- ---- where the wanted are queued
module _ (y : After-queue_rows-wanted) where
  abbrev queue_then : List ℕ
  queue_then = y.queue_rows-wanted.new.queue

  abbrev chosen_then : List Element
  chosen_then = chosen (elements_in y.args.all.rows.now y.args.all.ids.now y.args.all.count) y.args.flags.now

  -- the queue holds the positions of those that are chosen
  queued_here : Lays 0 (queue_of (elements_in y.args.all.rows.now y.args.all.ids.now y.args.all.count) y.args.flags.now) y.args.queue.now y.queue_rows-wanted.result queue_then
  queued_here = y.queue_rows-wanted.ensures

  in_order : weighed_in y.args.all.rows.now y.args.all.ids.now y.args.all.rows.now length_column y.queue_rows-wanted.result queue_then ≡ ordered chosen_then
  in_order =
      let a = y.args in
      weighed_queue a.all.rows.now a.all.ids.now y.queue_rows-wanted.result queue_then
      ∙ queue_elements a.all.rows.now a.all.ids.now a.all.count a.flags.now a.queue.now y.queue_rows-wanted.result queue_then queued_here

  -- what holds of the element of each row holds of those that are queued
  each_queued : (P : Element → Type 0) → ((j : ℕ) → j < y.args.all.count → P (element_in_row y.args.all.rows.now y.args.all.ids.now j))
      → Each P (weighed_in y.args.all.rows.now y.args.all.ids.now y.args.all.rows.now length_column y.queue_rows-wanted.result queue_then)
  each_queued P h =
      let a = y.args in
      rw (weighed_queue a.all.rows.now a.all.ids.now y.queue_rows-wanted.result queue_then)
      (queue_each a.all.rows.now a.all.ids.now a.all.count a.flags.now a.queue.now y.queue_rows-wanted.result queue_then queued_here P h)

  weighs_here : ToWeigh y.args.all.rows.now y.args.all.ids.now y.args.all.count y.args.all.rows.now length_column y.args.flags.now queue_then y.queue_rows-wanted.result y.args.known.now y.args.count y.args.bounds.most
  weighs_here =
      let a = y.args in
      let lent = y.requires.0 in
      let told = queued_here.0 in
      let few = lent.few in
      let short : (i : ℕ) → i < a.all.count → (element_in_row a.all.rows.now a.all.ids.now i).length ≤ 2 ^ 32 = λ i h. omega (arith, lent.short i h) in
      record {
        stand = lent.stand;
        few = few;
        flagged = y.requires.1;
        column = λ i h. length_inside a.all.rows.now a.all.ids.now i (rows_up_to lent.stand _ (omega arith));
        queued = weighs_itself a.all.rows.now a.all.ids.now (queue_stands a.all.rows.now a.all.ids.now a.all.count a.flags.now a.queue.now y.queue_rows-wanted.result queue_then queued_here lent.stand);
        wanted_few = omega (arith, queue_most a.all.rows.now a.all.ids.now a.all.count a.flags.now);
        same = rw (weighed_elements a.all.rows.now a.all.ids.now a.all.count, in_order) (rearranged chosen_then);
        short = each_queued (λ (x : Element). x.length ≤ 2 ^ 32) short;
        least = each_queued (λ (x : Element). 46 ≤ x.length) lent.least;
        carry = lent.carry;
      }

pub decide_queued-requires : goal.decide_queued-requires
decide_queued-requires c = rw c.length_column.ensures (weighs_here (goal.at.decide_queued-requires c).After-queue_rows-wanted, c.requires.2)

pub returns : goal.returns
returns c = let a = c.args in
    let l = ranges_at a.known.now 0 a.count in
    let known' = c.decide_queued.new.known in
    let of-column = subst (λ (k : Column). DecidesPage (weighed_in a.all.rows.now a.all.ids.now a.all.rows.now k c.queue_rows-wanted.result (queue_then (goal.at.returns c).After-queue_rows-wanted)) l a.bounds c.decide_queued.result known') c.length_column.ensures c.decide_queued.ensures in
    ((queued_here (goal.at.returns c).After-queue_rows-wanted).1, subst (λ (w : List Element). DecidesPage w l a.bounds c.decide_queued.result known') (in_order (goal.at.returns c).After-queue_rows-wanted) of-column)
