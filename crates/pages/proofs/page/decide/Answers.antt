-- `page::decide` meets its contract. The invariant is `Under`: still to come are those that are queued from the place on.
-- Assumes nothing.
use mathlib.Core.Path.{◌≡◌, refl, sym, ap, ◌∙◌}
use mathlib.Core.List.{List, ◌∷◌}
use Prim.Native.Nat.{◌+◌, ◌-◌, ◌*◌, ◌^◌, ◌≤◌, ◌<◌}
use native.Mathlib.Omega.{arith}
use lib.ListN.{length, take, get_or}
use Rattle.talk.specs.declared.range.Range.{Range}
use Rattle.ranges.specs.RangeTable.{range_width, ranges_at}
use Rattle.store.specs.Knowledge.{most_said}
use Rattle.store.specs.KnowledgeWritten.{ranges_bytes}
use Rattle.store.specs.Tables.{most_elements}
use Rattle.store.specs.declared.element.Element.{Element}
use Rattle.store.specs.Held.{serial_range}
use Rattle.store.proofs.StoreHeld.{normal_with}
use Rattle.pages.specs.Weighed.{weighed, weighed_in}
use Rattle.pages.specs.Tables.{Priced}
use Rattle.pages.proofs.Stops.{sendable_ranges}
use Rattle.pages.proofs.Chosen.{queued_from, queued_one, queued_each, queued_none}
use Rattle.pages.proofs.Weighing.{weighs_row}
use Rattle.pages.proofs.UnderWay.{Under, under_start, spelled_most, under_same, under_end, price_most, under_stop, under_take}
use Rattle.pages.proofs.page.decide.Goals as goal
use Rattle.pages.proofs.page.decide.Goals.{After-price_of-q}

within : (k : After-price_of-q) → k.loop-p.p.place < k.args.wanted.count
within k = k.loop-p-test.true

element_here : (k : After-price_of-q)
    → k.row-x.result ≡ weighed k.args.weights.all.rows.now k.args.weights.all.ids.now k.args.weights.lengths.now k.args.weights.column (get_or k.args.wanted.queue.now k.loop-p.p.place 0)
element_here k = rw k.row_at.ensures at k.row-x.ensures

light_here : (k : After-price_of-q) → k.row-x.result.length ≤ 2 ^ 32
light_here k =
    let a = k.args in
    rw (element_here k)
    (queued_each (weighed a.weights.all.rows.now a.weights.all.ids.now a.weights.lengths.now a.weights.column) a.wanted.count a.wanted.queue.now k.loop-p.p.place (λ (x : Element). x.length ≤ 2 ^ 32) (within k) k.requires.0.queued.long k.requires.0.short)

-- the element is the next of those that are wanted
next_wanted : (k : After-price_of-q)
    → Under (weighed_in k.args.weights.all.rows.now k.args.weights.all.ids.now k.args.weights.lengths.now k.args.weights.column k.args.wanted.count k.args.wanted.queue.now)
    (ranges_at k.args.t.now 0 k.args.count) k.args.t.now k.args.b
    (k.row-x.result ∷ queued_from (weighed k.args.weights.all.rows.now k.args.weights.all.ids.now k.args.weights.lengths.now k.args.weights.column) k.args.wanted.count k.args.wanted.queue.now (k.loop-p.p.place + 1))
    k.loop-p.t k.loop-p.p
next_wanted k =
    let a = k.args in
    under_same k.loop-p.invariant.1 (queued_one (weighed a.weights.all.rows.now a.weights.all.ids.now a.weights.lengths.now a.weights.column) a.wanted.count a.wanted.queue.now k.loop-p.p.place (within k) k.requires.0.queued.long (element_here k))

priced_here : (k : After-price_of-q) → Priced k.loop-p.t k.loop-p.p.ranges (serial_range k.row-x.result) k.price_of-q.result
priced_here k = rw k.serial_range.ensures at k.price_of-q.ensures

pub loop-p-init : goal.loop-p-init
loop-p-init c = let a = c.args in
    let z : a.count - 0 ≡ a.count = omega arith in
    rw (c.new-p.ensures, c.ranges_length.ensures.0, z) (omega arith, under_start (weighed_in a.weights.all.rows.now a.weights.all.ids.now a.weights.lengths.now a.weights.column a.wanted.count a.wanted.queue.now) (ranges_at a.t.now 0 a.count) a.t.now a.b a.count c.requires.0.carry.said c.requires.0.carry.ranges_stand.0 refl)

pub row-x-requires : goal.row-x-requires
row-x-requires c = rw c.row_at.ensures (weighs_row c.requires.0.queued c.loop-p.p.place c.loop-p-test.true)

pub price_of-q-requires : goal.price_of-q-requires
price_of-q-requires c = let a = c.args in
    let p = c.loop-p.p in
    let u = c.loop-p.invariant.1 in
    let cap : p.ranges ≤ most_said = u.carried in
    let long : length c.loop-p.t ≡ length a.t.now = u.same_length in
    let room : p.ranges * range_width ≤ length a.t.now = u.room in
    (cap, omega arith, u.spelled ∙ ap (λ (r : List Range). length (ranges_bytes r)) (sym u.held), rw u.held (normal_with (take p.count _) _ c.requires.0.carry.ranges_stand.1))

pub overflow_add-stored : goal.overflow_add-stored
overflow_add-stored c = let a = c.args in
    let p = c.loop-p.p in
    let u = c.loop-p.invariant.1 in
    let x = c.row-x.result in
    let i : p.place < a.wanted.count = within (goal.at.overflow_add-stored c).After-price_of-q in
    let few-elements : a.wanted.count ≤ most_elements = c.requires.0.few in
    let light : x.length ≤ 2 ^ 32 = light_here (goal.at.overflow_add-stored c).After-price_of-q in
    let small : p.bytes ≤ 2 ^ 32 * p.place = u.small in
    omega arith

pub whole_of-whole-requires : goal.whole_of-whole-requires
whole_of-whole-requires c = let a = c.args in
    let p = c.loop-p.p in
    let u = c.loop-p.invariant.1 in
    let x = c.row-x.result in
    let i : p.place < a.wanted.count = within (goal.at.whole_of-whole-requires c).After-price_of-q in
    let v = next_wanted (goal.at.whole_of-whole-requires c).After-price_of-q in
    let priced = priced_here (goal.at.whole_of-whole-requires c).After-price_of-q in
    let few-elements : a.wanted.count ≤ most_elements = c.requires.0.few in
    let light : x.length ≤ 2 ^ 32 = light_here (goal.at.whole_of-whole-requires c).After-price_of-q in
    let small : p.bytes ≤ 2 ^ 32 * p.place = u.small in
    let fixed : a.b.fixed ≤ 2 ^ 32 = c.requires.1 in
    let cap : p.ranges ≤ most_said = u.carried in
    omega (arith, price_most v priced)

pub stop-requires : goal.stop-requires
stop-requires c = let a = c.args in
    let p = c.loop-p.p in
    let u = c.loop-p.invariant.1 in
    let i : p.place < a.wanted.count = within (goal.at.stop-requires c).After-price_of-q in
    let few-elements : a.wanted.count ≤ most_elements = c.requires.0.few in
    let small : p.bytes ≤ 2 ^ 32 * p.place = u.small in
    let fixed : a.b.fixed ≤ 2 ^ 32 = c.requires.1 in
    let cap : p.ranges ≤ most_said = u.carried in
    let spelled : p.spelled ≤ 36 * p.ranges = spelled_most u in
    omega arith

pub returns-then-not-is_sendable : goal.returns-then-not-is_sendable
returns-then-not-is_sendable c = let a = c.args in
    let p = c.loop-p.p in
    let u = c.loop-p.invariant.1 in
    let i : p.place < a.wanted.count = within (goal.at.returns-then-not-is_sendable c).After-price_of-q in
    let v = next_wanted (goal.at.returns-then-not-is_sendable c).After-price_of-q in
    let priced = priced_here (goal.at.returns-then-not-is_sendable c).After-price_of-q in
    let f = rw c.whole_of-whole.ensures at (sym c.if-not-is_sendable.ensures) in
    under_stop v priced f (rw c.whole_of-whole.ensures at c.stop.ensures)

pub take-p-requires : goal.take-p-requires
take-p-requires c = let a = c.args in
    let p = c.loop-p.p in
    let u = c.loop-p.invariant.1 in
    let x = c.row-x.result in
    let q = c.price_of-q.result in
    let i : p.place < a.wanted.count = within (goal.at.take-p-requires c).After-price_of-q in
    let few-elements : a.wanted.count ≤ most_elements = c.requires.0.few in
    let light : x.length ≤ 2 ^ 32 = light_here (goal.at.take-p-requires c).After-price_of-q in
    let small : p.bytes ≤ 2 ^ 32 * p.place = u.small in
    let few : p.count ≤ p.place = u.few in
    let held : p.ranges * range_width ≤ length a.t.now = u.room in
    let long : length c.loop-p.t ≡ length a.t.now = u.same_length in
    let room : a.b.most * range_width ≤ length a.t.now = c.requires.0.carry.room in
    let f = rw c.whole_of-whole.ensures at (sym c.if-not-is_sendable.ensures) in
    let g : q.ranges ≤ a.b.most = sendable_ranges a.b.most a.b.limit a.b.room (p.count + 1) (p.bytes + x.length) q.ranges _ f in
    let priced = priced_here (goal.at.take-p-requires c).After-price_of-q in
    (omega arith, omega arith, omega arith, omega arith, omega arith, priced)

pub loop-p-preserved : goal.loop-p-preserved
loop-p-preserved c = let a = c.args in
    let p = c.loop-p.p in
    let u = c.loop-p.invariant.1 in
    let x = c.row-x.result in
    let i : p.place < a.wanted.count = within (goal.at.loop-p-preserved c).After-price_of-q in
    let v = next_wanted (goal.at.loop-p-preserved c).After-price_of-q in
    let priced = priced_here (goal.at.loop-p-preserved c).After-price_of-q in
    let light : x.length ≤ 2 ^ 32 = light_here (goal.at.loop-p-preserved c).After-price_of-q in
    let f = rw c.whole_of-whole.ensures at (sym c.if-not-is_sendable.ensures) in
    rw c.take-p.ensures.0 (omega arith, under_take v priced c.take-p.new.t c.requires.0.carry.most_carried c.requires.0.carry.room light c.take-p.ensures.1 f)

pub end-requires : goal.end-requires
end-requires c = let a = c.args in
    let p = c.loop-p.p in
    let u = c.loop-p.invariant.1 in
    let few-elements : a.wanted.count ≤ most_elements = c.requires.0.few in
    let small : p.bytes ≤ 2 ^ 32 * p.place = u.small in
    let fixed : a.b.fixed ≤ 2 ^ 32 = c.requires.1 in
    let inside : p.place ≤ a.wanted.count = c.loop-p.invariant.0 in
    let cap : p.ranges ≤ most_said = u.carried in
    let spelled : p.spelled ≤ 36 * p.ranges = spelled_most u in
    omega arith

pub returns : goal.returns
returns c = let a = c.args in
    let p = c.loop-p.p in
    let u = c.loop-p.invariant.1 in
    under_end u (queued_none (weighed a.weights.all.rows.now a.weights.all.ids.now a.weights.lengths.now a.weights.column) a.wanted.count a.wanted.queue.now p.place c.loop-p-test.false) c.end.ensures
