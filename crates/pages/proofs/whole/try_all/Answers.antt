-- `whole::try_all` meets its contract: all of them, tried in another order; or as many as fit, one after the other.
-- Assumes nothing.
use mathlib.Core.Path.{◌≡◌, refl, sym, ◌∙◌}
use mathlib.Core.List.{[]}
use native.Mathlib.Omega.{arith}
use lib.ListN.{length}
use Rattle.talk.specs.Ranges.{Normal}
use Rattle.ranges.specs.RangeTable.{ranges_at}
use Rattle.pages.specs.Weighed.{weighed_in}
use Rattle.pages.proofs.AnyOrder.{one_by_one, tried}
use Rattle.pages.proofs.Weighing.{length_weighed_lem}
use Rattle.pages.proofs.whole.try_all.Goals as goal
use Rattle.pages.proofs.whole.try_all.Goals.{After-decide-first}

tried_length : (d : After-decide-first) → length (weighed_in d.args.weights.all.rows.now d.args.weights.all.ids.now d.args.weights.lengths.now d.args.weights.column d.args.tried.count d.args.tried.queue.now) ≡ d.args.tried.count
tried_length d = length_weighed_lem d.requires.0.first.queued

pub returns-then-is_whole : goal.returns-then-is_whole
unfolding ranges_at Normal
returns-then-is_whole c = let a = c.args in
    let p = c.requires.0 in
    let n = tried_length (goal.at.returns-then-is_whole c).After-decide-first in
    let some = p.some in
    let few = p.few in
    tried a.b [] tt (weighed_in a.weights.all.rows.now a.weights.all.ids.now a.weights.lengths.now a.weights.column a.tried.count a.tried.queue.now) (weighed_in a.weights.all.rows.now a.weights.all.ids.now a.weights.lengths.now a.weights.column a.wanted.count a.wanted.queue.now) p.same p.least (omega arith) (omega arith) c.decide-first.result a.t.now c.decide-first.new.t refl c.decide-first.ensures (sym c.is_whole.ensures ∙ c.if-is_whole.true)

pub decide-requires : goal.decide-requires
unfolding ranges_at Normal
decide-requires c = let p = c.requires.0.then in
    let long = c.decide-first.auto.t in
    let room = p.carry.room in
    (record { queued = p.queued; few = p.few; short = p.short; carry = record { said = p.carry.said; most_carried = p.carry.most_carried; room = omega arith; ranges_stand = (omega arith, tt) } }, c.requires.1)

pub returns : goal.returns
unfolding ranges_at
returns c = let a = c.args in
    one_by_one a.b [] (weighed_in a.weights.all.rows.now a.weights.all.ids.now a.weights.lengths.now a.weights.column a.wanted.count a.wanted.queue.now) c.decide.result c.decide-first.new.t c.decide.new.t refl c.decide.ensures
