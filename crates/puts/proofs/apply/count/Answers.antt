-- `apply::count` meets its contract.
-- Assumes nothing.
use mathlib.Core.Path.{◌≡◌, ◌∙◌}
use lib.ListN.{length}
use Rattle.store.specs.Store.{store_walk}
use Rattle.puts.specs.NewStore.{new_elements}
use Rattle.puts.specs.Put.{put_walk}
use Rattle.puts.proofs.Applying.{planned_count, planned_store, planned_known, plan_taken, plan_made}
use Rattle.puts.proofs.Outcomes.{refused_gives, counted_over, counted_fits}
use Rattle.puts.proofs.apply.count.Goals as goal

pub returns-then-planned-gt-MOST_ELEMENTS : goal.returns-then-planned-gt-MOST_ELEMENTS
returns-then-planned-gt-MOST_ELEMENTS c = let a = c.args in
    let new = new_elements a.inputs.stored.bytes.now (store_walk a.inputs.stored.bytes.now).elements a.inputs.handed.bytes.now (put_walk a.inputs.handed.bytes.now).elements a.inputs.guid in
    let r = c.plan_elements-planned.ensures in
    let e : c.plan_elements-planned.result ≡ length new = r.0 ∙ planned_count a.inputs.stored.bytes.now a.inputs.stored.elements.rows.now a.inputs.stored.elements.ids.now a.inputs.handed.bytes.now a.inputs.handed.elements.rows.now a.inputs.handed.elements.ids.now a.inputs.guid a.inputs.stored.elements.count a.inputs.handed.elements.count a.inputs.highest c.requires.0 c.requires.1 c.requires.2 c.requires.3 in
    rw (counted_over a.id new (length a.newstore.now) (length a.out.now) _ e c.if-planned-gt-MOST_ELEMENTS.true, c.at_place.ensures) (refused_gives _ a.newstore.now a.out.now)

pub size-requires : goal.size-requires
size-requires c = let a = c.args in
    let new = new_elements a.inputs.stored.bytes.now (store_walk a.inputs.stored.bytes.now).elements a.inputs.handed.bytes.now (put_walk a.inputs.handed.bytes.now).elements a.inputs.guid in
    let r = c.plan_elements-planned.ensures in
    let e : c.plan_elements-planned.result ≡ length new = r.0 ∙ planned_count a.inputs.stored.bytes.now a.inputs.stored.elements.rows.now a.inputs.stored.elements.ids.now a.inputs.handed.bytes.now a.inputs.handed.elements.rows.now a.inputs.handed.elements.ids.now a.inputs.guid a.inputs.stored.elements.count a.inputs.handed.elements.count a.inputs.highest c.requires.0 c.requires.1 c.requires.2 c.requires.3 in
    plan_made a.inputs.stored.bytes.now a.inputs.stored.elements.rows.now a.inputs.stored.elements.ids.now a.inputs.handed.bytes.now a.inputs.handed.elements.rows.now a.inputs.handed.elements.ids.now a.inputs.guid a.inputs.stored.elements.count a.inputs.handed.elements.count a.inputs.highest c.requires.0 c.requires.1 c.requires.2 c.requires.3 _ _ c.plan_elements-planned.result r.0 r.1 c.if-planned-gt-MOST_ELEMENTS.false

pub returns : goal.returns
returns c = let a = c.args in
    let new = new_elements a.inputs.stored.bytes.now (store_walk a.inputs.stored.bytes.now).elements a.inputs.handed.bytes.now (put_walk a.inputs.handed.bytes.now).elements a.inputs.guid in
    let r = c.plan_elements-planned.ensures in
    let e : c.plan_elements-planned.result ≡ length new = r.0 ∙ planned_count a.inputs.stored.bytes.now a.inputs.stored.elements.rows.now a.inputs.stored.elements.ids.now a.inputs.handed.bytes.now a.inputs.handed.elements.rows.now a.inputs.handed.elements.ids.now a.inputs.guid a.inputs.stored.elements.count a.inputs.handed.elements.count a.inputs.highest c.requires.0 c.requires.1 c.requires.2 c.requires.3 in
    let t = plan_taken a.inputs.stored.bytes.now a.inputs.stored.elements.rows.now a.inputs.stored.elements.ids.now a.inputs.handed.bytes.now a.inputs.handed.elements.rows.now a.inputs.handed.elements.ids.now a.inputs.guid a.inputs.stored.elements.count a.inputs.handed.elements.count a.inputs.highest c.requires.0 c.requires.1 c.requires.2 c.requires.3 _ _ c.plan_elements-planned.result r.0 r.1 in
    rw (counted_fits a.id new (length a.newstore.now) (length a.out.now) _ e c.if-planned-gt-MOST_ELEMENTS.false)
    (rw (t, planned_store a.inputs.stored.bytes.now a.inputs.stored.elements.rows.now a.inputs.stored.elements.ids.now a.inputs.handed.bytes.now a.inputs.handed.elements.rows.now a.inputs.handed.elements.ids.now a.inputs.guid a.inputs.stored.elements.count a.inputs.handed.elements.count a.inputs.highest c.requires.0 c.requires.1 c.requires.2 c.requires.3, planned_known a.inputs.stored.bytes.now a.inputs.stored.elements.rows.now a.inputs.stored.elements.ids.now a.inputs.handed.bytes.now a.inputs.handed.elements.rows.now a.inputs.handed.elements.ids.now a.inputs.guid a.inputs.stored.elements.count a.inputs.handed.elements.count a.inputs.highest c.requires.0 c.requires.1 c.requires.2 c.requires.3) at c.size.ensures)
