-- `groups::group_rows` meets its contract: all rows queued and linked, and then laid by groups.
-- Assumes nothing.
use mathlib.Core.Path.{subst}
use mathlib.Core.List.{List}
use Prim.Native.Nat.{ℕ, ◌≤◌}
use native.Mathlib.Omega.{arith}
use lib.ListN.{get_or-replicate}
use Rattle.store.specs.Tables.{most_elements}
use Rattle.store.specs.declared.element.Element.{Element}
use Rattle.order.specs.Links.{RowsQueued, GroupsTold}
use Rattle.order.proofs.Linking.{all_are, rows_queued}
use Rattle.order.proofs.groups.group_rows.Goals as goal
use Rattle.order.proofs.groups.group_rows.Goals.{After-queue_rows}

queued_all : (y : After-queue_rows) → RowsQueued y.args.all.rows.now y.args.all.ids.now y.queue_rows.new.queue y.args.all.count
queued_all y = let a = y.args in rows_queued a.all.rows.now a.all.ids.now a.all.count _ _ _ a.all.stand y.requires.0 y.queue_rows.ensures

pub link_rows-requires : goal.link_rows-requires
link_rows-requires c = let few : c.args.all.count ≤ most_elements = c.requires.0 in
    (queued_all (goal.at.link_rows-requires c).After-queue_rows, omega arith)

pub lay_groups-requires : goal.lay_groups-requires
lay_groups-requires c = let a = c.requires in
    let few : c.args.all.count ≤ most_elements = a.0 in
    record {
      queued = queued_all (goal.at.lay_groups-requires c).After-queue_rows;
      short = a.1;
      links_long = omega arith;
      linked = c.link_rows.ensures;
      flags_long = a.2;
      passed_long = omega arith;
      none_passed = λ j l. get_or-replicate {A = ℕ} most_elements j 0 0 (omega arith);
      sums_room = a.3;
      earliest_room = a.4;
      room = a.5;
      ends_room = a.6;
    }

pub returns : goal.returns
returns c = let a = c.args in
    let laid = c.lay_groups.new in
    subst (λ (xs : List Element). GroupsTold a.all.rows.now a.all.ids.now a.all.count a.flags.now xs laid.sums laid.earliest laid.laid laid.ends c.lay_groups.result)
    (all_are a.all.rows.now a.all.ids.now a.all.count _ _ _ a.all.stand c.requires.0 c.queue_rows.ensures)
    c.lay_groups.ensures
