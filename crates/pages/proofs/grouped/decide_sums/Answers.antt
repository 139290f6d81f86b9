-- `grouped::decide_sums` meets its contract: one after the other where their positions rise, and else by their marks, too.
-- Assumes nothing.
use mathlib.Core.Path.{subst}
use Prim.Native.Nat.{ℕ, ◌≤◌, ◌<◌}
use native.Mathlib.Omega.{arith}
use lib.ListN.{take}
use Rattle.ranges.specs.RangeTable.{ranges_at}
use Rattle.ranges.proofs.RangeRows.{length_rows}
use Rattle.talk.proofs.Things.{each_so}
use Rattle.store.specs.Tables.{most_elements}
use Rattle.pages.specs.Tables.{Decides}
use Rattle.pages.specs.Weighed.{sum_column, weighed_in}
use Rattle.pages.specs.declared.weighed.Column.{Column}
use Rattle.pages.proofs.AnyOrder.{one_by_one}
use Rattle.pages.proofs.Summed.{sums_weigh, sums_column, sums_rearranged}
use Rattle.pages.proofs.grouped.decide_sums.Goals as goal

pub returns-then-rises : goal.returns-then-rises
returns-then-rises c = let a = c.args in
    let known' = c.decide.new.t in
    let l = ranges_at a.known.now 0 a.count in
    one_by_one a.bounds l (weighed_in a.all.rows.now a.all.ids.now a.sums.now sum_column a.earliest.count a.earliest.queue.now) c.decide.result a.known.now known' (rw (length_rows a.known.now 0 a.count))
    (subst (λ (k : Column). Decides (weighed_in a.all.rows.now a.all.ids.now a.sums.now k a.earliest.count a.earliest.queue.now) l a.bounds c.decide.result a.known.now known') c.sum_column.ensures c.decide.ensures)

pub mark_rows-requires : goal.mark_rows-requires
mark_rows-requires c = let s = c.requires.0 in
    let a = c.args in
    let few : a.all.count ≤ most_elements = s.few in
    (s.long, each_so (λ (i : ℕ). i < a.all.count) (λ (i : ℕ). i < most_elements) (take a.earliest.count a.earliest.queue.now) (λ i h. omega arith) s.inside)

pub decide_queued-requires : goal.decide_queued-requires
decide_queued-requires c = let s = c.requires.0 in
    let a = c.args in
    rw c.sum_column.ensures (
      record {
        stand = s.stand;
        few = s.few;
        flagged = let long = c.mark_rows.auto.flags in let few : a.all.count ≤ most_elements = s.few in omega arith;
        column = sums_column a.all.rows.now a.all.ids.now a.sums.now s;
        queued = sums_weigh a.all.rows.now a.all.ids.now a.sums.now s;
        wanted_few = s.wanted_few;
        same = sums_rearranged a.all.rows.now a.all.ids.now a.sums.now s c.mark_rows.ensures;
        short = s.short;
        least = s.least;
        carry = s.carry;
      },
      c.requires.1,
    )
