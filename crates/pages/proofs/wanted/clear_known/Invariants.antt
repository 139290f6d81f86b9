-- `wanted::clear_known` meets its contract. The invariant: the flags that are told are those set from here on.
-- Assumes nothing.
use Rattle.ranges.specs.RangeTable.{ranges_at}
use Rattle.request.specs.Choice.{set_flags}
use Rattle.store.specs.Elements.{elements_of}
use Rattle.request.proofs.Setting.{Setting}
use Rattle.pages.specs.Choice.{is_known}
use Rattle.pages.proofs.wanted.clear_known.Given as goal

abbrev pub invariant-loop-i : goal.invariant-loop-i
invariant-loop-i l = let known = is_known (ranges_at l.table 0 l.count) in
    Setting known 0 l.all.rows.now l.all.ids.now l.all.count (set_flags known 0 (elements_of l.all) l.initial.flags) l.flags l.i
