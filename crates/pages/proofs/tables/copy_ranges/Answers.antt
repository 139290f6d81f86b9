-- `tables::copy_ranges` meets its contract. The invariant: the first k rows stand in front of the table's own numbers.
-- Assumes nothing.
use Rattle.pages.proofs.Copying.{copied_none, copied_more}
use Rattle.pages.proofs.tables.copy_ranges.Goals as goal

pub loop-k-init : goal.loop-k-init
loop-k-init c = copied_none c.args.table.now c.args.to.now

pub loop-k-preserved : goal.loop-k-preserved
loop-k-preserved c = copied_more c.args.table.now c.args.to.now c.loop-k.to c.put_range_row.new.to c.loop-k.k c.range_at.result c.loop-k.invariant c.range_at.ensures c.put_range_row.ensures
