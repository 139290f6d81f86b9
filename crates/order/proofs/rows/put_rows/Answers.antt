-- `rows::put_rows` meets its contract: all rows queued, and those that are queued put.
-- Assumes nothing.
use Rattle.order.proofs.Linking.{all_are, rows_queued}
use Rattle.order.proofs.rows.put_rows.Goals as goal

pub put_queued-requires : goal.put_queued-requires
put_queued-requires c = let a = c.args in
    (rows_queued a.all.rows.now a.all.ids.now a.all.count _ _ _ a.all.stand c.requires.0 c.queue_rows.ensures, c.requires.1)

pub returns : goal.returns
returns c = let a = c.args in
    rw (all_are a.all.rows.now a.all.ids.now a.all.count _ _ _ a.all.stand c.requires.0 c.queue_rows.ensures) at c.put_queued.ensures
