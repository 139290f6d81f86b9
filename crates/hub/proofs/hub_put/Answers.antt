-- `hub_put` meets its contract.
-- Assumes nothing.
use Rattle.hub.proofs.EnteredReports.{put_entered, put_refused}
use Rattle.hub.proofs.hub_put.Goals as goal

pub returns-in-Err : goal.returns-in-Err
returns-in-Err c = let a = c.args in
    let f = c.refuse.ensures in
    rw f.0 (put_refused _ a.newstore.now _ a.out.now _ _ _ c.in-Err.r (rw c.in-Err.is at c.put.ensures) f.1)

pub returns-in-Ok : goal.returns-in-Ok
returns-in-Ok c = let a = c.args in
    let f = c.tell_all.ensures in
    rw f.0 (put_entered _ a.newstore.now _ a.out.now _ _ _ _ _ (rw c.in-Ok.is at c.put.ensures) f.1)
