-- `hub_keep` meets its contract.
-- Assumes nothing.
use Rattle.hub.proofs.KeepReports.{book_kept, book_refused}
use Rattle.hub.proofs.hub_keep.Goals as goal

pub returns-in-Err : goal.returns-in-Err
returns-in-Err c = let a = c.args in
    let f = c.refuse.ensures in
    rw f.0 (book_refused _ a.newbook.now _ _ _ c.in-Err.r (rw c.in-Err.is at c.keep.ensures) f.1)

pub returns-in-Ok : goal.returns-in-Ok
returns-in-Ok c = let a = c.args in
    let f = c.done.ensures in
    rw f.0 (book_kept _ a.newbook.now _ _ _ c.in-Ok.n (rw c.in-Ok.is at c.keep.ensures) f.1)
