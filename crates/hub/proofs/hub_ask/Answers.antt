-- `hub_ask` meets its contract.
-- Assumes nothing.
use Rattle.hub.proofs.BenchReports.{hub_wrote, hub_wrote_not}
use Rattle.hub.proofs.hub_ask.Goals as goal

pub returns-in-Err : goal.returns-in-Err
returns-in-Err c = let f = c.refuse.ensures in
    rw f.0 (hub_wrote_not _ _ _ _ _ _ c.in-Err.r (rw c.in-Err.is at c.write_request.ensures) f.1)

pub returns-in-Ok : goal.returns-in-Ok
returns-in-Ok c = let f = c.done.ensures in
    rw f.0 (hub_wrote _ _ _ _ _ _ c.in-Ok.n (rw c.in-Ok.is at c.write_request.ensures) f.1)
