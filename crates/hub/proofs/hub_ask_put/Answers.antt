-- `hub_ask_put` meets its contract.
-- Assumes nothing.
use Rattle.hub.proofs.BenchReports.{hub_wrote, hub_wrote_not}
use Rattle.hub.proofs.hub_ask_put.Goals as goal

pub returns-in-Err : goal.returns-in-Err
returns-in-Err c = let f = c.refuse.ensures in
    rw f.0 (hub_wrote_not _ _ _ _ _ _ c.in-Err.r (rw c.in-Err.is at c.ask_put.ensures) f.1)

pub returns-in-Ok : goal.returns-in-Ok
returns-in-Ok c = let f = c.done.ensures in
    rw f.0 (hub_wrote _ _ _ _ _ _ c.in-Ok.n (rw c.in-Ok.is at c.ask_put.ensures) f.1)
