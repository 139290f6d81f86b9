-- `tell_handed` meets its contract.
-- Assumes nothing.
use Rattle.hub.specs.BenchPut.{put_report_after}
use Rattle.hub.proofs.tell_handed.Goals as goal

pub returns : goal.returns
unfolding put_report_after
returns c = c.tell_all.ensures
