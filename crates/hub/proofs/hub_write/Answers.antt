-- `hub_write` meets its contract.
-- Assumes nothing.
use mathlib.Core.Path.{sym, ◌∙◌}
use Rattle.hub.proofs.Reports.{begin_refused, refusal_written}
use Rattle.hub.proofs.hub_write.Goals as goal

pub returns-in-Err : goal.returns-in-Err
returns-in-Err c = let f = c.refuse.ensures in
    let out = c.args.out.now in
    rw f.0 (refusal_written _ _ out _ _ _ (begin_refused _ _ _ _ (sym c.begin_store.ensures ∙ c.in-Err.is)) f.1)
