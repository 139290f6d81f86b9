-- `plan::plan_elements` meets its contract.
-- Assumes nothing.
use Rattle.store.specs.Tables.{id_width, id_keys}
use Rattle.enter.proofs.Planning.{length_keys, both_planned}
use Rattle.enter.proofs.plan.plan_elements.Goals as goal

pub returns : goal.returns
returns c = let a = c.args in
    both_planned (id_keys a.ids.now a.n) (id_keys a.handed.now a.m) a.n c.plan_new.result a.plan.now _ _ (length_keys a.ids.now 0 id_width a.n) c.plan_new.ensures.0
    c.plan_kept.ensures c.plan_new.ensures.1
