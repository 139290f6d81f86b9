-- `knowledges::read_and_asked` meets its contract: the rows that were read are in normal form.
-- Assumes nothing.
use Rattle.store.proofs.KnowledgeHeld.{rows_normal}
use Rattle.case_stores.proofs.knowledges.read_and_asked.Goals as goal

pub asked-requires : goal.asked-requires
asked-requires g c = let q = c.in-Ok.ensures in
    rows_normal _ _ _ _ _ q.0 q.2 q.3
