-- `length_of_elements` meets its contract.
-- Assumes nothing.
use Rattle.pages.proofs.Stored.{page_follows, refusal_follows}
use Rattle.hub.proofs.Reports.{refusal_told, page_told}
use Rattle.hub.proofs.length_of_elements.Goals as goal

pub returns-in-Err : goal.returns-in-Err
returns-in-Err c = let f = c.refuse.ensures in
    rw f.0 (refusal_told _ _ _ _ _ _ (refusal_follows _ _ _ _ _ _ _ _ c.decide_answer.ensures.6 _ c.in-Err.is) f.1)

pub returns-in-Ok : goal.returns-in-Ok
returns-in-Ok c = let f = c.done.ensures in
    let x = page_follows _ _ _ _ _ _ _ _ c.decide_answer.ensures.6 _ _ _ c.in-Ok.is in
    rw f.0 (page_told _ x _ _ f.1)
