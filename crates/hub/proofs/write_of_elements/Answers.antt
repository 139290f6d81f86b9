-- `write_of_elements` meets its contract.
-- Assumes nothing.
use mathlib.Core.Path.{refl}
use Rattle.pages.proofs.Stored.{page_follows, refusal_follows}
use Rattle.hub.proofs.Reports.{refusal_written, page_written}
use Rattle.hub.proofs.write_of_elements.Goals as goal

pub write_answer-requires : goal.write_answer-requires
write_answer-requires c = (page_follows _ _ _ _ _ _ _ _ c.decide_answer.ensures.6 _ _ _ c.in-Ok.is).to_send

pub returns-in-Err : goal.returns-in-Err
returns-in-Err c = let f = c.refuse.ensures in
    let out = c.args.out.now in
    rw f.0 (refusal_written _ _ out _ _ _ (refusal_follows _ _ _ _ _ _ _ _ c.decide_answer.ensures.6 _ c.in-Err.is) f.1)

pub returns-in-Ok : goal.returns-in-Ok
returns-in-Ok c = let f = c.done.ensures in
    let out = c.args.out.now in
    let x = page_follows _ _ _ _ _ _ _ _ c.decide_answer.ensures.6 _ _ _ c.in-Ok.is in
    rw f.0 (page_written _ x out _ _ _ refl c.write_answer.ensures.1 f.1)
