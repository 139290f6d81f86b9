-- `answer::send_answer` meets its contract.
-- Assumes nothing.
use Rattle.std.specs.Prelude.{Err}
use Rattle.std.proofs.Common.{rules}
use mathlib.Core.Path.{◌≡◌, refl}
use lib.ListN.{length}
use Rattle.pages.specs.Answer.{outcome, answer_told, rows_after, ranges_after, output_after}
use Rattle.pages.specs.Held.{Ready}
use Rattle.pages.proofs.Stored.{page_follows, refusal_follows, ready_tells, ready_gives}
use Rattle.pages.proofs.answer.send_answer.Goals as goal
use Rattle.pages.proofs.answer.send_answer.Goals.{In_ok-reckoned}

ready : (c : In_ok-reckoned) → Ready (outcome c.args.store.now c.args.request.now (length c.args.out.now)) c.args.store.now (length c.args.out.now) c.in_ok-reckoned.reckoned.page c.in_ok-reckoned.reckoned.length c.in_ok-reckoned.reckoned.elements c.decide_answer.new.elements c.decide_answer.new.ids c.decide_answer.new.known c.decide_answer.new.queue
ready c = page_follows _ _ _ _ _ _ _ _ c.decide_answer.ensures.6 _ _ _ c.in_ok-reckoned.was

pub returns-in_err-reckoned : goal.returns-in_err-reckoned
unfolding answer_told rows_after ranges_after output_after
returns-in_err-reckoned c = let residual : c.from_residual.result ≡ Err c.in_err-reckoned.field-0.0 = search rules in
    rw residual (rw (refusal_follows _ _ _ _ _ _ _ _ c.decide_answer.ensures.6 _ c.in_err-reckoned.was) (refl, refl, refl, refl))

pub returns : goal.returns
returns c = let out = c.args.out.now in
    ready_gives (ready (goal.at.returns c).In_ok-reckoned) _ _ _ _ out _ (ready_tells (ready (goal.at.returns c).In_ok-reckoned) _ _ _ _ c.fill_tables.ensures.0 c.fill_tables.ensures.1) c.write_answer.ensures.1
