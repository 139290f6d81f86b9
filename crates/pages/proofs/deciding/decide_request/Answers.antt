-- `deciding::decide_request` meets its contract.
-- Assumes nothing.
use Rattle.std.specs.Prelude.{Err}
use Rattle.std.proofs.Common.{rules}
use mathlib.Core.Path.{◌≡◌, refl, sym, ◌∙◌}
use native.Mathlib.Omega.{arith}
use lib.ListN.{length}
use Rattle.store.specs.Knowledge.{said_numbers}
use Rattle.pages.specs.Decision.{most_carried}
use Rattle.pages.specs.Answer.{on_request}
use Rattle.pages.specs.Held.{reckoned_for}
use Rattle.pages.proofs.Stored.{request_same, request_long, request_read}
use Rattle.pages.proofs.deciding.decide_request.Goals as goal
use Rattle.pages.proofs.deciding.decide_request.Goals.{After-read_request}

lent_known : (c : After-read_request) → length c.args.known.now ≡ said_numbers
lent_known c = c.requires.1

-- the table of ranges is as long as it was
read_long : (c : After-read_request) → said_numbers ≡ length c.read_request.new.table
read_long c = request_long _ _ _ _ (lent_known c) c.read_request.ensures

pub decide_asked-requires : goal.decide_asked-requires
decide_asked-requires c = let long = lent_known (goal.at.decide_asked-requires c).After-read_request in
    let flagged = c.requires.2 in
    (c.requires.0, request_read c.args.request.now _ _ _ most_carried _ _ _ _ (omega arith) (omega arith) (rw c.in_ok-query.was at c.read_request.ensures), omega arith)

pub returns-in_err-query : goal.returns-in_err-query
unfolding on_request reckoned_for
returns-in_err-query c = let residual : c.from_residual.result ≡ Err c.in_err-query.field-0.0 = search rules in
    rw residual (λ s h.
    rw (request_same c.args.request.now _ _ _ c.read_request.ensures ∙ c.in_err-query.was)
    (refl, c.read_request.ensures.1, refl, sym (read_long (goal.at.returns-in_err-query c).After-read_request) ∙ sym (lent_known (goal.at.returns-in_err-query c).After-read_request), refl, refl))

pub returns : goal.returns
unfolding on_request reckoned_for
returns c = λ s h.
    let x = c.decide_asked.ensures s h in
    rw (request_same c.args.request.now _ _ _ c.read_request.ensures ∙ c.in_ok-query.was)
    (x.0, c.decide_asked.auto.known ∙ sym (read_long (goal.at.returns c).After-read_request) ∙ sym (lent_known (goal.at.returns c).After-read_request), x.2, c.decide_asked.auto.known ∙ sym (read_long (goal.at.returns c).After-read_request) ∙ sym (lent_known (goal.at.returns c).After-read_request), c.decide_asked.auto.queue, x.3)
