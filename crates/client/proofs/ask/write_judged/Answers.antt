-- `ask::write_judged` meets its contract: over-long, too short, or laid.
-- Assumes nothing.
use Rattle.std.specs.Prelude.{Err}
use Rattle.std.proofs.Common.{rules}
use mathlib.Core.Path.{◌≡◌, sym, ◌∙◌}
use native.Mathlib.Omega.{arith}
use lib.ListN.{length}
use Rattle.client.proofs.AskGiven.{sent_not, has_room, sent_done}
use Rattle.client.specs.AskWritten.{ask_bytes}
use Rattle.client.proofs.ask.write_judged.Goals as goal

pub returns-in_err-needed : goal.returns-in_err-needed
returns-in_err-needed c = let a = c.args in
    let residual : c.from_residual.result ≡ Err c.in_err-needed.field-0.0 = search rules in
    rw residual (sent_not _ _ (ask_bytes a.id a.limit a.filters.now a.knowledge.now) a.out.now _ c.request_length.ensures (sym c.room_for.ensures ∙ c.in_err-needed.was))

pub lay_request-requires : goal.lay_request-requires
lay_request-requires c = let r = has_room (length c.args.out.now) c.request_length.result c.in_ok-needed.needed (sym c.room_for.ensures ∙ c.in_ok-needed.was) in omega (arith, r.2, c.request_length.ensures)

pub returns : goal.returns
returns c = let a = c.args in
    let r = has_room (length c.args.out.now) c.request_length.result c.in_ok-needed.needed (sym c.room_for.ensures ∙ c.in_ok-needed.was) in
    rw (r.0, c.request_length.ensures, c.lay_request.ensures.1)
    (sent_done _ (ask_bytes a.id a.limit a.filters.now a.knowledge.now) a.out.now (omega (arith, r.1, c.request_length.ensures)) (omega (arith, r.2, c.request_length.ensures)))
