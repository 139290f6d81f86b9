-- `put::write_judged_put` meets its contract: over-long, too short, or laid.
-- Assumes nothing.
use Rattle.std.specs.Prelude.{Err}
use Rattle.std.proofs.Common.{rules}
use mathlib.Core.Path.{◌≡◌, sym, ◌∙◌}
use native.Mathlib.Omega.{arith}
use lib.ListN.{length}
use Rattle.client.proofs.AskGiven.{sent_not, has_room, sent_done}
use Rattle.client.specs.PutWritten.{put_bytes}
use Rattle.client.proofs.put.write_judged_put.Goals as goal

pub returns-in_err-needed : goal.returns-in_err-needed
returns-in_err-needed c = let a = c.args in
    let residual : c.from_residual.result ≡ Err c.in_err-needed.field-0.0 = search rules in
    rw residual (sent_not _ _ (put_bytes a.id a.expected a.elements.now) a.out.now _ c.put_length.ensures (sym c.room_for.ensures ∙ c.in_err-needed.was))

pub lay_put-requires : goal.lay_put-requires
lay_put-requires c = let r = has_room (length c.args.out.now) c.put_length.result c.in_ok-needed.needed (sym c.room_for.ensures ∙ c.in_ok-needed.was) in omega (arith, r.2, c.put_length.ensures)

pub returns : goal.returns
returns c = let a = c.args in
    let r = has_room (length c.args.out.now) c.put_length.result c.in_ok-needed.needed (sym c.room_for.ensures ∙ c.in_ok-needed.was) in
    rw (r.0, c.put_length.ensures, c.lay_put.ensures.1)
    (sent_done _ (put_bytes a.id a.expected a.elements.now) a.out.now (omega (arith, r.1, c.put_length.ensures)) (omega (arith, r.2, c.put_length.ensures)))
