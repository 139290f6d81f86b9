-- `hub_read` meets its contract.
-- Assumes nothing.
use mathlib.Core.Path.{sym, ap, ◌∙◌}
use Rattle.client.specs.Read.{tell_read_answer}
use Rattle.hub.proofs.BenchReports.{read_told, read_refused}
use Rattle.hub.proofs.hub_read.Goals as goal

pub returns-in-Err : goal.returns-in-Err
returns-in-Err c = let f = c.refuse.ensures in
    let t = read_refused _ c.in-Err.r (ap tell_read_answer (sym c.in-Err.is) ∙ c.read_answer.ensures) in
    (f.0 ∙ t.0, f.1 ∙ t.1 _)

pub returns-in-Ok : goal.returns-in-Ok
returns-in-Ok c = let t = read_told _ c.in-Ok.x (ap tell_read_answer (sym c.in-Ok.is) ∙ c.read_answer.ensures) in
    (c.tell_received.ensures.0 ∙ t.0, c.tell_received.ensures.1 ∙ t.1 _)
