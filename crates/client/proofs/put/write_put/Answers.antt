-- `put::write_put` meets its contract: what is handed in is judged, then the put is written.
-- Assumes nothing.
use Rattle.std.specs.Prelude.{Err}
use Rattle.std.proofs.Common.{rules}
use mathlib.Core.Path.{◌≡◌, sym, ◌∙◌}
use Rattle.client.proofs.PutGiven.{elements_short, elements_refused, elements_judged}
use Rattle.client.proofs.put.write_put.Goals as goal

pub write_judged_put-requires : goal.write_judged_put-requires
write_judged_put-requires c = elements_short _ _ _ (sym c.elements_given.ensures ∙ c.in_ok-elements_given.was)

pub returns-in_err-elements_given : goal.returns-in_err-elements_given
returns-in_err-elements_given c = let residual : c.from_residual.result ≡ Err c.in_err-elements_given.field-0.0 = search rules in
    rw residual (let a = c.args in
    elements_refused a.id a.expected a.elements.now a.out.now _ (sym c.elements_given.ensures ∙ c.in_err-elements_given.was))

pub returns : goal.returns
returns c = let a = c.args in
    elements_judged a.id a.expected a.elements.now a.out.now _ _ c.write_judged_put.result _ (sym c.elements_given.ensures ∙ c.in_ok-elements_given.was) c.write_judged_put.ensures
