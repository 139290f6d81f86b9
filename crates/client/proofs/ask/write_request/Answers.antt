-- `ask::write_request` meets its contract: what is handed in is judged, then the request is written.
-- Assumes nothing.
use mathlib.Core.Path.{◌≡◌, sym, ◌∙◌}
use Rattle.std.proofs.Common.{rules}
use Rattle.std.specs.Prelude.{Err}
use Rattle.request.proofs.SecondInput.{second_ok, second_fault}
use Rattle.client.proofs.AskGiven.{filters_short, knowledge_short, filters_refused, knowledge_refused, both_judged}
use Rattle.client.proofs.ask.write_request.Goals as goal

pub returns-in_err-filters_given : goal.returns-in_err-filters_given
returns-in_err-filters_given c = let a = c.args in
    let residual : c.from_residual.result ≡ Err c.in_err-filters_given.field-0.0 = search rules in
    rw residual (filters_refused a.id a.limit a.filters.now a.knowledge.now a.out.now _ (sym c.filters_given.ensures ∙ c.in_err-filters_given.was))

pub returns-in_err-map_err : goal.returns-in_err-map_err
returns-in_err-map_err c = let a = c.args in
    let f = second_fault c.knowledge_given.result c.map_err.result c.map_err.ensures.cases _ c.in_err-map_err.was in
    let residual : c.from_residual-in_err-map_err.result ≡ Err c.in_err-map_err.field-0.0 = search rules in
    rw (residual, f.2)
    (knowledge_refused a.id a.limit a.filters.now a.knowledge.now a.out.now _ _ f.0 (sym c.filters_given.ensures ∙ c.in_ok-filters_given.was)
    (sym c.knowledge_given.ensures ∙ f.1))

pub write_judged-requires : goal.write_judged-requires
write_judged-requires c = (
  filters_short _ _ _ (sym c.filters_given.ensures ∙ c.in_ok-filters_given.was),
  knowledge_short _ _ _ (sym c.knowledge_given.ensures ∙ second_ok c.knowledge_given.result c.map_err.result c.map_err.ensures.cases _ c.in_ok-map_err.was),
)

pub returns : goal.returns
returns c = let a = c.args in
    both_judged a.id a.limit a.filters.now a.knowledge.now a.out.now _ _ _ _ c.write_judged.result _ (sym c.filters_given.ensures ∙ c.in_ok-filters_given.was)
    (sym c.knowledge_given.ensures ∙ second_ok c.knowledge_given.result c.map_err.result c.map_err.ensures.cases _ c.in_ok-map_err.was) c.write_judged.ensures
