-- `put::elements_given` meets its contract: what stands in the tables does not matter.
-- Assumes nothing.
use Rattle.std.specs.Prelude.{Err}
use Rattle.std.proofs.Common.{rules}
use mathlib.Core.Path.{◌≡◌, sym, ◌∙◌}
use Rattle.client.proofs.PutGiven.{given_long, given_refused, given_holds}
use Rattle.client.proofs.put.elements_given.Goals as goal

pub returns-then-s-gt-LONGEST_INPUT : goal.returns-then-s-gt-LONGEST_INPUT
returns-then-s-gt-LONGEST_INPUT c = rw c.over_long.ensures (given_long _ c.if-s-gt-LONGEST_INPUT.true)

pub returns-in_err-e : goal.returns-in_err-e
returns-in_err-e c = let residual : c.from_residual.result ≡ Err c.in_err-e.field-0.0 = search rules in
    rw residual (let w = rw c.put_strictness.ensures at c.read_elements.ensures in
    given_refused _ _ _ c.if-s-gt-LONGEST_INPUT.false (sym c.in_err-e.was ∙ w.0))

pub returns : goal.returns
returns c = let w = rw c.put_strictness.ensures at c.read_elements.ensures in
    c.no_more.ensures ∙ given_holds _ _ _ _ c.if-s-gt-LONGEST_INPUT.false (sym c.in_ok-e.was ∙ w.0)
