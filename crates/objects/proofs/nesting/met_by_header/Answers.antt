-- `nesting::met_by_header` meets its contract.
-- Assumes nothing.
use mathlib.Core.Path.{sym, ap, ◌∙◌}
use Rattle.std.specs.Prelude.{Ok}
use Rattle.objects.proofs.Next.{next_met, next_own_end, next_other_end}
use Rattle.objects.proofs.nesting.met_by_header.Goals as goal

pub returns-then-k-kind : goal.returns-then-k-kind
returns-then-k-kind c = next_own_end _ _ _ _ _ _ _ (sym c.next_by_header.ensures ∙ c.in-Ok-Ends.is ∙ ap Ok c.in-Ok-Ends.field-0-is) c.if-k-kind.true

pub returns-in-Err : goal.returns-in-Err
returns-in-Err c = next_met _ _ _ _ _ _ (sym c.next_by_header.ensures ∙ c.in-Err.is)

pub returns-in-Ok-Past : goal.returns-in-Ok-Past
returns-in-Ok-Past c = next_met _ _ _ _ _ _ (sym c.next_by_header.ensures ∙ c.in-Ok-Past.is ∙ ap Ok c.in-Ok-Past.field-0-is)

pub returns-in-Ok-Opens : goal.returns-in-Ok-Opens
returns-in-Ok-Opens c = next_met _ _ _ _ _ _ (sym c.next_by_header.ensures ∙ c.in-Ok-Opens.is ∙ ap Ok c.in-Ok-Opens.field-0-is)

pub returns-else-k-kind : goal.returns-else-k-kind
returns-else-k-kind c = next_other_end _ _ _ _ _ _ _ (sym c.next_by_header.ensures ∙ c.in-Ok-Ends.is ∙ ap Ok c.in-Ok-Ends.field-0-is) c.if-k-kind.false
