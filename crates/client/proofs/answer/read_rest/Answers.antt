-- `answer::read_rest` meets its contract: each part is read where the one before it ends, and the knowledge's length is what lies
-- between its start and its end.
-- Assumes nothing.
use Rattle.std.specs.Prelude.{Err}
use Rattle.std.proofs.Common.{rules}
use mathlib.Core.Path.{◌≡◌, sym, ◌∙◌}
use Rattle.client.specs.Read.{changes, mark_at, knowledge_end, received_from, rest_of, answer_on}
use Rattle.client.proofs.AnswerWithin.{good_changes_fields}
use Rattle.client.proofs.AnswerRest.{knowledge_forward}
use Rattle.client.proofs.answer.read_rest.Goals as goal
use Rattle.client.proofs.answer.read_rest.Goals.{After-ends}

pub closed-mark-requires : goal.closed-mark-requires
closed-mark-requires c = rw (c.changes_fields.ensures, c.run-d.ensures) (good_changes_fields _)

-- what stands behind the storage index, behind the knowledge, and at the end
mark_is : (c : After-ends) → c.closed-mark.result ≡ mark_at c.args.s.now c.args.c
unfolding changes
mark_is c =
    rw (c.closed-mark.ensures, c.changes_fields.ensures, c.run-d.ensures, c.start-o.ensures, c.sub_response-sub.ensures)

knowledge_is : (c : After-ends) → c.behind_knowledge-k.result ≡ knowledge_end c.args.s.now c.args.c
knowledge_is c = c.behind_knowledge-k.ensures ∙ rw (mark_is c)

end_is : (c : After-ends) → c.ends.result ≡ rest_of c.args.s.now c.args.c
unfolding rest_of
end_is c = c.ends.ensures ∙ rw (knowledge_is c)

pub overflow_sub-result : goal.overflow_sub-result
overflow_sub-result c = let a = c.args in
    rw (c.place-3.ensures, c.place-2.ensures, mark_is (goal.at.overflow_sub-result c).After-ends, knowledge_is (goal.at.overflow_sub-result c).After-ends)
    (knowledge_forward a.s.now a.c _ _ (sym (end_is (goal.at.overflow_sub-result c).After-ends) ∙ c.in_ok-ends.was))

pub returns-in_err-ends : goal.returns-in_err-ends
unfolding answer_on
returns-in_err-ends c = let residual : c.from_residual.result ≡ Err c.in_err-ends.field-0.0 = search rules in
    rw residual (rw (sym (end_is (goal.at.returns-in_err-ends c).After-ends) ∙ c.in_err-ends.was))

pub returns : goal.returns
unfolding answer_on received_from
returns c = rw (
  sym (end_is (goal.at.returns c).After-ends) ∙ c.in_ok-ends.was,
  c.place-3.ensures,
  c.place-2.ensures,
  c.place.ensures,
  c.id_in.ensures,
  c.extended_guid.ensures,
  c.value-2.ensures,
  c.value.ensures,
  knowledge_is (goal.at.returns c).After-ends,
  mark_is (goal.at.returns c).After-ends,
  c.run-d.ensures,
  c.start-o.ensures,
  c.sub_response-sub.ensures,
)
