-- `put_answer::read_put_rest` meets its contract: the knowledge's length is what lies between its start and its end.
-- Assumes nothing.
use Rattle.std.specs.Prelude.{Err}
use Rattle.std.proofs.Common.{rules}
use mathlib.Core.Path.{◌≡◌, sym, ◌∙◌}
use Rattle.client.specs.Read.{behind_knowledge}
use Rattle.client.specs.ReadPut.{put_known, received_put_from, put_rest_of, put_answer_on}
use Rattle.client.proofs.AnswerRest.{put_forward}
use Rattle.client.proofs.put_answer.read_put_rest.Goals as goal
use Rattle.client.proofs.put_answer.read_put_rest.Goals.{After-ends}

-- what stands behind the knowledge, and at the end
knowledge_is : (c : After-ends) → c.behind_knowledge-k.result ≡ behind_knowledge c.args.s.now (put_known c.args.s.now c.args.c)
knowledge_is c = c.behind_knowledge-k.ensures ∙ rw c.sub_response-sub.ensures

end_is : (c : After-ends) → c.ends.result ≡ put_rest_of c.args.s.now c.args.c
unfolding put_rest_of
end_is c = c.ends.ensures ∙ rw (knowledge_is c)

pub overflow_sub-result : goal.overflow_sub-result
overflow_sub-result c = let a = c.args in
    rw (c.place-3.ensures, c.place-2.ensures, knowledge_is (goal.at.overflow_sub-result c).After-ends, c.sub_response-sub.ensures)
    (put_forward a.s.now a.c _ _ (sym (end_is (goal.at.overflow_sub-result c).After-ends) ∙ c.in_ok-ends.was))

pub returns-in_err-ends : goal.returns-in_err-ends
unfolding put_answer_on
returns-in_err-ends c = let residual : c.from_residual.result ≡ Err c.in_err-ends.field-0.0 = search rules in
    rw residual (rw (sym (end_is (goal.at.returns-in_err-ends c).After-ends) ∙ c.in_err-ends.was))

pub returns : goal.returns
unfolding put_answer_on received_put_from
returns c = rw (
  sym (end_is (goal.at.returns c).After-ends) ∙ c.in_ok-ends.was,
  c.place-3.ensures,
  c.place-2.ensures,
  c.place.ensures,
  c.value.ensures,
  knowledge_is (goal.at.returns c).After-ends,
  c.sub_response-sub.ensures,
)
