-- `put_answer::read_put_answer` meets its contract.
-- Assumes nothing.
use Rattle.std.specs.Prelude.{Err}
use Rattle.std.proofs.Common.{rules}
use mathlib.Core.Path.{◌≡◌, sym, ◌∙◌}
use borrow.Author.Tests.{lt-ltb, le-ltb}
use Rattle.objects.specs.Steps.{valued}
use Rattle.objects.specs.Results.Reading.{Refused}
use Rattle.client.specs.Read.{package_in}
use Rattle.client.specs.ReadPut.{put_answer_end, put_answer_on, put_answer_in}
use Rattle.client.proofs.AnswerWithin.{good_response_start}
use Rattle.client.proofs.AnswerRest.{put_rest_fault, package_refused, package_holds}
use Rattle.client.proofs.put_answer.read_put_answer.Goals as goal

pub returns-then-s-gt-LONGEST_ANSWER : goal.returns-then-s-gt-LONGEST_ANSWER
unfolding put_answer_in put_answer_end put_answer_on
returns-then-s-gt-LONGEST_ANSWER c = rw (lt-ltb _ _ c.if-s-gt-LONGEST_ANSWER.true, c.at_place.ensures)

pub read_package-requires : goal.read_package-requires
read_package-requires c = rw c.response_start.ensures (good_response_start _)

pub returns-in_err-e : goal.returns-in_err-e
unfolding put_answer_in put_answer_end put_answer_on valued
returns-in_err-e c = let residual : c.from_residual.result ≡ Err c.in_err-e.field-0.0 = search rules in
    rw residual (let s = c.args.s.now in
    let h = rw (c.answer_strictness.ensures, c.response_start.ensures) at c.read_package.ensures in
    let q : (package_in s).last ≡ Refused _ = package_refused _ _ _ (sym h.0 ∙ c.in_err-e.was) in
    rw (le-ltb _ _ c.if-s-gt-LONGEST_ANSWER.false, q, put_rest_fault s c.in_err-e.field-0.0))

pub returns : goal.returns
unfolding put_answer_in put_answer_end
returns c = let h = rw (c.answer_strictness.ensures, c.response_start.ensures) at c.read_package.ensures in
    let q = package_holds _ _ _ _ (sym h.0 ∙ c.in_ok-e.was) in
    rw (le-ltb _ _ c.if-s-gt-LONGEST_ANSWER.false, c.read_put_rest.ensures, q.1)
