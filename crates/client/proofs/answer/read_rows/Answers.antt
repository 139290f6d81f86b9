-- `answer::read_rows` meets its contract.
-- Assumes nothing.
use Rattle.std.specs.Prelude.{Err}
use Rattle.std.proofs.Common.{rules}
use mathlib.Core.Path.{◌≡◌, refl, sym, ◌∙◌}
use borrow.Author.Tests.{lt-ltb, le-ltb}
use Rattle.objects.specs.Steps.{valued}
use Rattle.objects.specs.Results.Reading.{Refused}
use Rattle.client.specs.Read.{package_in, answer_end, answer_on, answer_in}
use Rattle.client.specs.Accessor.{rows_received, ids_received}
use Rattle.client.proofs.AnswerWithin.{good_response_start}
use Rattle.client.proofs.AnswerRest.{rest_fault, package_refused, package_holds}
use Rattle.client.proofs.answer.read_rows.Goals as goal

pub returns-then-s-gt-LONGEST_ANSWER : goal.returns-then-s-gt-LONGEST_ANSWER
unfolding answer_in answer_end answer_on rows_received ids_received
returns-then-s-gt-LONGEST_ANSWER c = rw (lt-ltb _ _ c.if-s-gt-LONGEST_ANSWER.true, c.at_place.ensures) (refl, refl, refl)

pub read_package-requires : goal.read_package-requires
read_package-requires c = rw c.response_start-c.ensures (good_response_start _)

pub returns-in_err-e : goal.returns-in_err-e
unfolding answer_in answer_end answer_on valued rows_received ids_received
returns-in_err-e c = let residual : c.from_residual.result ≡ Err c.in_err-e.field-0.0 = search rules in
    rw residual (let s = c.args.s.now in
    let h = rw (c.answer_strictness.ensures, c.response_start-c.ensures) at c.read_package.ensures in
    let q : (package_in s).last ≡ Refused _ = package_refused _ _ _ (sym h.0 ∙ c.in_err-e.was) in
    rw (le-ltb _ _ c.if-s-gt-LONGEST_ANSWER.false) (rw (q, rest_fault s c.in_err-e.field-0.0), h.1, h.2))

pub returns : goal.returns
unfolding answer_in answer_end rows_received ids_received
returns c = let s = c.args.s.now in
    let h = rw (c.answer_strictness.ensures, c.response_start-c.ensures) at c.read_package.ensures in
    let q = package_holds _ _ _ _ (sym h.0 ∙ c.in_ok-e.was) in
    rw (le-ltb _ _ c.if-s-gt-LONGEST_ANSWER.false)
    (rw (c.read_rest.ensures, c.place-first.ensures, c.package_start.ensures, c.response_start-c.ensures, q.0, q.1), h.1, h.2)
