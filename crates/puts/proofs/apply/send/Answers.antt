-- `apply::send` meets its contract.
-- Assumes nothing.
use mathlib.Core.Path.{◌≡◌, ap, ◌∙◌}
use mathlib.Core.List.{List, []}
use native.Mathlib.Omega.{arith}
use lib.ListN.{length}
use Rattle.laws.specs.Placed.{Lays}
use Rattle.talk.specs.declared.range.Range.{Range}
use Rattle.store.specs.Written.{framed}
use Rattle.puts.specs.Plan.{sides_of, planned_bytes, planned_ranges}
use Rattle.puts.specs.Applied.{put_answer_bytes}
use Rattle.puts.proofs.Outcomes.{refused_gives, answered_short, answered_sent}
use Rattle.puts.proofs.apply.send.Goals as goal

pub planned_ranges-held-requires : goal.planned_ranges-held-requires
planned_ranges-held-requires c = (c.requires.0, omega arith)

pub returns-then-out-needed : goal.returns-then-out-needed
returns-then-out-needed c = let a = c.args in
    let new = framed (planned_bytes (sides_of a.inputs) a.plan.now) in
    let l = planned_ranges a.inputs.stored.elements.rows.now a.inputs.stored.elements.ids.now a.inputs.guid a.inputs.highest [] a.plan.now in
    let n : c.answer_length-needed.result ≡ length (put_answer_bytes a.id l) = c.answer_length-needed.ensures ∙ ap (λ (r : List Range). length (put_answer_bytes a.id r)) c.planned_ranges-held.ensures.1 in
    rw (answered_short a.id new l (length a.out.now) c.answer_length-needed.result n c.if-out-needed.true, c.too_short.ensures) (refused_gives _ a.newstore.now a.out.now)

pub lay_answer-requires : goal.lay_answer-requires
lay_answer-requires c = let a = c.args in
    let h = c.planned_ranges-held.ensures in
    let m = h.0 in
    let b = c.requires.0.few in
    let e = c.answer_length-needed.ensures in
    ((omega arith, h.2), omega arith)

pub returns : goal.returns
returns c = let a = c.args in
    let new = framed (planned_bytes (sides_of a.inputs) a.plan.now) in
    let l = planned_ranges a.inputs.stored.elements.rows.now a.inputs.stored.elements.ids.now a.inputs.guid a.inputs.highest [] a.plan.now in
    let n : c.answer_length-needed.result ≡ length (put_answer_bytes a.id l) = c.answer_length-needed.ensures ∙ ap (λ (r : List Range). length (put_answer_bytes a.id r)) c.planned_ranges-held.ensures.1 in
    let w : Lays 0 (put_answer_bytes a.id l) a.out.now c.lay_answer.result c.lay_answer.new.out = rw c.planned_ranges-held.ensures.1 at c.lay_answer.ensures in
    answered_sent a.id new l (length a.out.now) c.answer_length-needed.result n c.if-out-needed.false a.newstore.now c.lay_new_store.new.out a.out.now c.lay_answer.new.out a.whole
    c.lay_new_store.result c.lay_answer.result c.requires.1 c.lay_new_store.ensures w
