-- `keep::size` meets its contract.
-- Assumes nothing.
use mathlib.Core.Path.{◌≡◌}
use Prim.Native.Nat.{◌+◌}
use native.Mathlib.Omega.{arith}
use lib.ListN.{length}
use Rattle.store.specs.Written.{framed}
use Rattle.enter.proofs.PackageLengths.{length_framed}
use Rattle.book.specs.Plan.{sides_of, planned_bytes}
use Rattle.book.proofs.Outcomes.{refused_gives, sized_long, sized_short, sized_gives}
use Rattle.book.proofs.Turns.{length_planned}
use Rattle.book.proofs.keep.size.Goals as goal

pub overflow_add-whole : goal.overflow_add-whole
overflow_add-whole c = let f = c.requires.few in
    let r = c.planned_length-whole.ensures.1 in
    omega arith

pub returns-then-whole-gt-LONGEST_INPUT : goal.returns-then-whole-gt-LONGEST_INPUT
returns-then-whole-gt-LONGEST_INPUT c = let a = c.args in
    let w = planned_bytes (sides_of a.book a.answer) a.plan.now in
    let e : 4 + c.planned_length-whole.result ≡ length (framed w) =
    (let f = length_framed w in
    let p = length_planned a.book.bytes.now a.book.elements.rows.now a.book.elements.ids.now a.answer.bytes.now a.answer.elements.rows.now a.answer.elements.ids.now a.plan.now c.requires in
    let r = c.planned_length-whole.ensures.0 in
    omega arith) in
    rw (sized_long (framed w) (length a.newbook.now) _ e c.if-whole-gt-LONGEST_INPUT.true, c.at_place.ensures) (refused_gives _ a.newbook.now)

pub returns-then-newbook-whole : goal.returns-then-newbook-whole
returns-then-newbook-whole c = let a = c.args in
    let w = planned_bytes (sides_of a.book a.answer) a.plan.now in
    let e : 4 + c.planned_length-whole.result ≡ length (framed w) =
    (let f = length_framed w in
    let p = length_planned a.book.bytes.now a.book.elements.rows.now a.book.elements.ids.now a.answer.bytes.now a.answer.elements.rows.now a.answer.elements.ids.now a.plan.now c.requires in
    let r = c.planned_length-whole.ensures.0 in
    omega arith) in
    rw (sized_short (framed w) (length a.newbook.now) _ e c.if-whole-gt-LONGEST_INPUT.false c.if-newbook-whole.true, c.too_short.ensures) (refused_gives _ a.newbook.now)

pub lay_book-requires : goal.lay_book-requires
lay_book-requires c = let a = c.args in
    let w = planned_bytes (sides_of a.book a.answer) a.plan.now in
    let e : 4 + c.planned_length-whole.result ≡ length (framed w) =
    (let f = length_framed w in
    let p = length_planned a.book.bytes.now a.book.elements.rows.now a.book.elements.ids.now a.answer.bytes.now a.answer.elements.rows.now a.answer.elements.ids.now a.plan.now c.requires in
    let r = c.planned_length-whole.ensures.0 in
    omega arith) in
    let l = c.if-newbook-whole.false in
    (c.requires, omega arith)

pub returns : goal.returns
returns c = let a = c.args in
    let w = planned_bytes (sides_of a.book a.answer) a.plan.now in
    let e : 4 + c.planned_length-whole.result ≡ length (framed w) =
    (let f = length_framed w in
    let p = length_planned a.book.bytes.now a.book.elements.rows.now a.book.elements.ids.now a.answer.bytes.now a.answer.elements.rows.now a.answer.elements.ids.now a.plan.now c.requires in
    let r = c.planned_length-whole.ensures.0 in
    omega arith) in
    sized_gives (framed w) (length a.newbook.now) _ e c.if-whole-gt-LONGEST_INPUT.false c.if-newbook-whole.false a.newbook.now c.lay_book.new.out c.lay_book.result c.lay_book.ensures
