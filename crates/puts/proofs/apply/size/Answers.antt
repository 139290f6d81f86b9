-- `apply::size` meets its contract.
-- Assumes nothing.
use mathlib.Core.Path.{◌≡◌}
use mathlib.Core.List.{[]}
use Prim.Native.Nat.{◌+◌}
use native.Mathlib.Omega.{arith}
use lib.ListN.{length}
use Rattle.store.specs.Written.{framed}
use Rattle.puts.specs.Plan.{sides_of, planned_bytes, planned_ranges}
use Rattle.enter.proofs.PackageLengths.{length_framed}
use Rattle.puts.proofs.NewLengths.{length_planned}
use Rattle.puts.proofs.Outcomes.{refused_gives, sized_long, sized_short, sized_fits}
use Rattle.puts.proofs.apply.size.Goals as goal

pub returns-then-whole-gt-LONGEST_INPUT : goal.returns-then-whole-gt-LONGEST_INPUT
returns-then-whole-gt-LONGEST_INPUT c = let a = c.args in
    let w = planned_bytes (sides_of a.inputs) a.plan.now in
    let l = planned_ranges a.inputs.stored.elements.rows.now a.inputs.stored.elements.ids.now a.inputs.guid a.inputs.highest [] a.plan.now in
    let e : 4 + c.planned_length-whole.result ≡ length (framed w) =
    (let f = length_framed w in
    let p = length_planned a.inputs.stored.bytes.now a.inputs.stored.elements.rows.now a.inputs.stored.elements.ids.now a.inputs.handed.bytes.now a.inputs.handed.elements.rows.now a.inputs.handed.elements.ids.now a.inputs.guid a.inputs.highest a.plan.now c.requires in
    let r = c.planned_length-whole.ensures.0 in
    omega arith) in
    rw (sized_long a.id (framed w) l (length a.newstore.now) (length a.out.now) _ e c.if-whole-gt-LONGEST_INPUT.true, c.at_place.ensures) (refused_gives _ a.newstore.now a.out.now)

pub returns-then-newstore-whole : goal.returns-then-newstore-whole
returns-then-newstore-whole c = let a = c.args in
    let w = planned_bytes (sides_of a.inputs) a.plan.now in
    let l = planned_ranges a.inputs.stored.elements.rows.now a.inputs.stored.elements.ids.now a.inputs.guid a.inputs.highest [] a.plan.now in
    let e : 4 + c.planned_length-whole.result ≡ length (framed w) =
    (let f = length_framed w in
    let p = length_planned a.inputs.stored.bytes.now a.inputs.stored.elements.rows.now a.inputs.stored.elements.ids.now a.inputs.handed.bytes.now a.inputs.handed.elements.rows.now a.inputs.handed.elements.ids.now a.inputs.guid a.inputs.highest a.plan.now c.requires in
    let r = c.planned_length-whole.ensures.0 in
    omega arith) in
    rw (sized_short a.id (framed w) l (length a.newstore.now) (length a.out.now) _ e c.if-whole-gt-LONGEST_INPUT.false c.if-newstore-whole.true, c.too_short.ensures) (refused_gives _ a.newstore.now a.out.now)

pub send-requires : goal.send-requires
send-requires c = let a = c.args in
    let w = planned_bytes (sides_of a.inputs) a.plan.now in
    let l = planned_ranges a.inputs.stored.elements.rows.now a.inputs.stored.elements.ids.now a.inputs.guid a.inputs.highest [] a.plan.now in
    let e : 4 + c.planned_length-whole.result ≡ length (framed w) =
    (let f = length_framed w in
    let p = length_planned a.inputs.stored.bytes.now a.inputs.stored.elements.rows.now a.inputs.stored.elements.ids.now a.inputs.handed.bytes.now a.inputs.handed.elements.rows.now a.inputs.handed.elements.ids.now a.inputs.guid a.inputs.highest a.plan.now c.requires in
    let r = c.planned_length-whole.ensures.0 in
    omega arith) in
    (c.requires, e, c.if-newstore-whole.false)

pub returns : goal.returns
returns c = let a = c.args in
    let w = planned_bytes (sides_of a.inputs) a.plan.now in
    let l = planned_ranges a.inputs.stored.elements.rows.now a.inputs.stored.elements.ids.now a.inputs.guid a.inputs.highest [] a.plan.now in
    let e : 4 + c.planned_length-whole.result ≡ length (framed w) =
    (let f = length_framed w in
    let p = length_planned a.inputs.stored.bytes.now a.inputs.stored.elements.rows.now a.inputs.stored.elements.ids.now a.inputs.handed.bytes.now a.inputs.handed.elements.rows.now a.inputs.handed.elements.ids.now a.inputs.guid a.inputs.highest a.plan.now c.requires in
    let r = c.planned_length-whole.ensures.0 in
    omega arith) in
    rw (sized_fits a.id (framed w) l (length a.newstore.now) (length a.out.now) _ e c.if-whole-gt-LONGEST_INPUT.false c.if-newstore-whole.false) c.send.ensures
