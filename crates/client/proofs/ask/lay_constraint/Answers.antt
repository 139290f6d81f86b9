-- `ask::lay_constraint` meets its contract: nothing, or the start and the limit.
-- Assumes nothing.
use mathlib.Core.Path.{◌≡◌, refl, sym}
use mathlib.Core.Bool.{false}
use native.Mathlib.Omega.{arith}
use lib.ListN.{length}
use Rattle.numbers.specs.Compact.{compact_bytes}
use Rattle.objects.specs.Header.{start_bytes}
use Rattle.laws.specs.Placed.{Lays}
use Rattle.laws.proofs.Placing.{lays_then, laid_nothing}
use Rattle.client.proofs.AskLengths.{no_constraint, a_constraint, length_constraint_start, length_constraint}
use Rattle.client.proofs.ask.lay_constraint.Goals as goal

pub returns-then-limit-eq-NO_LIMIT : goal.returns-then-limit-eq-NO_LIMIT
returns-then-limit-eq-NO_LIMIT c = let a = c.args in
    rw (no_constraint a.limit c.if-limit-eq-NO_LIMIT.true) (omega arith, sym (laid_nothing a.at a.out.now))

pub lay_start-behind_start-requires : goal.lay_start-behind_start-requires
lay_start-behind_start-requires c = let a = c.args in
    omega (arith, length_constraint a.limit c.if-limit-eq-NO_LIMIT.false, length_constraint_start a.limit _ c.compact_length-n.ensures.0)

pub lay_number-requires : goal.lay_number-requires
lay_number-requires c = let a = c.args in
    omega (arith, length_constraint a.limit c.if-limit-eq-NO_LIMIT.false, length_constraint_start a.limit _ c.compact_length-n.ensures.0)

pub returns : goal.returns
returns c = let a = c.args in
    let f = compact_bytes a.limit in
    let e = start_bytes 0x59 false (length f) in
    let i = c.if-limit-eq-NO_LIMIT.false in
    let n : c.compact_length-n.result ≡ length f = c.compact_length-n.ensures.0 in
    let j : length e ≡ 4 = length_constraint_start a.limit (length f) refl in
    let h = length_constraint a.limit i in
    let s : Lays a.at e a.out.now c.lay_start-behind_start.result c.lay_start-behind_start.new.out = rw n at c.lay_start-behind_start.ensures in
    rw (a_constraint a.limit i)
    (lays_then a.at e f a.out.now c.lay_start-behind_start.result c.lay_start-behind_start.new.out c.lay_number.result c.lay_number.new.out (omega arith) s c.lay_number.ensures)
