-- `ask::lay_request` meets its contract: five parts, one behind the other.
-- Assumes nothing.
use mathlib.Core.List.{◌++◌}
use native.Mathlib.Omega.{arith}
use lib.ListN.{length-append}
use Rattle.laws.proofs.Placing.{lays_then}
use Rattle.client.specs.AskWritten.{constraint_bytes, ask_front, ask_ends, ask_bytes}
use Rattle.client.proofs.AskLengths.{length_parts}
use Rattle.client.proofs.ask.lay_request.Goals as goal

pub lay_front-behind_front-requires : goal.lay_front-behind_front-requires
lay_front-behind_front-requires c = let a = c.args in
    omega (arith, length_parts a.id a.limit a.filters.now a.knowledge.now)

pub lay_constraint-behind_constraint-requires : goal.lay_constraint-behind_constraint-requires
lay_constraint-behind_constraint-requires c = let a = c.args in
    omega (arith, length_parts a.id a.limit a.filters.now a.knowledge.now)

pub lay_part-behind_filters-requires : goal.lay_part-behind_filters-requires
lay_part-behind_filters-requires c = let a = c.args in
    omega (arith, length_parts a.id a.limit a.filters.now a.knowledge.now)

pub lay_part-behind_knowledge-requires : goal.lay_part-behind_knowledge-requires
lay_part-behind_knowledge-requires c = let a = c.args in
    omega (arith, length_parts a.id a.limit a.filters.now a.knowledge.now)

pub lay_ends-requires : goal.lay_ends-requires
lay_ends-requires c = let a = c.args in
    omega (arith, length_parts a.id a.limit a.filters.now a.knowledge.now)

pub returns : goal.returns
unfolding ask_bytes
returns c = let a = c.args in
    let e = ask_front a.id in
    let f = constraint_bytes a.limit in
    let g = a.filters.now in
    let i = a.knowledge.now in
    let j = ask_ends in
    let h = length_parts a.id a.limit g i in
    let l1 = length-append f (g ++ (i ++ j)) in
    let l2 = length-append g (i ++ j) in
    let l3 = length-append i j in
    lays_then 0 e (f ++ (g ++ (i ++ j))) a.out.now c.lay_front-behind_front.result c.lay_front-behind_front.new.out c.lay_ends.result c.lay_ends.new.out (omega arith) c.lay_front-behind_front.ensures
    (lays_then c.lay_front-behind_front.result f (g ++ (i ++ j)) c.lay_front-behind_front.new.out c.lay_constraint-behind_constraint.result c.lay_constraint-behind_constraint.new.out c.lay_ends.result c.lay_ends.new.out (omega arith) c.lay_constraint-behind_constraint.ensures
    (lays_then c.lay_constraint-behind_constraint.result g (i ++ j) c.lay_constraint-behind_constraint.new.out c.lay_part-behind_filters.result c.lay_part-behind_filters.new.out c.lay_ends.result c.lay_ends.new.out (omega arith) c.lay_part-behind_filters.ensures
    (lays_then c.lay_part-behind_filters.result i j c.lay_part-behind_filters.new.out c.lay_part-behind_knowledge.result c.lay_part-behind_knowledge.new.out c.lay_ends.result c.lay_ends.new.out (omega arith) c.lay_part-behind_knowledge.ensures c.lay_ends.ensures)))
