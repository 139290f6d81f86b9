-- `ask::lay_front` meets its contract: three parts, one behind the other.
-- Assumes nothing.
use mathlib.Core.List.{◌++◌}
use Prim.Native.Nat.{◌+◌, ◌≤◌}
use native.Mathlib.Omega.{arith}
use lib.ListN.{length, length-append}
use Rattle.laws.proofs.Placing.{lays_then}
use Rattle.numbers.specs.Compact.{compact_bytes}
use Rattle.request.proofs.ResponseLengths.{length_two}
use Rattle.client.specs.AskWritten.{identified_bytes, query_bytes, argument_bytes, ask_front}
use Rattle.client.proofs.AskLengths.{length_query, length_arguments, length_identified, length_front}
use Rattle.client.proofs.ask.lay_front.Goals as goal

pub lay_identified-behind_sub_request-requires : goal.lay_identified-behind_sub_request-requires
lay_identified-behind_sub_request-requires c = let a = c.args in
    omega (arith, length_two, length_identified 2 a.id, length_front a.id)

pub lay_query-behind_query-requires : goal.lay_query-behind_query-requires
lay_query-behind_query-requires c = let a = c.args in
    omega (arith, length_two, length_identified 2 a.id, length_query, length_front a.id)

pub lay_arguments-requires : goal.lay_arguments-requires
lay_arguments-requires c = let a = c.args in
    omega (arith, length_two, length_identified 2 a.id, length_query, length_arguments, length_front a.id)

pub returns : goal.returns
unfolding ask_front
returns c = let a = c.args in
    let e = identified_bytes 2 a.id in
    let f = query_bytes in
    let g = argument_bytes in
    let m = length_identified 2 a.id in
    let n = length_two in
    let o = length_query in
    let p = length_arguments in
    let h : a.at + (40 + length (compact_bytes a.id)) ≤ length a.out.now = omega (arith, length_front a.id) in
    let l1 = length-append f g in
    lays_then a.at e (f ++ g) a.out.now c.lay_identified-behind_sub_request.result c.lay_identified-behind_sub_request.new.out c.lay_arguments.result c.lay_arguments.new.out (omega arith) c.lay_identified-behind_sub_request.ensures
    (lays_then c.lay_identified-behind_sub_request.result f g c.lay_identified-behind_sub_request.new.out c.lay_query-behind_query.result c.lay_query-behind_query.new.out c.lay_arguments.result c.lay_arguments.new.out (omega arith) c.lay_query-behind_query.ensures c.lay_arguments.ensures)
