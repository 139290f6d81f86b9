-- `ask::lay_ends` meets its contract: two ends, one behind the other.
-- Assumes nothing.
use Prim.Native.Nat.{◌+◌, ◌≤◌}
use native.Mathlib.Omega.{arith}
use lib.ListN.{length}
use Rattle.objects.specs.Header.{end_bytes}
use Rattle.laws.proofs.Placing.{lays_then}
use Rattle.client.specs.AskWritten.{ask_ends}
use Rattle.client.proofs.AskLengths.{length_ends}
use Rattle.client.proofs.ask.lay_ends.Goals as goal

pub lay_end-behind_sub_request-requires : goal.lay_end-behind_sub_request-requires
lay_end-behind_sub_request-requires c = omega (arith, length_ends)

pub lay_end-requires : goal.lay_end-requires
lay_end-requires c = omega (arith, length_ends)

pub returns : goal.returns
unfolding ask_ends
returns c = let a = c.args in
    let e = end_bytes 0x42 in
    let f = end_bytes 0x40 in
    let l = length_ends in
    let h : a.at + 4 ≤ length a.out.now = omega arith in
    lays_then a.at e f a.out.now c.lay_end-behind_sub_request.result c.lay_end-behind_sub_request.new.out c.lay_end.result c.lay_end.new.out (omega arith) c.lay_end-behind_sub_request.ensures c.lay_end.ensures
