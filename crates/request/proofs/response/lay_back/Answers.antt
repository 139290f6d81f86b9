-- `response::lay_back` meets its contract: two ends, one behind the other.
-- Assumes nothing.
use Prim.Native.Nat.{◌+◌, ◌≤◌}
use native.Mathlib.Omega.{arith}
use lib.ListN.{length}
use Rattle.objects.specs.Header.{end_bytes}
use Rattle.laws.proofs.Placing.{lays_then}
use Rattle.request.specs.Response.{ends_bytes}
use Rattle.request.proofs.ResponseLengths.{length_back}
use Rattle.request.proofs.response.lay_back.Goals as goal

pub lay_end-behind_sub_response-requires : goal.lay_end-behind_sub_response-requires
lay_end-behind_sub_response-requires c = omega (arith, length_back)

pub lay_end-requires : goal.lay_end-requires
lay_end-requires c = omega (arith, length_back)

pub returns : goal.returns
unfolding ends_bytes
returns c = let a = c.args in
    let l = length_back in
    let h : a.at + 4 ≤ length a.out.now = omega arith in
    lays_then a.at (end_bytes 0x41) (end_bytes 0x62) a.out.now c.lay_end-behind_sub_response.result c.lay_end-behind_sub_response.new.out c.lay_end.result c.lay_end.new.out (omega arith)
    c.lay_end-behind_sub_response.ensures c.lay_end.ensures
