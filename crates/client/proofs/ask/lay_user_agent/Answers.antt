-- `ask::lay_user_agent` meets its contract: two starts and an end.
-- Assumes nothing.
use mathlib.Core.Bool.{true}
use mathlib.Core.List.{◌++◌}
use Prim.Native.Nat.{◌+◌, ◌≤◌}
use native.Mathlib.Omega.{arith}
use lib.ListN.{length, length-append}
use Rattle.objects.specs.Header.{start_bytes, end_bytes}
use Rattle.laws.proofs.Placing.{lays_then}
use Rattle.client.specs.AskWritten.{user_agent_bytes}
use Rattle.client.proofs.AskLengths.{length_agent}
use Rattle.client.proofs.ask.lay_user_agent.Goals as goal

pub lay_start-behind_request-requires : goal.lay_start-behind_request-requires
lay_start-behind_request-requires c = omega (arith, length_agent)

pub lay_start-behind_start-requires : goal.lay_start-behind_start-requires
lay_start-behind_start-requires c = omega (arith, length_agent)

pub lay_end-requires : goal.lay_end-requires
lay_end-requires c = omega (arith, length_agent)

pub returns : goal.returns
unfolding user_agent_bytes
returns c = let a = c.args in
    let e = start_bytes 0x40 true 0 in
    let f = start_bytes 0x5D true 0 in
    let g = end_bytes 0x5D in
    let l = length_agent in
    let h : a.at + 10 ≤ length a.out.now = omega arith in
    let l1 = length-append f g in
    lays_then a.at e (f ++ g) a.out.now c.lay_start-behind_request.result c.lay_start-behind_request.new.out c.lay_end.result c.lay_end.new.out (omega arith) c.lay_start-behind_request.ensures
    (lays_then c.lay_start-behind_request.result f g c.lay_start-behind_request.new.out c.lay_start-behind_start.result c.lay_start-behind_start.new.out c.lay_end.result c.lay_end.new.out (omega arith) c.lay_start-behind_start.ensures c.lay_end.ensures)
