-- `ask::lay_identified` meets its contract: three parts, one behind the other.
-- Assumes nothing.
use mathlib.Core.List.{◌++◌}
use Prim.Native.Nat.{◌+◌, ◌≤◌}
use native.Mathlib.Omega.{arith}
use lib.ListN.{length, length-append}
use Rattle.request.specs.Message.{request_signature}
use Rattle.request.specs.Response.{version_bytes}
use Rattle.laws.proofs.Placing.{lays_then}
use Rattle.request.proofs.ResponseLengths.{length_versions}
use Rattle.numbers.specs.Compact.{compact_bytes}
use Rattle.client.specs.AskWritten.{user_agent_bytes, sub_request_bytes, identified_bytes}
use Rattle.client.proofs.AskLengths.{length_agent, length_sub, length_identified}
use Rattle.client.proofs.ask.lay_identified.Goals as goal

pub lay_versions-behind_versions-requires : goal.lay_versions-behind_versions-requires
lay_versions-behind_versions-requires c = let a = c.args in
    omega (arith, length_versions request_signature, length_identified a.kind a.id)

pub lay_user_agent-behind_agent-requires : goal.lay_user_agent-behind_agent-requires
lay_user_agent-behind_agent-requires c = let a = c.args in
    omega (arith, length_versions request_signature, length_agent, length_identified a.kind a.id)

pub lay_sub_request-requires : goal.lay_sub_request-requires
lay_sub_request-requires c = let a = c.args in
    omega (arith, length_versions request_signature, length_agent, length_sub a.kind a.id, length_identified a.kind a.id)

pub returns : goal.returns
unfolding identified_bytes
returns c = let a = c.args in
    let e = version_bytes request_signature in
    let f = user_agent_bytes in
    let g = sub_request_bytes a.kind a.id in
    let m = length_versions request_signature in
    let n = length_agent in
    let o = length_sub a.kind a.id in
    let h : a.at + (27 + length (compact_bytes a.id) + length (compact_bytes a.kind)) ≤ length a.out.now = omega (arith, length_identified a.kind a.id) in
    let l1 = length-append f g in
    lays_then a.at e (f ++ g) a.out.now c.lay_versions-behind_versions.result c.lay_versions-behind_versions.new.out c.lay_sub_request.result c.lay_sub_request.new.out (omega arith) c.lay_versions-behind_versions.ensures
    (lays_then c.lay_versions-behind_versions.result f g c.lay_versions-behind_versions.new.out c.lay_user_agent-behind_agent.result c.lay_user_agent-behind_agent.new.out c.lay_sub_request.result c.lay_sub_request.new.out (omega arith) c.lay_user_agent-behind_agent.ensures c.lay_sub_request.ensures)
