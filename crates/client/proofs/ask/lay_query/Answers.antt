-- `ask::lay_query` meets its contract: the start, and a zero byte.
-- Assumes nothing.
use mathlib.Core.Bool.{false}
use mathlib.Core.List.{List, [], ◌∷◌}
use Prim.Native.Nat.{ℕ, ◌+◌, ◌≤◌}
use native.Mathlib.Omega.{arith}
use lib.ListN.{length}
use Rattle.objects.specs.Header.{start_bytes}
use Rattle.laws.proofs.Placing.{lays_then}
use Rattle.client.specs.AskWritten.{query_bytes}
use Rattle.client.proofs.AskLengths.{length_query}
use Rattle.client.proofs.ask.lay_query.Goals as goal

pub lay_start-behind_start-requires : goal.lay_start-behind_start-requires
lay_start-behind_start-requires c = omega (arith, length_query)

pub lay_byte-requires : goal.lay_byte-requires
lay_byte-requires c = omega (arith, length_query)

pub returns : goal.returns
unfolding query_bytes
returns c = let a = c.args in
    let e = start_bytes 0x51 false 1 in
    let o : List ℕ = 0 ∷ [] in
    let l = length_query in
    let h : a.at + 5 ≤ length a.out.now = omega arith in
    lays_then a.at e o a.out.now c.lay_start-behind_start.result c.lay_start-behind_start.new.out c.lay_byte.result c.lay_byte.new.out (omega arith) c.lay_start-behind_start.ensures c.lay_byte.ensures
