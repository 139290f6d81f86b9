-- `ask::lay_arguments` meets its contract: the start, the flags and two nulls.
-- Assumes nothing.
use mathlib.Core.Bool.{false}
use mathlib.Core.List.{List, [], ◌∷◌, ◌++◌}
use Prim.Native.Nat.{ℕ, ◌+◌, ◌≤◌}
use native.Mathlib.Omega.{arith}
use lib.ListN.{length, length-append}
use Rattle.numbers.specs.ExtendedGuid.{extended_guid_bytes}
use Rattle.objects.specs.Header.{start_bytes}
use Rattle.laws.proofs.Placing.{lays_then}
use Rattle.client.specs.AskWritten.{argument_data, argument_bytes}
use Rattle.client.proofs.AskLengths.{length_arguments}
use Rattle.client.proofs.ask.lay_arguments.Goals as goal

pub lay_start-behind_start-requires : goal.lay_start-behind_start-requires
lay_start-behind_start-requires c = omega (arith, length_arguments)

pub lay_byte-behind_flags-requires : goal.lay_byte-behind_flags-requires
lay_byte-behind_flags-requires c = omega (arith, length_arguments)

pub lay_byte-behind_first-requires : goal.lay_byte-behind_first-requires
lay_byte-behind_first-requires c = omega (arith, length_arguments)

pub lay_byte-requires : goal.lay_byte-requires
lay_byte-requires c = omega (arith, length_arguments)

pub returns : goal.returns
unfolding argument_bytes argument_data extended_guid_bytes
returns c = let a = c.args in
    let e = start_bytes 0x5B false 3 in
    let f : List ℕ = 3 ∷ [] in
    let o : List ℕ = 0 ∷ [] in
    let l = length_arguments in
    let h : a.at + 7 ≤ length a.out.now = omega arith in
    let l1 = length-append f (o ++ o) in
    let l2 = length-append o o in
    lays_then a.at e (f ++ (o ++ o)) a.out.now c.lay_start-behind_start.result c.lay_start-behind_start.new.out c.lay_byte.result c.lay_byte.new.out (omega arith) c.lay_start-behind_start.ensures
    (lays_then c.lay_start-behind_start.result f (o ++ o) c.lay_start-behind_start.new.out c.lay_byte-behind_flags.result c.lay_byte-behind_flags.new.out c.lay_byte.result c.lay_byte.new.out (omega arith) c.lay_byte-behind_flags.ensures
    (lays_then c.lay_byte-behind_flags.result o o c.lay_byte-behind_flags.new.out c.lay_byte-behind_first.result c.lay_byte-behind_first.new.out c.lay_byte.result c.lay_byte.new.out (omega arith) c.lay_byte-behind_first.ensures c.lay_byte.ensures))
