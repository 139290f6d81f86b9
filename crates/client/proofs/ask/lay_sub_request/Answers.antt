-- `ask::lay_sub_request` meets its contract: the start, and the data behind it.
-- Assumes nothing.
use mathlib.Core.Path.{◌≡◌}
use mathlib.Core.Bool.{true}
use mathlib.Core.List.{◌++◌}
use Prim.Native.Nat.{◌+◌}
use native.Mathlib.Omega.{arith}
use lib.ListN.{length, length-append}
use Rattle.numbers.specs.Compact.{compact_bytes}
use Rattle.objects.specs.Header.{start_bytes}
use Rattle.laws.specs.Placed.{Lays}
use Rattle.laws.proofs.Placing.{lays_then}
use Rattle.client.specs.AskWritten.{sub_request_data, sub_request_bytes}
use Rattle.client.proofs.AskLengths.{length_zero, length_sub_data, length_sub_start, length_sub}
use Rattle.client.proofs.ask.lay_sub_request.Goals as goal

pub lay_start-behind_start-requires : goal.lay_start-behind_start-requires
lay_start-behind_start-requires c = let a = c.args in
    omega (arith, length_zero, length_sub a.kind a.id, length_sub_start a.kind a.id _ _ c.compact_length.ensures.0 c.compact_length-2.ensures.0)

pub lay_number-behind_id-requires : goal.lay_number-behind_id-requires
lay_number-behind_id-requires c = let a = c.args in
    omega (arith, length_zero, length_sub a.kind a.id, length_sub_start a.kind a.id _ _ c.compact_length.ensures.0 c.compact_length-2.ensures.0)

pub lay_number-behind_type-requires : goal.lay_number-behind_type-requires
lay_number-behind_type-requires c = let a = c.args in
    omega (arith, length_zero, length_sub a.kind a.id, length_sub_start a.kind a.id _ _ c.compact_length.ensures.0 c.compact_length-2.ensures.0)

pub lay_number-requires : goal.lay_number-requires
lay_number-requires c = let a = c.args in
    omega (arith, length_zero, length_sub a.kind a.id, length_sub_start a.kind a.id _ _ c.compact_length.ensures.0 c.compact_length-2.ensures.0)

pub returns : goal.returns
unfolding sub_request_bytes sub_request_data
returns c = let a = c.args in
    let d = sub_request_data a.kind a.id in
    let e = start_bytes 0x42 true (length d) in
    let f = compact_bytes a.id in
    let g = compact_bytes a.kind in
    let o = compact_bytes 0 in
    let q = length_zero in
    let i = length_sub_data a.kind a.id in
    let n : c.compact_length.result + c.compact_length-2.result + 1 ≡ length d = omega arith in
    let j : length e ≡ 4 = rw n at (length_sub_start a.kind a.id _ _ c.compact_length.ensures.0 c.compact_length-2.ensures.0) in
    let k = length-append f (g ++ o) in
    let l = length-append g o in
    let h = length_sub a.kind a.id in
    let s : Lays a.at e a.out.now c.lay_start-behind_start.result c.lay_start-behind_start.new.out = rw n at c.lay_start-behind_start.ensures in
    lays_then a.at e (f ++ (g ++ o)) a.out.now c.lay_start-behind_start.result c.lay_start-behind_start.new.out c.lay_number.result c.lay_number.new.out (omega arith) s
    (lays_then c.lay_start-behind_start.result f (g ++ o) c.lay_start-behind_start.new.out c.lay_number-behind_id.result c.lay_number-behind_id.new.out c.lay_number.result c.lay_number.new.out (omega arith) c.lay_number-behind_id.ensures
    (lays_then c.lay_number-behind_id.result g o c.lay_number-behind_id.new.out c.lay_number-behind_type.result c.lay_number-behind_type.new.out c.lay_number.result c.lay_number.new.out (omega arith)
    c.lay_number-behind_type.ensures c.lay_number.ensures))
