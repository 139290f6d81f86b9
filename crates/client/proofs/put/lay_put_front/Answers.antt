-- `put::lay_put_front` meets its contract: five parts, one behind the other.
-- Assumes nothing.
use mathlib.Core.Bool.{true}
use mathlib.Core.List.{List, [], ◌∷◌, ◌++◌}
use Prim.Native.Nat.{ℕ, ◌+◌, ◌≤◌}
use native.Mathlib.Omega.{arith}
use lib.ListN.{length, length-append}
use Rattle.laws.proofs.Placing.{lays_then}
use Rattle.numbers.specs.Compact.{compact_bytes}
use Rattle.numbers.specs.ExtendedGuid.{extended_guid_bytes}
use Rattle.objects.specs.Header.{start_bytes, end_bytes}
use Rattle.store.specs.Written.{package_front}
use Rattle.puts.proofs.NewLengths.{length_five}
use Rattle.client.specs.AskWritten.{identified_bytes}
use Rattle.client.specs.PutWritten.{put_changes_bytes, put_front_bytes}
use Rattle.client.proofs.AskLengths.{length_identified}
use Rattle.client.proofs.PutLengths.{length_package, length_put_changes, length_put_front}
use Rattle.client.proofs.put.lay_put_front.Goals as goal

pub lay_identified-behind_fields-requires : goal.lay_identified-behind_fields-requires
lay_identified-behind_fields-requires c = let a = c.args in
    omega (arith, length_identified 5 a.id, length_five, length_put_changes a.expected, length_package, length_put_front a.id a.expected)

pub lay_put_changes-behind_put-requires : goal.lay_put_changes-behind_put-requires
lay_put_changes-behind_put-requires c = let a = c.args in
    omega (arith, length_identified 5 a.id, length_five, length_put_changes a.expected, length_package, length_put_front a.id a.expected)

pub lay_end-behind_sub_request-requires : goal.lay_end-behind_sub_request-requires
lay_end-behind_sub_request-requires c = let a = c.args in
    omega (arith, length_identified 5 a.id, length_five, length_put_changes a.expected, length_package, length_put_front a.id a.expected)

pub lay_start-behind_start-requires : goal.lay_start-behind_start-requires
lay_start-behind_start-requires c = let a = c.args in
    omega (arith, length_identified 5 a.id, length_five, length_put_changes a.expected, length_package, length_put_front a.id a.expected)

pub lay_byte-requires : goal.lay_byte-requires
lay_byte-requires c = let a = c.args in
    omega (arith, length_identified 5 a.id, length_five, length_put_changes a.expected, length_package, length_put_front a.id a.expected)

pub returns : goal.returns
unfolding put_front_bytes package_front
returns c = let a = c.args in
    let e = identified_bytes 5 a.id in
    let f = put_changes_bytes a.expected in
    let g = end_bytes 0x42 in
    let i = start_bytes 0x15 true 1 in
    let j : List ℕ = 0 ∷ [] in
    let m = length_identified 5 a.id in
    let n = length_five in
    let o = length_put_changes a.expected in
    let p = length_package in
    let h : a.at + (39 + length (compact_bytes a.id) + length (extended_guid_bytes a.expected)) ≤ length a.out.now = omega (arith, length_put_front a.id a.expected) in
    let l1 = length-append f (g ++ (i ++ j)) in
    let l2 = length-append g (i ++ j) in
    let l3 = length-append i j in
    lays_then a.at e (f ++ (g ++ (i ++ j))) a.out.now c.lay_identified-behind_fields.result c.lay_identified-behind_fields.new.out c.lay_byte.result c.lay_byte.new.out (omega arith) c.lay_identified-behind_fields.ensures
    (lays_then c.lay_identified-behind_fields.result f (g ++ (i ++ j)) c.lay_identified-behind_fields.new.out c.lay_put_changes-behind_put.result c.lay_put_changes-behind_put.new.out c.lay_byte.result c.lay_byte.new.out (omega arith) c.lay_put_changes-behind_put.ensures
    (lays_then c.lay_put_changes-behind_put.result g (i ++ j) c.lay_put_changes-behind_put.new.out c.lay_end-behind_sub_request.result c.lay_end-behind_sub_request.new.out c.lay_byte.result c.lay_byte.new.out (omega arith) c.lay_end-behind_sub_request.ensures
    (lays_then c.lay_end-behind_sub_request.result i j c.lay_end-behind_sub_request.new.out c.lay_start-behind_start.result c.lay_start-behind_start.new.out c.lay_byte.result c.lay_byte.new.out (omega arith) c.lay_start-behind_start.ensures c.lay_byte.ensures)))
