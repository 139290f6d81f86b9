-- `put::lay_put_changes` meets its contract: the start, and the data behind it.
-- Assumes nothing.
use mathlib.Core.Path.{◌≡◌}
use mathlib.Core.Bool.{false}
use mathlib.Core.List.{List, [], ◌∷◌, ◌++◌}
use Prim.Native.Nat.{ℕ, ◌+◌}
use native.Mathlib.Omega.{arith}
use lib.ListN.{length, length-append}
use Rattle.numbers.specs.ExtendedGuid.{extended_guid_bytes}
use Rattle.objects.specs.Header.{start_bytes}
use Rattle.laws.specs.Placed.{Lays}
use Rattle.laws.proofs.Placing.{lays_then}
use Rattle.client.specs.PutWritten.{put_changes_data, put_changes_bytes}
use Rattle.client.proofs.PutLengths.{length_put_data, length_put_start, length_put_changes}
use Rattle.client.proofs.put.lay_put_changes.Goals as goal

pub lay_start-behind_start-requires : goal.lay_start-behind_start-requires
lay_start-behind_start-requires c = let a = c.args in
    omega (arith, length_put_changes a.expected, length_put_start a.expected _ c.extended_guid_length-n.ensures.0)

pub lay_byte-behind_null-requires : goal.lay_byte-behind_null-requires
lay_byte-behind_null-requires c = let a = c.args in
    omega (arith, length_put_changes a.expected, length_put_start a.expected _ c.extended_guid_length-n.ensures.0)

pub lay_extended_guid-behind_expected-requires : goal.lay_extended_guid-behind_expected-requires
lay_extended_guid-behind_expected-requires c = let a = c.args in
    omega (arith, length_put_changes a.expected, length_put_start a.expected _ c.extended_guid_length-n.ensures.0)

pub lay_byte-requires : goal.lay_byte-requires
lay_byte-requires c = let a = c.args in
    omega (arith, length_put_changes a.expected, length_put_start a.expected _ c.extended_guid_length-n.ensures.0)

pub returns : goal.returns
unfolding put_changes_bytes put_changes_data extended_guid_bytes
returns c = let a = c.args in
    let d = put_changes_data a.expected in
    let e = start_bytes 0x5A false (length d) in
    let f = extended_guid_bytes a.expected in
    let o : List ℕ = 0 ∷ [] in
    let i = length_put_data a.expected in
    let n : c.extended_guid_length-n.result + 2 ≡ length d = omega arith in
    let j : length e ≡ 4 = rw n at (length_put_start a.expected _ c.extended_guid_length-n.ensures.0) in
    let h = length_put_changes a.expected in
    let s : Lays a.at e a.out.now c.lay_start-behind_start.result c.lay_start-behind_start.new.out = rw n at c.lay_start-behind_start.ensures in
    let l1 = length-append o (f ++ o) in
    let l2 = length-append f o in
    lays_then a.at e (o ++ (f ++ o)) a.out.now c.lay_start-behind_start.result c.lay_start-behind_start.new.out c.lay_byte.result c.lay_byte.new.out (omega arith) s
    (lays_then c.lay_start-behind_start.result o (f ++ o) c.lay_start-behind_start.new.out c.lay_byte-behind_null.result c.lay_byte-behind_null.new.out c.lay_byte.result c.lay_byte.new.out (omega arith) c.lay_byte-behind_null.ensures
    (lays_then c.lay_byte-behind_null.result f o c.lay_byte-behind_null.new.out c.lay_extended_guid-behind_expected.result c.lay_extended_guid-behind_expected.new.out c.lay_byte.result c.lay_byte.new.out (omega arith) c.lay_extended_guid-behind_expected.ensures c.lay_byte.ensures))
