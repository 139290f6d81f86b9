-- `write::lay_changes` meets its contract: the start, the storage index and the byte behind it.
-- Assumes nothing.
use mathlib.Core.Path.{◌≡◌}
use mathlib.Core.Bool.{false}
use mathlib.Core.List.{[], ◌∷◌, ◌++◌}
use Prim.Native.Nat.{◌+◌}
use native.Mathlib.Omega.{arith}
use lib.ListN.{length, length-append}
use Rattle.numbers.specs.ExtendedGuid.{extended_guid_bytes}
use Rattle.objects.specs.Header.{start_bytes}
use Rattle.laws.specs.Placed.{Lays}
use Rattle.laws.proofs.Placing.{lays_then}
use Rattle.request.proofs.Bits.{byte_picked}
use Rattle.pages.specs.Written.{changes_data, changes_bytes, partial_byte}
use Rattle.pages.proofs.Lengths.{length_changes_data, length_changes_start, length_changes}
use Rattle.pages.proofs.write.lay_changes.Goals as goal

pub lay_start-behind_start-requires : goal.lay_start-behind_start-requires
lay_start-behind_start-requires c = let a = c.args in
    omega (arith, length_changes a.index a.partial, length_changes_start a.index _ c.extended_guid_length-n.ensures.0)

pub lay_extended_guid-behind_index-requires : goal.lay_extended_guid-behind_index-requires
lay_extended_guid-behind_index-requires c = let a = c.args in
    omega (arith, length_changes a.index a.partial, length_changes_start a.index _ c.extended_guid_length-n.ensures.0)

pub lay_byte-requires : goal.lay_byte-requires
lay_byte-requires c = let a = c.args in
    omega (arith, length_changes a.index a.partial, length_changes_start a.index _ c.extended_guid_length-n.ensures.0)

pub returns : goal.returns
unfolding changes_bytes changes_data partial_byte
returns c = let a = c.args in
    let d = changes_data a.index a.partial in
    let e = start_bytes 0x5F false (length d) in
    let f = extended_guid_bytes a.index in
    let g = partial_byte a.partial ∷ [] in
    let i = length_changes_data a.index a.partial in
    let n : c.extended_guid_length-n.result + 1 ≡ length d = omega arith in
    let j : length e ≡ 4 = rw n at (length_changes_start a.index _ c.extended_guid_length-n.ensures.0) in
    let k = length-append f g in
    let h = length_changes a.index a.partial in
    let s : Lays a.at e a.out.now c.lay_start-behind_start.result c.lay_start-behind_start.new.out = rw n at c.lay_start-behind_start.ensures in
    let t : Lays c.lay_extended_guid-behind_index.result g c.lay_extended_guid-behind_index.new.out c.lay_byte.result c.lay_byte.new.out = rw (c.from.ensures, byte_picked) at c.lay_byte.ensures in
    lays_then a.at e (f ++ g) a.out.now c.lay_start-behind_start.result c.lay_start-behind_start.new.out c.lay_byte.result c.lay_byte.new.out (omega arith) s
    (lays_then c.lay_start-behind_start.result f g c.lay_start-behind_start.new.out c.lay_extended_guid-behind_index.result c.lay_extended_guid-behind_index.new.out c.lay_byte.result c.lay_byte.new.out (omega arith)
    c.lay_extended_guid-behind_index.ensures t)
