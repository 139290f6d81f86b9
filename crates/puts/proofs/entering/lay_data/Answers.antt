-- `entering::lay_data` meets its contract: the id, the serial number, the type.
-- Assumes nothing.
use mathlib.Core.Path.{ap}
use mathlib.Core.List.{◌++◌}
use native.Mathlib.Omega.{arith}
use lib.ListN.{length, length-append}
use Rattle.laws.specs.Placed.{Lays}
use Rattle.laws.proofs.Placing.{lays_then}
use Rattle.numbers.specs.Compact.{compact_bytes}
use Rattle.numbers.specs.ExtendedGuid.{extended_guid_bytes}
use Rattle.numbers.specs.Serial.{serial_bytes}
use Rattle.numbers.specs.Results.ExtendedGuid.{ExtendedGuid, Named}
use Rattle.numbers.specs.Results.Serial.{Numbered}
use Rattle.store.specs.Written.{key_guid}
use Rattle.puts.specs.Plan.{entering_data, data_length}
use Rattle.puts.proofs.Lengths.{length_serial, length_data}
use Rattle.puts.proofs.entering.lay_data.Goals as goal

pub lay_extended_guid-behind_id-requires : goal.lay_extended_guid-behind_id-requires
unfolding data_length
lay_extended_guid-behind_id-requires c = let a = c.args in
    let z = length_data a.serial a.x in
    let e = ap (λ (y : ExtendedGuid). length (extended_guid_bytes y)) c.named.ensures in
    omega arith

pub lay_serial-behind_serial-requires : goal.lay_serial-behind_serial-requires
unfolding data_length
lay_serial-behind_serial-requires c = let a = c.args in
    let z = length_data a.serial a.x in
    let e = ap (λ (y : ExtendedGuid). length (extended_guid_bytes y)) c.named.ensures in
    let g = c.lay_extended_guid-behind_id.ensures.0 in
    omega arith

pub lay_number-requires : goal.lay_number-requires
unfolding data_length
lay_number-requires c = let a = c.args in
    let z = length_data a.serial a.x in
    let e = ap (λ (y : ExtendedGuid). length (extended_guid_bytes y)) c.named.ensures in
    let g = c.lay_extended_guid-behind_id.ensures.0 in
    let h = c.lay_serial-behind_serial.ensures.0 in
    let m = length_serial (key_guid a.serial) a.serial.number in
    omega arith

pub returns : goal.returns
unfolding entering_data data_length
returns c = let a = c.args in
    let z = length_data a.serial a.x in
    let e = ap (λ (y : ExtendedGuid). length (extended_guid_bytes y)) c.named.ensures in
    let x = c.lay_extended_guid-behind_id in
    let y = c.lay_serial-behind_serial in
    let v = c.lay_number in
    let i = extended_guid_bytes (Named (key_guid a.x.id) a.x.id.number) in
    let n = serial_bytes (Numbered (key_guid a.serial) a.serial.number) in
    let t = compact_bytes a.x.kind in
    let l : Lays a.at i a.out.now x.result x.new.out = rw c.named.ensures at x.ensures in
    let b = length-append n t in
    let m = length_serial (key_guid a.serial) a.serial.number in
    let k = l.0 in
    lays_then a.at i (n ++ t) a.out.now x.result x.new.out v.result v.new.out (omega arith) l
    (lays_then x.result n t x.new.out y.result y.new.out v.result v.new.out (omega arith) y.ensures v.ensures)
