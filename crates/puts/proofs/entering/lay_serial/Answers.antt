-- `entering::lay_serial` meets its contract.
-- Assumes nothing.
use native.Mathlib.Omega.{arith}
use Rattle.laws.proofs.Placing.{laid_part}
use Rattle.numbers.specs.Serial.{serial_bytes}
use Rattle.numbers.specs.Results.Serial.{Numbered}
use Rattle.store.specs.Written.{key_guid}
use Rattle.puts.proofs.Lengths.{length_serial}
use Rattle.puts.proofs.entering.lay_serial.Goals as goal

pub returns : goal.returns
returns c = let a = c.args in
    let w = serial_bytes (Numbered (key_guid a.k) a.k.number) in
    let n = length_serial (key_guid a.k) a.k.number in
    (omega arith, laid_part a.at w a.out.now c.write_serial.new.out (omega arith) (rw c.from.ensures at c.write_serial.ensures.1))
