-- `serial::write_serial` meets its contract: null, or the GUID and the number.
-- Assumes nothing.
use Rattle.numbers.specs.Serial.{serial_bytes}
use Rattle.numbers.proofs.serial.write_serial.Goals as goal

pub returns-in-None : goal.returns-in-None
unfolding serial_bytes
returns-in-None c = rw c.in-None.is c.write_zero.ensures

pub returns-in-Some : goal.returns-in-Some
unfolding serial_bytes
returns-in-Some c = rw c.in-Some.is c.write_tagged.ensures
