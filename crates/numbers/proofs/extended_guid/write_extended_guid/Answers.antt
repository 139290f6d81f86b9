-- `extended_guid::write_extended_guid` meets its contract: null, or the GUID and the number.
-- Assumes nothing.
use Rattle.numbers.specs.ExtendedGuid.{extended_guid_bytes}
use Rattle.numbers.proofs.extended_guid.write_extended_guid.Goals as goal

pub returns-in-None : goal.returns-in-None
unfolding extended_guid_bytes
returns-in-None c = rw c.in-None.is c.write_zero.ensures

pub returns-in-Some : goal.returns-in-Some
unfolding extended_guid_bytes
returns-in-Some c = rw c.in-Some.is c.write_named.ensures
