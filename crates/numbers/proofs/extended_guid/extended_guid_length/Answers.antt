-- `extended_guid::extended_guid_length` meets its contract: by the range that has the number.
-- Assumes nothing.
use mathlib.Core.Path.{refl}
use native.Mathlib.Omega.{arith}
use Rattle.numbers.specs.ExtendedGuid.{extended_guid_bytes}
use Rattle.numbers.proofs.ExtendedGuids.{named_5, named_10, named_17, named_32, length_short}
use Rattle.numbers.proofs.Guids.{length_tagged}
use Rattle.numbers.proofs.extended_guid.extended_guid_length.Goals as goal

pub returns-then-x-lt32 : goal.returns-then-x-lt32
unfolding extended_guid_bytes
returns-then-x-lt32 c = rw (c.in-Some.is, named_5 _ _ c.if-x-lt32.true, length_short) (refl, omega arith)

pub returns-then-x-lt1024 : goal.returns-then-x-lt1024
unfolding extended_guid_bytes
returns-then-x-lt1024 c = rw (c.in-Some.is, named_10 _ _ c.if-x-lt32.false c.if-x-lt1024.true, length_short) (refl, omega arith)

pub returns-then-x-lt131072 : goal.returns-then-x-lt131072
unfolding extended_guid_bytes
returns-then-x-lt131072 c = rw (c.in-Some.is, named_17 _ _ c.if-x-lt1024.false c.if-x-lt131072.true, length_short) (refl, omega arith)

pub returns-in-None : goal.returns-in-None
unfolding extended_guid_bytes
returns-in-None c = rw c.in-None.is (refl, omega arith)

pub returns-else-x-lt131072 : goal.returns-else-x-lt131072
unfolding extended_guid_bytes
returns-else-x-lt131072 c = rw (c.in-Some.is, named_32 _ _ c.if-x-lt131072.false, length_tagged) (refl, omega arith)
