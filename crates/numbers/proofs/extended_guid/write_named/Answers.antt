-- `extended_guid::write_named` meets its contract: by the range that has the number.
-- Assumes nothing.
use native.Mathlib.Omega.{arith}
use Rattle.numbers.proofs.ExtendedGuids.{named_5, named_10, named_17, named_32, room_5, room_10, room_17}
use Rattle.numbers.proofs.extended_guid.write_named.Goals as goal

pub write_short-requires : goal.write_short-requires
write_short-requires c = (omega arith, omega arith, room_5 _ c.if-v-lt32.true)

pub returns-then-v-lt32 : goal.returns-then-v-lt32
returns-then-v-lt32 c = rw (named_5 _ _ c.if-v-lt32.true) c.write_short.ensures

pub write_short-requires-then-v-lt1024 : goal.write_short-requires-then-v-lt1024
write_short-requires-then-v-lt1024 c = (omega arith, omega arith, room_10 _ c.if-v-lt1024.true)

pub returns-then-v-lt1024 : goal.returns-then-v-lt1024
returns-then-v-lt1024 c = rw (named_10 _ _ c.if-v-lt32.false c.if-v-lt1024.true) c.write_short-then-v-lt1024.ensures

pub write_short-requires-then-v-lt131072 : goal.write_short-requires-then-v-lt131072
write_short-requires-then-v-lt131072 c = (omega arith, omega arith, room_17 _ c.if-v-lt131072.true)

pub returns-then-v-lt131072 : goal.returns-then-v-lt131072
returns-then-v-lt131072 c = rw (named_17 _ _ c.if-v-lt1024.false c.if-v-lt131072.true) c.write_short-then-v-lt131072.ensures

pub returns : goal.returns
returns c = rw (named_32 _ _ c.if-v-lt131072.false) c.write_tagged.ensures
