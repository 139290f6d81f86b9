-- `extended_guid::read_long` meets its contract: the tests that led to a `return` say which case of `named_of` holds.
-- Assumes nothing.
use mathlib.Core.Path.{◌≡◌, ◌∙◌}
use native.Mathlib.Omega.{arith}
use borrow.Author.Tests.{lt-ltb, le-ltb}
use Prim.Native.Nat.{◌^◌, ◌<◌}
use Rattle.laws.proofs.Parts.{tail_part}
use lib.ListN.{take, drop, length-take}
use Rattle.laws.specs.Bytes.{le}
use Rattle.laws.proofs.Numbers.{le_lt, take_bytes, drop_bytes}
use Rattle.numbers.specs.ExtendedGuid.{long_form, named_of}
use Rattle.numbers.proofs.extended_guid.read_long.Goals as goal

pub returns-then-s-lt21 : goal.returns-then-s-lt21
unfolding long_form named_of
returns-then-s-lt21 c = rw (lt-ltb _ _ c.if-s-lt21.true, c.at_front.ensures)

pub returns-then-x-lt131072 : goal.returns-then-x-lt131072
unfolding long_form named_of
returns-then-x-lt131072 c = let s = c.args.s.now in
    let h = rw (c.read_le-x.ensures, tail_part 17 s) at c.if-x-lt131072.true in
    rw (le-ltb _ _ c.if-s-lt21.false, lt-ltb _ _ h, c.at_front-then-x-lt131072.ensures)

pub overflow_cast-result : goal.overflow_cast-result
overflow_cast-result c = let s = c.args.s.now in
    let b = take_bytes 4 (drop 17 s) (drop_bytes 17 s (λ i. (c.type_inv.s i).fits)) in
    let l : le (take 4 (drop 17 s)) < 256 ^ 4 = le_lt 4 (take 4 (drop 17 s)) (simp length-take (omega arith)) b in
    let e : c.read_le-x.result ≡ le (take 4 (drop 17 s)) = c.read_le-x.ensures ∙ rw (tail_part 17 s) in
    omega arith

pub returns : goal.returns
unfolding long_form named_of
returns c = let s = c.args.s.now in
    let e : c.read_le-x.result ≡ le (take 4 (drop 17 s)) = c.read_le-x.ensures ∙ rw (tail_part 17 s) in
    let h = rw e at c.if-x-lt131072.false in
    rw (le-ltb _ _ c.if-s-lt21.false, le-ltb _ _ h, e, c.guid_at-g.ensures, tail_part 1 s)
