-- `bytes::put_le` meets its contract. The invariant: the first bytes of x stand in front of out's own, and `rest` is what is left of x.
-- Assumes nothing.
use mathlib.Core.Path.{◌≡◌, refl}
use mathlib.Core.List.{[]}
use native.Mathlib.Nat.{div-one, div-div-eq-div-mul, pow-suc}
use native.Mathlib.Numerals.{add-one}
use native.Mathlib.Omega.{arith}
use lib.ListN.{take, drop, drop_of_length-le}
use lib.Seq.{length-take-le}
use Rattle.std.proofs.lemmas.List.{append-nil}
use Rattle.laws.specs.Bytes.{bytes}
use Rattle.laws.proofs.Numbers.{put_step}
use Rattle.numbers.proofs.bytes.put_le.Goals as goal

pub loop-byte-init : goal.loop-byte-init
unfolding bytes
loop-byte-init c = (refl, rw div-one)

pub loop-byte-preserved : goal.loop-byte-preserved
loop-byte-preserved c = let a = c.args in
    let l = c.loop-byte in (
      rw (add-one, l.invariant.0, l.invariant.1) (put_step l.byte-index a.x (take a.n a.out.now) c.loop-byte-test.true),
      rw (add-one, l.invariant.1, div-div-eq-div-mul, pow-suc 256 l.byte-index),
    )

pub returns : goal.returns
returns c = let a = c.args in
    let l = c.loop-byte in
    let e : l.byte-index ≡ a.n = omega (arith, length-take-le a.n a.out.now c.requires) in
    let none : drop l.byte-index (take a.n a.out.now) ≡ [] = drop_of_length-le (take a.n a.out.now) {i = l.byte-index} c.loop-byte-test.false in
    rw (l.invariant.0, none, append-nil, e)
