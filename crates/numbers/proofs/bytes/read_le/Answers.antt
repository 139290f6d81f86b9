-- `bytes::read_le` meets its contract. The invariant: x is the number of the bytes from i up to n.
-- Assumes nothing.
use mathlib.Core.Path.{◌≡◌}
use Prim.Native.Nat.{◌<◌, ◌^◌, ◌*◌, ◌+◌, ◌-◌}
use native.Mathlib.Omega.{arith}
use lib.ListN.{get_or, take, drop, length-take, length-drop, drop_of_length-le}
use lib.Seq.{get_or-take}
use Rattle.laws.specs.Bytes.{le}
use Rattle.laws.proofs.Numbers.{le_lt, le_step, take_bytes, drop_bytes}
use Rattle.numbers.proofs.bytes.read_le.Goals as goal
use Rattle.numbers.proofs.bytes.read_le.Goals.{In-loop-i}

pub loop-i-init : goal.loop-i-init
unfolding le
loop-i-init c = rw (drop_of_length-le (take c.args.n c.args.s.now) {i = c.args.n} (simp length-take (omega arith)))

-- in a turn x has at most seven bytes
small : (c : In-loop-i) → c.loop-i.x < 256 ^ 7
small c =
    let a = c.args in
    let l = c.loop-i in
    rw l.invariant
    (le_lt 7 (drop l.i (take a.n a.s.now)) (simp (length-drop, length-take) (omega arith))
    (drop_bytes l.i (take a.n a.s.now) (take_bytes a.n a.s.now (λ i. (c.type_inv.s i).fits))))

pub overflow_mul-x : goal.overflow_mul-x
overflow_mul-x c = omega (arith, small c)

pub overflow_add-x : goal.overflow_add-x
overflow_add-x c = omega (arith, small (goal.at.overflow_add-x c).In-loop-i, c.type_inv.s (c.loop-i.i - 1))

pub loop-i-preserved : goal.loop-i-preserved
loop-i-preserved c =
    let a = c.args in
    let l = c.loop-i in
    let t = take a.n a.s.now in
    let e : le (drop (l.i - 1) t) ≡ le (drop l.i t) * 256 + get_or t (l.i - 1) 0 = le_step t l.i (omega arith) (simp length-take (omega arith)) in
    let g : get_or t (l.i - 1) 0 ≡ get_or a.s.now (l.i - 1) 0 = get_or-take a.n a.s.now (l.i - 1) 0 (omega arith) in
    cc
