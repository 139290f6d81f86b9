-- `compact::put_form` meets its contract: the long form is a byte 128 and then the value, any other one number.
-- Assumes nothing.
use mathlib.Core.Path.{◌≡◌}
use native.Mathlib.Omega.{arith}
use lib.ListN.{set, length-set}
use Rattle.numbers.specs.Compact.{size_of}
use Rattle.laws.proofs.Parts.{tail_part, tail_length, mid_tail}
use Rattle.numbers.proofs.Forms.{size_long, size_short, long_put, with_form_short}
use Rattle.numbers.proofs.compact.put_form.Goals as goal

pub bounds-out-0 : goal.bounds-out-0
bounds-out-0 c = omega (arith, size_long _ c.if-k-eq7.true)

pub slice_bounds-put_le-count : goal.slice_bounds-put_le-count
slice_bounds-put_le-count c = simp length-set (omega (arith, size_long _ c.if-k-eq7.true))

pub slice_bounds-put_le-start : goal.slice_bounds-put_le-start
slice_bounds-put_le-start c = slice_bounds-put_le-count c

pub put_le-requires : goal.put_le-requires
put_le-requires c = tail_length 1 8 (set c.args.out.now 0 128) (simp length-set (omega (arith, size_long _ c.if-k-eq7.true)))

pub returns-then-k-eq7 : goal.returns-then-k-eq7
returns-then-k-eq7 c = let a = c.args in
    let e : a.k ≡ 7 = c.if-k-eq7.true in
    let z : size_of a.k ≡ 9 = size_long _ e in
    rw (mid_tail, c.put_le.ensures, tail_part, z, e) (long_put a.out.now a.v (omega arith))

pub with_form-requires : goal.with_form-requires
with_form-requires c = let short = with_form_short c.args.k c.args.v c.requires.0 c.if-k-eq7.false c.requires.2 in (omega arith, omega arith)

pub put_le-requires-2 : goal.put_le-requires-2
put_le-requires-2 c = omega (arith, size_short _ c.if-k-eq7.false)

pub returns : goal.returns
returns c = cc (c.with_form.ensures, size_short _ c.if-k-eq7.false)
