-- `compact::write_compact` meets its contract: 0 is one byte; any other value is the number of its form.
-- Assumes nothing.
use mathlib.Core.Path.{◌≡◌, sym, ap, ◌∙◌}
use native.Mathlib.Omega.{arith}
use lib.ListN.{length}
use Rattle.numbers.specs.Compact.{size_of, compact_bytes}
use Rattle.numbers.proofs.Forms.{form_of_le, with_form_lt, compact_is, length_compact}
use Rattle.numbers.proofs.Calls.{wrote_short, wrote_done}
use Rattle.numbers.proofs.compact.write_compact.Goals as goal

pub returns-then-v-eq0 : goal.returns-then-v-eq0
unfolding compact_bytes
returns-then-v-eq0 c = let v = c.args.v in
    rw c.if-v-eq0.true c.write_zero.ensures

pub size_of-n-requires : goal.size_of-n-requires
size_of-n-requires c = omega (arith, form_of_le c.args.v)

pub returns-then-out-n : goal.returns-then-out-n
returns-then-out-n c = let a = c.args in
    let e : length (compact_bytes a.v) ≡ c.size_of-n.result =
    length_compact a.v c.if-v-eq0.false ∙ ap size_of (sym c.form_of-k.ensures) ∙ sym c.size_of-n.ensures in
    rw c.too_short.ensures (wrote_short (compact_bytes a.v) a.out.now c.size_of-n.result e c.if-out-n.true)

pub put_form-requires : goal.put_form-requires
put_form-requires c = let e = c.form_of-k.ensures in
    (omega (arith, form_of_le c.args.v), omega arith, rw e (with_form_lt c.args.v c.ranges.v.fits))

pub returns : goal.returns
returns c = let a = c.args in
    let n = c.if-v-eq0.false in
    let f = c.form_of-k.ensures in
    let e : length (compact_bytes a.v) ≡ c.size_of-n.result = length_compact a.v n ∙ ap size_of (sym f) ∙ sym c.size_of-n.ensures in
    wrote_done (compact_bytes a.v) a.out.now _ c.size_of-n.result e c.if-out-n.false (c.put_form.ensures ∙ rw (compact_is a.v n, c.size_of-n.ensures, f))
