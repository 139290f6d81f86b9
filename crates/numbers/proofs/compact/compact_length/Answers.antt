-- `compact::compact_length` meets its contract.
-- Assumes nothing.
use mathlib.Core.Path.{◌≡◌, refl}
use native.Mathlib.Omega.{arith}
use lib.ListN.{length}
use Rattle.numbers.specs.Compact.{compact_bytes, form_of}
use Rattle.numbers.proofs.Forms.{form_of_le, length_compact, size_le}
use Rattle.numbers.proofs.compact.compact_length.Goals as goal

pub returns-then-v-eq0 : goal.returns-then-v-eq0
unfolding compact_bytes
returns-then-v-eq0 c = rw c.if-v-eq0.true (refl, omega arith)

pub size_of-requires : goal.size_of-requires
size_of-requires c = omega (arith, form_of_le c.args.v)

pub returns : goal.returns
returns c = let v = c.args.v in
    let e : c.size_of.result ≡ length (compact_bytes v) = cc (length_compact v c.if-v-eq0.false) in
    (e, omega (arith, length_compact v c.if-v-eq0.false, size_le (form_of v) (form_of_le v)))
