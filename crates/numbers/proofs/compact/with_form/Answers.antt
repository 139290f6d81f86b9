-- `compact::with_form` meets its contract.
-- Assumes nothing.
use Prim.Native.Nat.{◌^◌, ◌≤◌}
use native.Mathlib.Nat.{pow-le-pow_right}
use native.Mathlib.Omega.{arith}
use lib.Dec.{lit<}
use Rattle.laws.proofs.Numbers.{shl_one}
use Rattle.numbers.proofs.Forms.{with_form_shl}
use Rattle.numbers.proofs.compact.with_form.Goals as goal

pub overflow_mul-result : goal.overflow_mul-result
overflow_mul-result c =
    let low : 2 ^ c.args.k ≤ 2 ^ 7 = pow-le-pow_right {n = 2} (lit< tt) {i = c.args.k} {j = 7} (omega arith) in
    omega (arith, shl_one c.args.k (omega arith))

pub overflow_mul-result-2 : goal.overflow_mul-result-2
overflow_mul-result-2 c = omega (arith, with_form_shl c.args.k c.args.v (omega arith))

pub overflow_add-result : goal.overflow_add-result
overflow_add-result c = omega (arith, with_form_shl c.args.k c.args.v (omega arith))

pub returns : goal.returns
returns c = with_form_shl c.args.k c.args.v (omega arith)
