-- `lay::lay_end` meets its contract.
-- Assumes nothing.
use mathlib.Core.Path.{ap}
use Prim.Native.Nat.{ℕ, ◌+◌, ◌≤◌}
use native.Mathlib.Omega.{arith}
use borrow.Author.Tests.{le-ltb}
use Rattle.objects.specs.Header.{end_bytes}
use Rattle.laws.proofs.Placing.{laid_part}
use Rattle.store.proofs.lay.lay_end.Goals as goal

pub returns : goal.returns
returns c = let a = c.args in
    let h : a.kind ≤ 16383 = omega arith in (
      ap (λ (m : ℕ). a.at + m) c.end_length.ensures.0,
      laid_part a.at (end_bytes a.kind) a.out.now c.write_end.new.out (omega arith) (rw (le-ltb 16383 a.kind h) at c.write_end.ensures.1),
    )
