-- `lay::lay_start` meets its contract.
-- Assumes nothing.
use mathlib.Core.Path.{ap}
use Prim.Native.Nat.{ℕ, ◌+◌, ◌≤◌}
use native.Mathlib.Omega.{arith}
use borrow.Author.Tests.{le-ltb}
use Rattle.objects.specs.Header.{start_bytes}
use Rattle.laws.proofs.Placing.{laid_part}
use Rattle.store.proofs.KnowledgeLengths.{length_either}
use Rattle.store.proofs.lay.lay_start.Goals as goal

pub returns : goal.returns
returns c = let a = c.args in
    let w = start_bytes a.kind a.compound a.n in
    let h : a.kind ≤ 16383 = omega arith in
    let e = c.start_length.ensures in (
      ap (λ (m : ℕ). a.at + m) (length_either c.start_length.result a.kind a.n a.compound e.0 e.1),
      laid_part a.at w a.out.now c.write_start.new.out (omega arith) (rw (le-ltb 16383 a.kind h) at c.write_start.ensures.1),
    )
