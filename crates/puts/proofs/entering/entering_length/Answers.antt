-- `entering::entering_length` meets its contract.
-- Assumes nothing.
use mathlib.Core.Path.{ap}
use mathlib.Core.Bool.{true}
use Prim.Native.Nat.{ℕ}
use lib.ListN.{length}
use Rattle.objects.specs.Header.{start_bytes}
use native.Mathlib.Omega.{arith}
use Rattle.puts.specs.Plan.{entering_length}
use Rattle.puts.proofs.entering.entering_length.Goals as goal

pub returns : goal.returns
unfolding entering_length
returns c = let d = c.data_length-n.ensures in
    let m = ap (λ (n : ℕ). length (start_bytes 0x01 true n)) d.0 in
    let e = c.start_length.ensures.0 in
    let l = c.start_length.ensures.2 in
    let i = c.inside_from.ensures in
    let w = c.requires.within in
    let v = c.requires.inside in
    (omega arith, omega arith)
