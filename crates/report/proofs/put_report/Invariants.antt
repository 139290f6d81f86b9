-- `put_report` meets its contract. The invariant: the first numbers stand at the report's front.
-- Assumes nothing.
use mathlib.Core.Path.{◌≡◌}
use Prim.Native.Nat.{◌*◌}
use lib.ListN.{take}
use Rattle.laws.specs.Placed.{Lays}
use Rattle.report.specs.Report.{numbers_bytes}
use Rattle.report.proofs.put_report.Given as goal

abbrev pub invariant-loop-x : goal.invariant-loop-x
invariant-loop-x l = (l.at ≡ l.x-index * 8) × Lays 0 (numbers_bytes (take l.x-index l.numbers)) l.initial.report l.at l.report
