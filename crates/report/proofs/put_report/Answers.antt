-- `put_report` meets its contract. The invariant: the first numbers stand at the report's front.
-- Assumes nothing.
use mathlib.Core.Path.{◌≡◌, refl, sym}
use native.Mathlib.Omega.{arith}
use lib.ListN.{take, get_or}
use lib.Seq.{take_all}
use Rattle.laws.specs.Bytes.{bytes}
use Rattle.laws.specs.Placed.{Lays}
use Rattle.laws.proofs.Numbers.{length_bytes}
use Rattle.report.specs.Report.{numbers_bytes}
use Rattle.report.proofs.Numbers.{numbers_then, numbers_short, numbers_placed}
use Rattle.report.proofs.put_report.Goals as goal

pub returns-then-report-numbers : goal.returns-then-report-numbers
returns-then-report-numbers c = let a = c.args in sym (numbers_short a.numbers.now a.report.now c.if-report-numbers.true)

pub loop-x-init : goal.loop-x-init
unfolding numbers_bytes
loop-x-init c = (refl, (refl, refl))

pub loop-x-preserved : goal.loop-x-preserved
loop-x-preserved c = let a = c.args in
    let i = c.loop-x.x-index in
    let e : Lays c.loop-x.at (bytes 8 (get_or a.numbers.now i 0)) c.loop-x.report c.lay_le-at.result c.lay_le-at.new.out = c.lay_le-at.ensures in
    let m = length_bytes 8 (get_or a.numbers.now i 0) in
    let f = e.0 in
    (omega arith, numbers_then a.numbers.now a.report.now i c.loop-x.at c.loop-x.report c.lay_le-at.result c.lay_le-at.new.out (omega arith) (omega arith) c.loop-x.invariant.1 e)

pub returns : goal.returns
returns c = let a = c.args in
    let e : take c.loop-x.x-index a.numbers.now ≡ a.numbers.now = take_all c.loop-x.x-index a.numbers.now (omega arith) in
    numbers_placed a.numbers.now a.report.now c.loop-x.at c.loop-x.report (omega arith) (rw e at c.loop-x.invariant.1)
