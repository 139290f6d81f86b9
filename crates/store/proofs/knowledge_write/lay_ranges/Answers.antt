-- `knowledge_write::lay_ranges` meets its contract. The invariant: with the rows still to come laid at p, out is what it is to be.
-- Assumes nothing.
use mathlib.Core.Path.{refl, sym, ap, ◌∙◌}
use mathlib.Core.List.{List}
use Prim.Native.Nat.{ℕ, ◌+◌, ◌-◌, ◌≤◌, ◌<◌}
use native.Mathlib.Omega.{arith}
use lib.ListN.{length}
use Rattle.ranges.specs.RangeTable.{range_at, ranges_at}
use Rattle.store.specs.KnowledgeWritten.{range_bytes, ranges_bytes}
use Rattle.laws.specs.Placed.{laid, Lays}
use Rattle.laws.proofs.Placing.{laid_nothing, lays_first}
use Rattle.store.proofs.KnowledgeLengths.{rows_front, bytes_turn, bytes_end, length_turn}
use Rattle.store.proofs.knowledge_write.lay_ranges.Goals as goal

pub loop-i-init : goal.loop-i-init
loop-i-init c = let a = c.args in
    let e = ap ranges_bytes (rows_front a.table.now a.rows) in
    (refl, omega (arith, ap length e), ap (λ (w : List ℕ). laid a.at w a.out.now) (sym e))

pub loop-i-preserved : goal.loop-i-preserved
loop-i-preserved c = let a = c.args in
    let t = a.table.now in
    let i = c.loop-i.i in
    let h : i < a.rows = omega arith in
    let m = length_turn t i a.rows h in
    let b : c.loop-i.p + length (ranges_bytes (ranges_at t i (a.rows - i))) ≤ length c.loop-i.out = omega arith in
    let e : Lays c.loop-i.p (range_bytes (range_at t i)) c.loop-i.out c.lay_range-p.result c.lay_range-p.new.out = rw c.range_at.ensures at c.lay_range-p.ensures in
    let f = e.0 in (
      omega arith,
      omega arith,
      lays_first c.loop-i.p (ranges_bytes (ranges_at t i (a.rows - i))) (range_bytes (range_at t i)) (ranges_bytes (ranges_at t (i + 1) (a.rows - (i + 1)))) c.loop-i.out
          c.lay_range-p.result c.lay_range-p.new.out (laid a.at (ranges_bytes (ranges_at t 0 a.rows)) a.out.now) (bytes_turn t i a.rows h) b c.loop-i.invariant.2 e,
    )

pub returns : goal.returns
returns c = let a = c.args in
    let h : a.rows ≤ c.loop-i.i = omega arith in
    let e = bytes_end a.table.now c.loop-i.i a.rows h in (
      omega (arith, ap length e),
      sym (laid_nothing c.loop-i.p c.loop-i.out) ∙ ap (λ (w : List ℕ). laid c.loop-i.p w c.loop-i.out) (sym e) ∙ c.loop-i.invariant.2,
    )
