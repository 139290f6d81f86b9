-- `new_store::lay_planned` meets its contract. The invariant: with the elements still to come laid at p, out is what it is to be.
-- Assumes nothing.
use mathlib.Core.Path.{◌≡◌, refl, sym, ap, ◌∙◌}
use mathlib.Core.List.{List, ◌++◌}
use Prim.Native.Nat.{ℕ, ◌+◌}
use native.Mathlib.Omega.{arith}
use lib.ListN.{length, drop, get_or, length-append}
use Rattle.laws.specs.Placed.{laid}
use Rattle.laws.proofs.Placing.{laid_nothing, lays_first}
use Rattle.puts.specs.Plan.{sides_of, source_bytes, planned_bytes}
use Rattle.puts.proofs.Plans.{bytes_turn, bytes_end}
use Rattle.puts.proofs.new_store.lay_planned.Goals as goal

pub loop-source-init : goal.loop-source-init
loop-source-init c = (refl, refl, refl)

pub lay_source-p-requires : goal.lay_source-p-requires
lay_source-p-requires c = let a = c.args in
    let l = c.loop-source in
    let t = bytes_turn a.plan.now l.source-index c.loop-source-test.true (sides_of a.inputs) in
    let b = length-append (source_bytes (sides_of a.inputs) (get_or a.plan.now l.source-index 0)) (planned_bytes (sides_of a.inputs) (drop (l.source-index + 1) a.plan.now)) in
    let e = ap length t in
    let i = l.invariant in
    let h = c.requires.1 in
    rw c.from.ensures (c.requires.0.fits l.source-index c.loop-source-test.true, omega arith)

pub loop-source-preserved : goal.loop-source-preserved
loop-source-preserved c = let a = c.args in
    let l = c.loop-source in
    let y = c.lay_source-p in
    let o = (sides_of a.inputs) in
    let x = source_bytes o (get_or a.plan.now l.source-index 0) in
    let w = planned_bytes o (drop l.source-index a.plan.now) in
    let r = planned_bytes o (drop (l.source-index + 1) a.plan.now) in
    let t : w ≡ x ++ r = bytes_turn a.plan.now l.source-index c.loop-source-test.true o in
    let b = length-append x r in
    let e = ap length t in
    let i = l.invariant in
    let h = c.requires.1 in
    let z = rw c.from.ensures at y.ensures in
    let f = z.0 in
    (omega arith, omega arith, lays_first l.p w x r l.out y.result y.new.out _ t (omega arith) i.2 z)

pub shape_of-out : goal.shape_of-out
shape_of-out c = c.loop-source.invariant.0

pub returns : goal.returns
returns c = let l = c.loop-source in
    let a = c.args in
    let e = bytes_end a.plan.now l.source-index c.loop-source-test.false (sides_of a.inputs) in
    let f = ap length e in
    let i = l.invariant in
    (omega arith, sym (laid_nothing l.p l.out) ∙ ap (λ (w : List ℕ). laid l.p w l.out) (sym e) ∙ i.2)
