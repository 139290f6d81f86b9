-- `apply::lay_new_store` meets its contract: the package around what was planned.
-- Assumes nothing.
use mathlib.Core.Bool.{true}
use mathlib.Core.List.{[], ◌∷◌, ◌++◌}
use native.Mathlib.Omega.{arith}
use lib.ListN.{length-append}
use Rattle.laws.specs.Placed.{Lays}
use Rattle.laws.proofs.Placing.{lays_then}
use Rattle.objects.specs.Header.{start_bytes, end_bytes}
use Rattle.store.specs.Written.{package_front}
use Rattle.puts.specs.Plan.{sides_of, planned_bytes}
use Rattle.enter.proofs.PackageLengths.{length_package_front, length_framed}
use Rattle.puts.proofs.apply.lay_new_store.Goals as goal

pub lay_start-behind_start-requires : goal.lay_start-behind_start-requires
lay_start-behind_start-requires c = let a = c.args in
    let w = planned_bytes (sides_of a.inputs) a.plan.now in
    let e = length_framed w in
    let f = length_package_front in
    let h = c.requires.1 in
    (omega arith, omega arith)

pub lay_byte-behind_front-requires : goal.lay_byte-behind_front-requires
lay_byte-behind_front-requires c = let a = c.args in
    let w = planned_bytes (sides_of a.inputs) a.plan.now in
    let e = length_framed w in
    let f = length_package_front in
    let h = c.requires.1 in
    let x = c.lay_start-behind_start.ensures.0 in
    omega arith

pub lay_planned-behind_elements-requires : goal.lay_planned-behind_elements-requires
lay_planned-behind_elements-requires c = let a = c.args in
    let w = planned_bytes (sides_of a.inputs) a.plan.now in
    let e = length_framed w in
    let f = length_package_front in
    let h = c.requires.1 in
    let x = c.lay_start-behind_start.ensures.0 in
    let y = c.lay_byte-behind_front.ensures.0 in
    (c.requires.0, omega arith)

pub lay_end-requires : goal.lay_end-requires
lay_end-requires c = let a = c.args in
    let w = planned_bytes (sides_of a.inputs) a.plan.now in
    let e = length_framed w in
    let f = length_package_front in
    let h = c.requires.1 in
    let x = c.lay_start-behind_start.ensures.0 in
    let y = c.lay_byte-behind_front.ensures.0 in
    let z = c.lay_planned-behind_elements.ensures.0 in
    (omega arith, omega arith)

pub returns : goal.returns
unfolding package_front
returns c = let a = c.args in
    let w = planned_bytes (sides_of a.inputs) a.plan.now in
    let e = length_framed w in
    let f = length_package_front in
    let h = c.requires.1 in
    let u = c.lay_start-behind_start in
    let v = c.lay_byte-behind_front in
    let x = c.lay_planned-behind_elements in
    let y = c.lay_end in
    let b = start_bytes 0x15 true 1 in
    let m = length-append w (end_bytes 0x15) in
    let f1 = u.ensures.0 in
    let f2 = v.ensures.0 in
    let f3 = x.ensures.0 in
    let n : Lays 0 package_front a.out.now v.result v.new.out = lays_then 0 b (0 ∷ []) a.out.now u.result u.new.out v.result v.new.out (omega arith) u.ensures v.ensures in
    lays_then 0 package_front (w ++ end_bytes 0x15) a.out.now v.result v.new.out y.result y.new.out (omega arith) n
    (lays_then v.result w (end_bytes 0x15) v.new.out x.result x.new.out y.result y.new.out (omega arith) x.ensures y.ensures)
