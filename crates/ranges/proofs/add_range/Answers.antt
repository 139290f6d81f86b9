-- `ranges::add_range` meets its contract.
-- Assumes nothing.
use mathlib.Core.Path.{◌≡◌, ap, ◌∙◌}
use mathlib.Core.List.{List, ◌∷◌, ◌++◌}
use Prim.Native.Nat.{◌-◌}
use native.Mathlib.Omega.{arith}
use Rattle.talk.specs.Ranges.{insert}
use Rattle.talk.specs.declared.range.Range.{Range}
use Rattle.ranges.specs.RangeTable.{ranges_at}
use Rattle.ranges.proofs.RangeRows.{insert_at, add_full, add_done}
use Rattle.ranges.proofs.add_range.Goals as goal

pub returns-then-t-new : goal.returns-then-t-new
returns-then-t-new c = let a = c.args in
    let t = a.t.now in
    let i = c.rows_before-i.result in
    let y = c.gather-g.result.range in
    let j = c.gather-g.result.next in
    let e : insert a.x (ranges_at t 0 a.count) ≡ ranges_at t 0 i ++ (y ∷ ranges_at t j (a.count - j)) =
    insert_at t a.count a.x i c.rows_before-i.ensures ∙ ap (λ (l : List Range). ranges_at t 0 i ++ l) c.gather-g.ensures.2 in
    add_full t a.count i j y _ e (omega arith)

pub returns : goal.returns
returns c = let a = c.args in
    let t = a.t.now in
    let i = c.rows_before-i.result in
    let y = c.gather-g.result.range in
    let j = c.gather-g.result.next in
    let e : insert a.x (ranges_at t 0 a.count) ≡ ranges_at t 0 i ++ (y ∷ ranges_at t j (a.count - j)) =
    insert_at t a.count a.x i c.rows_before-i.ensures ∙ ap (λ (l : List Range). ranges_at t 0 i ++ l) c.gather-g.ensures.2 in
    add_done t a.count i j y _ e c.shift.new.t (omega arith) c.shift.ensures
