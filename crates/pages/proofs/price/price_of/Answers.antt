-- `price::price_of` meets its contract.
-- Assumes nothing.
use native.Mathlib.Omega.{arith}
use Rattle.pages.proofs.Pricing.{bytes_parts, rows_most, price_law}
use Rattle.pages.proofs.price.price_of.Goals as goal

pub overflow_sub-left : goal.overflow_sub-left
overflow_sub-left c = let a = c.args in
    omega (arith, bytes_parts a.t.now c.rows_before-at.result c.gather-g.result.next a.count c.gather-g.ensures.0 c.gather-g.ensures.1)

pub overflow_add-result-3 : goal.overflow_add-result-3
overflow_add-result-3 c = let a = c.args in
    omega (arith, rows_most a.t.now a.count)

pub returns : goal.returns
returns c = let a = c.args in
    price_law a.t.now a.count a.x _ c.rows_before-at.ensures c.gather-g.ensures.0 c.gather-g.ensures.1 c.gather-g.ensures.2 (omega arith) (omega arith)
