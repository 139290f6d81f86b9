-- `put::lay_put` meets its contract: three parts, one behind the other.
-- Assumes nothing.
use mathlib.Core.List.{◌++◌}
use native.Mathlib.Omega.{arith}
use lib.ListN.{length-append}
use Rattle.laws.proofs.Placing.{lays_then}
use Rattle.client.specs.PutWritten.{put_front_bytes, put_ends_bytes, put_bytes}
use Rattle.client.proofs.PutLengths.{length_put_parts}
use Rattle.client.proofs.put.lay_put.Goals as goal

pub lay_put_front-behind_front-requires : goal.lay_put_front-behind_front-requires
lay_put_front-behind_front-requires c = let a = c.args in
    omega (arith, length_put_parts a.id a.expected a.elements.now)

pub lay_part-behind_elements-requires : goal.lay_part-behind_elements-requires
lay_part-behind_elements-requires c = let a = c.args in
    omega (arith, length_put_parts a.id a.expected a.elements.now)

pub lay_put_ends-requires : goal.lay_put_ends-requires
lay_put_ends-requires c = let a = c.args in
    omega (arith, length_put_parts a.id a.expected a.elements.now)

pub returns : goal.returns
unfolding put_bytes
returns c = let a = c.args in
    let e = put_front_bytes a.id a.expected in
    let f = a.elements.now in
    let g = put_ends_bytes in
    let h = length_put_parts a.id a.expected f in
    let l1 = length-append f g in
    lays_then 0 e (f ++ g) a.out.now c.lay_put_front-behind_front.result c.lay_put_front-behind_front.new.out c.lay_put_ends.result c.lay_put_ends.new.out (omega arith) c.lay_put_front-behind_front.ensures
    (lays_then c.lay_put_front-behind_front.result f g c.lay_put_front-behind_front.new.out c.lay_part-behind_elements.result c.lay_part-behind_elements.new.out c.lay_put_ends.result c.lay_put_ends.new.out (omega arith) c.lay_part-behind_elements.ensures c.lay_put_ends.ensures)
