-- `entering::lay_entering` meets its contract: the start, its data, and what is inside.
-- Assumes nothing.
use mathlib.Core.Path.{◌≡◌, sym, ap, ◌∙◌}
use mathlib.Core.Bool.{true}
use mathlib.Core.List.{◌++◌}
use Prim.Native.Nat.{ℕ}
use native.Mathlib.Omega.{arith}
use lib.ListN.{length, length-append}
use Rattle.laws.specs.Placed.{Lays}
use Rattle.laws.proofs.Placing.{lays_then}
use Rattle.objects.specs.Header.{start_bytes}
use Rattle.store.specs.Written.{inside_of}
use Rattle.puts.specs.Plan.{entering_data, data_length}
use Rattle.puts.proofs.Lengths.{length_data, length_parts, entering_parts}
use Rattle.puts.proofs.entering.lay_entering.Goals as goal

pub lay_start-behind_start-requires : goal.lay_start-behind_start-requires
lay_start-behind_start-requires c = let a = c.args in
    let z = length_parts a.request.now a.serial a.x in
    let y = length_data a.serial a.x in
    let d = ap (λ (n : ℕ). length (start_bytes 0x01 true n)) c.data_length-n.ensures.0 in
    (omega arith, omega arith)

pub lay_data-behind_data-requires : goal.lay_data-behind_data-requires
lay_data-behind_data-requires c = let a = c.args in
    let z = length_parts a.request.now a.serial a.x in
    let y = length_data a.serial a.x in
    let d = ap (λ (n : ℕ). length (start_bytes 0x01 true n)) c.data_length-n.ensures.0 in
    let g = c.lay_start-behind_start.ensures.0 in
    (c.requires.0.number, omega arith)

pub lay_part-requires : goal.lay_part-requires
lay_part-requires c = let a = c.args in
    let z = length_parts a.request.now a.serial a.x in
    let y = length_data a.serial a.x in
    let d = ap (λ (n : ℕ). length (start_bytes 0x01 true n)) c.data_length-n.ensures.0 in
    let t : c.part.result.now ≡ inside_of a.request.now a.x = (rw c.inside_from-from.ensures at c.part.ensures) ∙ sym c.requires.0.inner in
    let l = ap length t in
    let g = c.lay_start-behind_start.ensures.0 in
    let h = c.lay_data-behind_data.ensures.0 in
    omega arith

pub returns : goal.returns
returns c = let a = c.args in
    let z = length_parts a.request.now a.serial a.x in
    let y = length_data a.serial a.x in
    let d = ap (λ (n : ℕ). length (start_bytes 0x01 true n)) c.data_length-n.ensures.0 in
    let u = c.lay_start-behind_start in
    let v = c.lay_data-behind_data in
    let w = c.lay_part in
    let i = inside_of a.request.now a.x in
    let e = start_bytes 0x01 true (data_length a.x) in
    let n = entering_data a.serial a.x in
    let t : c.part.result.now ≡ i = (rw c.inside_from-from.ensures at c.part.ensures) ∙ sym c.requires.0.inner in
    let l : Lays a.at e a.out.now u.result u.new.out = rw c.data_length-n.ensures.0 at u.ensures in
    let o : Lays v.result i v.new.out w.result w.new.out = rw t at w.ensures in
    let b = length-append n i in
    let k = l.0 in
    rw (entering_parts a.request.now a.serial a.x)
    (lays_then a.at e (n ++ i) a.out.now u.result u.new.out w.result w.new.out (omega arith) l
    (lays_then u.result n i u.new.out v.result v.new.out w.result w.new.out (omega arith) v.ensures o))
