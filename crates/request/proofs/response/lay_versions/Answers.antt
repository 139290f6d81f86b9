-- `response::lay_versions` meets its contract: three numbers, one behind the other.
-- Assumes nothing.
use mathlib.Core.List.{◌++◌}
use Prim.Native.Nat.{◌+◌, ◌≤◌}
use native.Mathlib.Omega.{arith}
use lib.ListN.{length, length-append}
use Rattle.laws.specs.Bytes.{bytes}
use Rattle.laws.proofs.Numbers.{length_bytes}
use Rattle.laws.proofs.Placing.{lays_then}
use Rattle.request.specs.Response.{version_bytes}
use Rattle.request.proofs.ResponseLengths.{length_versions}
use Rattle.request.proofs.response.lay_versions.Goals as goal

pub lay_le-behind_version-requires : goal.lay_le-behind_version-requires
lay_le-behind_version-requires c = let l = length_versions c.args.signature in omega arith

pub lay_le-behind_minimum-requires : goal.lay_le-behind_minimum-requires
lay_le-behind_minimum-requires c = let l = length_versions c.args.signature in omega (arith, length_bytes 2 12)

pub lay_le-requires : goal.lay_le-requires
lay_le-requires c = let l = length_versions c.args.signature in omega (arith, length_bytes 2 12, length_bytes 2 11)

pub returns : goal.returns
unfolding version_bytes
returns c = let a = c.args in
    let e = bytes 2 12 in
    let f = bytes 2 11 in
    let g = bytes 8 a.signature in
    let k = length_bytes 2 12 in
    let l = length_bytes 2 11 in
    let m = length_bytes 8 a.signature in
    let n = length-append f g in
    let h : a.at + 12 ≤ length a.out.now = omega (arith, length_versions a.signature) in
    lays_then a.at e (f ++ g) a.out.now c.lay_le-behind_version.result c.lay_le-behind_version.new.out c.lay_le.result c.lay_le.new.out (omega arith) c.lay_le-behind_version.ensures
    (lays_then c.lay_le-behind_version.result f g c.lay_le-behind_version.new.out c.lay_le-behind_minimum.result c.lay_le-behind_minimum.new.out c.lay_le.result c.lay_le.new.out (omega arith)
    c.lay_le-behind_minimum.ensures c.lay_le.ensures)
