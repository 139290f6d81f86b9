-- `put::lay_put_ends` meets its contract: two ends, one behind the other.
-- Assumes nothing.
use Prim.Native.Nat.{◌+◌, ◌≤◌}
use native.Mathlib.Omega.{arith}
use lib.ListN.{length}
use Rattle.objects.specs.Header.{end_bytes}
use Rattle.laws.proofs.Placing.{lays_then}
use Rattle.client.specs.PutWritten.{put_ends_bytes}
use Rattle.client.proofs.PutLengths.{length_put_ends}
use Rattle.client.proofs.put.lay_put_ends.Goals as goal

pub lay_end-behind_package-requires : goal.lay_end-behind_package-requires
lay_end-behind_package-requires c = omega (arith, length_put_ends)

pub lay_end-requires : goal.lay_end-requires
lay_end-requires c = omega (arith, length_put_ends)

pub returns : goal.returns
unfolding put_ends_bytes
returns c = let a = c.args in
    let e = end_bytes 0x15 in
    let f = end_bytes 0x40 in
    let l = length_put_ends in
    let h : a.at + 3 ≤ length a.out.now = omega arith in
    lays_then a.at e f a.out.now c.lay_end-behind_package.result c.lay_end-behind_package.new.out c.lay_end.result c.lay_end.new.out (omega arith) c.lay_end-behind_package.ensures c.lay_end.ensures
