-- `response::lay_front` meets its contract: the versions, and two starts with a zero byte behind each.
-- Assumes nothing.
use mathlib.Core.Bool.{true}
use mathlib.Core.List.{List, [], ◌∷◌, ◌++◌}
use Prim.Native.Nat.{ℕ, ◌+◌, ◌≤◌}
use native.Mathlib.Omega.{arith}
use lib.ListN.{length, length-append}
use Rattle.objects.specs.Header.{start_bytes}
use Rattle.store.specs.Written.{package_front}
use Rattle.laws.proofs.Placing.{lays_then}
use Rattle.request.specs.Response.{version_bytes, answer_signature, response_bytes, answer_front}
use Rattle.request.proofs.ResponseLengths.{length_front}
use Rattle.request.proofs.response.lay_front.Goals as goal

pub lay_versions-behind_versions-requires : goal.lay_versions-behind_versions-requires
lay_versions-behind_versions-requires c = omega (arith, length_front)

pub lay_start-behind_start-requires : goal.lay_start-behind_start-requires
lay_start-behind_start-requires c = omega (arith, length_front)

pub lay_byte-behind_response-requires : goal.lay_byte-behind_response-requires
lay_byte-behind_response-requires c = omega (arith, length_front)

pub lay_start-behind_package-requires : goal.lay_start-behind_package-requires
lay_start-behind_package-requires c = omega (arith, length_front)

pub lay_byte-requires : goal.lay_byte-requires
lay_byte-requires c = omega (arith, length_front)

pub returns : goal.returns
unfolding answer_front response_bytes package_front
returns c = let a = c.args in
    let e = start_bytes 0x62 true 1 in
    let f = start_bytes 0x15 true 1 in
    let o : List ℕ = 0 ∷ [] in
    let k = length-append e o in
    let m = length-append f o in
    let n = length-append (e ++ o) (f ++ o) in
    let l = length_front in
    let h : a.at + 20 ≤ length a.out.now = omega arith in
    let i = lays_then c.lay_versions-behind_versions.result e o c.lay_versions-behind_versions.new.out c.lay_start-behind_start.result c.lay_start-behind_start.new.out c.lay_byte-behind_response.result c.lay_byte-behind_response.new.out (omega arith)
    c.lay_start-behind_start.ensures c.lay_byte-behind_response.ensures in
    let j = lays_then c.lay_byte-behind_response.result f o c.lay_byte-behind_response.new.out c.lay_start-behind_package.result c.lay_start-behind_package.new.out c.lay_byte.result c.lay_byte.new.out (omega arith)
    c.lay_start-behind_package.ensures c.lay_byte.ensures in
    lays_then a.at (version_bytes answer_signature) ((e ++ o) ++ (f ++ o)) a.out.now c.lay_versions-behind_versions.result c.lay_versions-behind_versions.new.out c.lay_byte.result c.lay_byte.new.out (omega arith)
    c.lay_versions-behind_versions.ensures
    (lays_then c.lay_versions-behind_versions.result (e ++ o) (f ++ o) c.lay_versions-behind_versions.new.out c.lay_byte-behind_response.result c.lay_byte-behind_response.new.out c.lay_byte.result c.lay_byte.new.out (omega arith) i j)
