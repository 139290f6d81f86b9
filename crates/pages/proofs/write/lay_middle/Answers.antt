-- `write::lay_middle` meets its contract: the package's end, the sub-response and the storage index.
-- Assumes nothing.
use mathlib.Core.List.{◌++◌}
use Prim.Native.Nat.{◌+◌, ◌≤◌}
use native.Mathlib.Omega.{arith}
use lib.ListN.{length, length-append}
use Rattle.objects.specs.Header.{end_bytes}
use Rattle.laws.proofs.Placing.{lays_then}
use Rattle.request.specs.Message.{query_changes_request}
use Rattle.request.specs.Response.{sub_response_bytes}
use Rattle.pages.specs.Written.{changes_bytes}
use Rattle.pages.specs.Tables.{answer_middle}
use Rattle.request.proofs.ResponseLengths.{length_back}
use Rattle.pages.proofs.Lengths.{length_middle}
use Rattle.pages.proofs.write.lay_middle.Goals as goal

pub lay_end-behind_package-requires : goal.lay_end-behind_package-requires
lay_end-behind_package-requires c = let a = c.args in
    omega (arith, length_back, length_middle a.id a.index a.partial)

pub lay_sub_response-behind_sub_response-requires : goal.lay_sub_response-behind_sub_response-requires
lay_sub_response-behind_sub_response-requires c = let a = c.args in
    omega (arith, length_back, length_middle a.id a.index a.partial)

pub lay_changes-requires : goal.lay_changes-requires
lay_changes-requires c = let a = c.args in
    omega (arith, length_back, length_middle a.id a.index a.partial)

pub returns : goal.returns
unfolding answer_middle
returns c = let a = c.args in
    let e = end_bytes 0x15 in
    let f = sub_response_bytes query_changes_request a.id in
    let g = changes_bytes a.index a.partial in
    let k = length_back in
    let l = length-append f g in
    let h : a.at + (1 + (length f + length g)) ≤ length a.out.now = omega (arith, length_middle a.id a.index a.partial) in
    lays_then a.at e (f ++ g) a.out.now c.lay_end-behind_package.result c.lay_end-behind_package.new.out c.lay_changes.result c.lay_changes.new.out (omega arith) c.lay_end-behind_package.ensures
    (lays_then c.lay_end-behind_package.result f g c.lay_end-behind_package.new.out c.lay_sub_response-behind_sub_response.result c.lay_sub_response-behind_sub_response.new.out c.lay_changes.result c.lay_changes.new.out (omega arith)
    c.lay_sub_response-behind_sub_response.ensures c.lay_changes.ensures)
