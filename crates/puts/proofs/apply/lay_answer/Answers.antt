-- `apply::lay_answer` meets its contract: the frame of a response, and the knowledge in it.
-- Assumes nothing.
use mathlib.Core.Path.{◌≡◌}
use mathlib.Core.List.{◌++◌}
use Prim.Native.Nat.{◌+◌, ◌≤◌}
use native.Mathlib.Omega.{arith}
use lib.ListN.{length, length-append}
use Rattle.laws.proofs.Placing.{lays_then}
use Rattle.objects.specs.Header.{end_bytes}
use Rattle.ranges.specs.RangeTable.{ranges_at}
use Rattle.store.specs.KnowledgeWritten.{knowledge_bytes}
use Rattle.request.specs.Response.{answer_front, sub_response_bytes, ends_bytes}
use Rattle.request.proofs.ResponseLengths.{length_front, length_back, length_sub}
use Rattle.puts.specs.Applied.{put_answer_bytes}
use Rattle.puts.proofs.NewLengths.{length_five, length_put_answer}
use Rattle.puts.proofs.apply.lay_answer.Goals as goal

pub lay_front-behind_front-requires : goal.lay_front-behind_front-requires
lay_front-behind_front-requires c = let a = c.args in
    let e = length_put_answer a.id (ranges_at a.table.now 0 a.held) in
    let f = length_front in
    let b = length_back in
    let d = length_sub 5 a.id in
    let v = length_five in
    omega arith

pub lay_end-behind_package-requires : goal.lay_end-behind_package-requires
lay_end-behind_package-requires c = let a = c.args in
    let e = length_put_answer a.id (ranges_at a.table.now 0 a.held) in
    let f = length_front in
    let b = length_back in
    let d = length_sub 5 a.id in
    let v = length_five in
    let x = c.lay_front-behind_front.ensures.0 in
    (omega arith, omega arith)

pub lay_sub_response-behind_sub_response-requires : goal.lay_sub_response-behind_sub_response-requires
lay_sub_response-behind_sub_response-requires c = let a = c.args in
    let e = length_put_answer a.id (ranges_at a.table.now 0 a.held) in
    let f = length_front in
    let b = length_back in
    let d = length_sub 5 a.id in
    let v = length_five in
    let x = c.lay_front-behind_front.ensures.0 in
    let y = c.lay_end-behind_package.ensures.0 in
    omega arith

pub lay_knowledge-behind_knowledge-requires : goal.lay_knowledge-behind_knowledge-requires
lay_knowledge-behind_knowledge-requires c = let a = c.args in
    let e = length_put_answer a.id (ranges_at a.table.now 0 a.held) in
    let f = length_front in
    let b = length_back in
    let d = length_sub 5 a.id in
    let v = length_five in
    let x = c.lay_front-behind_front.ensures.0 in
    let y = c.lay_end-behind_package.ensures.0 in
    let z = c.lay_sub_response-behind_sub_response.ensures.0 in
    (c.requires.0.0, omega arith)

pub lay_back-requires : goal.lay_back-requires
lay_back-requires c = let a = c.args in
    let e = length_put_answer a.id (ranges_at a.table.now 0 a.held) in
    let f = length_front in
    let b = length_back in
    let d = length_sub 5 a.id in
    let v = length_five in
    let x = c.lay_front-behind_front.ensures.0 in
    let y = c.lay_end-behind_package.ensures.0 in
    let z = c.lay_sub_response-behind_sub_response.ensures.0 in
    let w = c.lay_knowledge-behind_knowledge.ensures.0 in
    omega arith

pub returns : goal.returns
unfolding put_answer_bytes
returns c = let a = c.args in
    let o : length (put_answer_bytes a.id (ranges_at a.table.now 0 a.held)) ≤ length a.out.now = c.requires.1 in
    let e = length_put_answer a.id (ranges_at a.table.now 0 a.held) in
    let f = length_front in
    let b = length_back in
    let d = length_sub 5 a.id in
    let v = length_five in
    let k = knowledge_bytes (ranges_at a.table.now 0 a.held) in
    let p = sub_response_bytes 5 a.id in
    let u = c.lay_front-behind_front in
    let w = c.lay_end-behind_package in
    let x = c.lay_sub_response-behind_sub_response in
    let y = c.lay_knowledge-behind_knowledge in
    let z = c.lay_back in
    let m1 = length-append (end_bytes 0x15) (p ++ (k ++ ends_bytes)) in
    let m2 = length-append p (k ++ ends_bytes) in
    let m3 = length-append k ends_bytes in
    let f1 : u.result ≡ 0 + length answer_front = u.ensures.0 in
    let f2 : w.result ≡ u.result + length (end_bytes 0x15) = w.ensures.0 in
    let f3 : x.result ≡ w.result + length p = x.ensures.0 in
    let f4 : y.result ≡ x.result + length k = y.ensures.0 in
    lays_then 0 answer_front (end_bytes 0x15 ++ (p ++ (k ++ ends_bytes))) a.out.now u.result u.new.out z.result z.new.out (omega arith) u.ensures
    (lays_then u.result (end_bytes 0x15) (p ++ (k ++ ends_bytes)) u.new.out w.result w.new.out z.result z.new.out (omega arith) w.ensures
    (lays_then w.result p (k ++ ends_bytes) w.new.out x.result x.new.out z.result z.new.out (omega arith) x.ensures
    (lays_then x.result k ends_bytes x.new.out y.result y.new.out z.result z.new.out (omega arith) y.ensures z.ensures)))
