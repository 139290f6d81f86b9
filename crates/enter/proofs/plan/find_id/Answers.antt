-- `plan::find_id` meets its contract. The invariant: the id stands so many places behind row i as it does among the ids from there on.
-- Assumes nothing.
use mathlib.Core.Path.{◌≡◌, sym, ap, ◌∙◌}
use mathlib.Core.Bool.{true, false}
use Prim.Native.Nat.{◌≤◌, ◌<◌}
use native.Mathlib.Omega.{arith}
use lib.ListN.{length}
use borrow.Author.Tests.{lt-ltb, le-ltb}
use Rattle.store.specs.Element.{same_key}
use Rattle.store.specs.Tables.{id_width, id_keys, id_in_row}
use Rattle.enter.specs.Plan.{place_among}
use Rattle.enter.proofs.Planning.{length_keys, find_start, find_here, find_later, find_none}
use Rattle.enter.proofs.plan.find_id.Goals as goal

pub loop-i-init : goal.loop-i-init
loop-i-init c = let a = c.args in find_start a.k a.ids.now a.n

pub returns-then-same_key : goal.returns-then-same_key
returns-then-same_key c = let a = c.args in
    let h : c.loop-i.i < a.n = c.loop-i-test.true in
    let e : same_key a.k (id_in_row a.ids.now c.loop-i.i) ≡ true = ap (same_key a.k) (sym c.id_in_row.ensures) ∙ sym c.same_key.ensures ∙ c.if-same_key.true in
    let f = find_here a.k a.ids.now c.loop-i.i a.n h e in
    let b = length_keys a.ids.now 0 id_width a.n in
    let there = id_keys a.ids.now a.n in
    let p : place_among a.k there ≡ c.loop-i.i = omega arith in
    let l : place_among a.k there < length there = omega arith in
    rw (lt-ltb _ _ l, p)

pub loop-i-preserved : goal.loop-i-preserved
loop-i-preserved c = let a = c.args in
    let h : c.loop-i.i < a.n = c.loop-i-test.true in
    let e : same_key a.k (id_in_row a.ids.now c.loop-i.i) ≡ false = ap (same_key a.k) (sym c.id_in_row.ensures) ∙ sym c.same_key.ensures ∙ c.if-same_key.false in
    let f = find_later a.k a.ids.now c.loop-i.i a.n h e in
    omega arith

pub returns : goal.returns
returns c = let a = c.args in
    let f = find_none a.k a.ids.now c.loop-i.i a.n c.loop-i-test.false in
    let b = length_keys a.ids.now 0 id_width a.n in
    let there = id_keys a.ids.now a.n in
    let l : length there ≤ place_among a.k there = omega arith in
    rw (le-ltb _ _ l)
