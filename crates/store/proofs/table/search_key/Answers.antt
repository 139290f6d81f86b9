-- `table::search_key` meets its contract. The invariant: the key is among all keys as it is among those still to come.
-- Assumes nothing.
use mathlib.Core.Path.{◌≡◌, sym, ap, ◌∙◌}
use native.Mathlib.Omega.{arith}
use Prim.Native.Nat.{◌+◌, ◌*◌}
use mathlib.Core.Bool.{true, false}
use Rattle.laws.specs.Once.{seen}
use Rattle.store.specs.Element.{same_key}
use Rattle.store.specs.Tables.{key_at}
use Rattle.store.proofs.Rows.{keys_turn, keys_end, seen_first, seen_later, seen_none}
use Rattle.store.proofs.table.search_key.Goals as goal

pub returns-then-same_key : goal.returns-then-same_key
returns-then-same_key c = let a = c.args in
    let x = key_at a.t.now (c.loop-i.i * a.width + a.offset) in
    let e : same_key a.k x ≡ true = ap (same_key a.k) (sym c.key_at.ensures) ∙ sym c.same_key.ensures ∙ c.if-same_key.true in
    sym (c.loop-i.invariant ∙ ap (seen same_key a.k) (keys_turn a.t.now a.width a.offset c.loop-i.i a.n c.loop-i-test.true) ∙ seen_first a.k x _ e)

pub loop-i-preserved : goal.loop-i-preserved
loop-i-preserved c = let a = c.args in
    let x = key_at a.t.now (c.loop-i.i * a.width + a.offset) in
    let e : same_key a.k x ≡ false = ap (same_key a.k) (sym c.key_at.ensures) ∙ sym c.same_key.ensures ∙ c.if-same_key.false in
    c.loop-i.invariant ∙ ap (seen same_key a.k) (keys_turn a.t.now a.width a.offset c.loop-i.i a.n c.loop-i-test.true) ∙ seen_later a.k x _ e

pub returns : goal.returns
returns c = let a = c.args in
    sym (c.loop-i.invariant ∙ ap (seen same_key a.k) (keys_end a.t.now a.width a.offset c.loop-i.i a.n (omega arith)) ∙ seen_none a.k)
