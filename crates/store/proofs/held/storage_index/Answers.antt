-- `held::storage_index` meets its contract. The invariant: the index of all is that of the elements from here on.
-- Assumes nothing.
use mathlib.Core.Path.{◌≡◌, sym, ◌∙◌}
use mathlib.Core.List.{List}
use Prim.Native.Nat.{ℕ, ◌+◌, ◌-◌, ◌≤◌, ◌<◌}
use native.Mathlib.Omega.{arith}
use native.Mathlib.Numerals.{add-one}
use lib.Dec.{eqb}
use borrow.Author.Tests.{eq-eqb, ne_eqb}
use Rattle.laws.specs.Pick.{pick}
use Rattle.numbers.specs.Results.ExtendedGuid.{Named, Null}
use Rattle.store.specs.Tables.{element_in_row, elements_in_rows, elements_in}
use Rattle.store.specs.Written.{key_guid}
use Rattle.store.specs.declared.element.Element.{Element}
use Rattle.store.proofs.Elements.{elements_turn, elements_end}
use Rattle.store.specs.Held.{storage_index}
use Rattle.store.proofs.held.storage_index.Goals as goal

-- ---- the index of the elements from row i on
index_start : (rows ids : List ℕ) (n : ℕ) → storage_index (elements_in rows ids n) ≡ storage_index (elements_in_rows rows ids 0 (n - 0))
index_start rows ids n = let e : n - 0 ≡ n = omega arith in rw e

index_turn : (rows ids : List ℕ) (i n : ℕ) (x : Element) → i < n → x ≡ element_in_row rows ids i
    → storage_index (elements_in_rows rows ids i (n - i)) ≡ pick (eqb x.kind 1) (Named (key_guid x.id) x.id.number) (storage_index (elements_in_rows rows ids (i + 1) (n - (i + 1))))
unfolding storage_index
index_turn rows ids i n x h e = rw (elements_turn rows ids i n h, ← e, add-one i)

index_none : (rows ids : List ℕ) (i n : ℕ) → n ≤ i → storage_index (elements_in_rows rows ids i (n - i)) ≡ Null
unfolding storage_index
index_none rows ids i n h = rw (elements_end rows ids i n h)

pub loop-i-init : goal.loop-i-init
loop-i-init c = index_start _ _ _

pub returns-then-x-eq-STORAGE_INDEX : goal.returns-then-x-eq-STORAGE_INDEX
returns-then-x-eq-STORAGE_INDEX c = let a = c.args in
    c.named.ensures ∙ sym (c.loop-i.invariant ∙ index_turn a.all.rows.now a.all.ids.now c.loop-i.i a.all.count c.element-x.result c.loop-i-test.true c.element-x.ensures ∙ rw (eq-eqb _ _ c.if-x-eq-STORAGE_INDEX.true))

pub loop-i-preserved : goal.loop-i-preserved
loop-i-preserved c = let a = c.args in
    c.loop-i.invariant ∙ index_turn a.all.rows.now a.all.ids.now c.loop-i.i a.all.count c.element-x.result c.loop-i-test.true c.element-x.ensures ∙ rw (ne_eqb _ _ c.if-x-eq-STORAGE_INDEX.false)

pub returns : goal.returns
returns c = let a = c.args in
    sym (c.loop-i.invariant ∙ index_none a.all.rows.now a.all.ids.now c.loop-i.i a.all.count c.loop-i-test.false)
