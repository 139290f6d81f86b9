-- `new_store::highest_under` meets its contract. The invariant: the number is the highest of the elements from row i on.
-- Assumes nothing.
use mathlib.Core.Path.{◌≡◌, ◌∙◌}
use mathlib.Core.List.{List}
use Prim.Native.Nat.{ℕ, ◌+◌, ◌-◌, ◌≤◌, ◌<◌, max}
use native.Mathlib.Omega.{arith}
use native.Mathlib.Numerals.{add-one}
use Rattle.laws.specs.Pick.{pick}
use Rattle.numbers.specs.declared.guid.Guid.{Guid}
use Rattle.store.specs.Tables.{element_in_row, elements_in_rows, elements_in}
use Rattle.store.specs.declared.element.Element.{Element}
use Rattle.store.proofs.Elements.{elements_turn, elements_end}
use Rattle.puts.specs.NewStore.{under_guid, highest_under}
use Rattle.puts.proofs.new_store.highest_under.Goals as goal

-- ---- the highest of the elements from row i on
highest_turn : (rows ids : List ℕ) (g : Guid) (i n : ℕ) (x : Element) (h : ℕ) → i < n → x ≡ element_in_row rows ids i → h ≡ highest_under g (elements_in_rows rows ids (i + 1) (n - (i + 1)))
    → pick (under_guid g x.serial) (max x.serial.number h) h ≡ highest_under g (elements_in_rows rows ids i (n - i))
unfolding highest_under
highest_turn rows ids g i n x h l e f = rw (elements_turn rows ids i n l, ← e, ← add-one i, f)

highest_none : (rows ids : List ℕ) (g : Guid) (n : ℕ) → 0 ≡ highest_under g (elements_in_rows rows ids n (n - n))
unfolding highest_under
highest_none rows ids g n = rw (elements_end rows ids n n (omega arith))

highest_all : (rows ids : List ℕ) (g : Guid) (i n : ℕ) → i ≤ 0 → highest_under g (elements_in_rows rows ids i (n - i)) ≡ highest_under g (elements_in rows ids n)
highest_all rows ids g i n h = let e : i ≡ 0 = omega arith in let f : n - 0 ≡ n = omega arith in rw (e, f)

pub loop-i-init : goal.loop-i-init
loop-i-init c = highest_none _ _ _ _

pub loop-i-preserved : goal.loop-i-preserved
loop-i-preserved c = let a = c.args in
    let e : c.loop-i.i - 1 + 1 ≡ c.loop-i.i = let h = c.loop-i-test.true in omega arith in
    c.higher-highest.ensures ∙ highest_turn a.stored.rows.now a.stored.ids.now a.g (c.loop-i.i - 1) a.stored.count c.element.result c.loop-i.highest (omega arith) c.element.ensures (rw e c.loop-i.invariant)

pub returns : goal.returns
returns c = c.loop-i.invariant ∙ highest_all _ _ _ c.loop-i.i _ c.loop-i-test.false
