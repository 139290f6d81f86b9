-- `package::walk` meets its contract. The invariant: the tables hold the elements read so far, and the walk from the start is
-- the walk from here.
-- Assumes nothing.
use Rattle.std.specs.Prelude.{Err}
use Rattle.std.proofs.Common.{rules}
use mathlib.Core.Path.{◌≡◌, sym, ap, ◌∙◌}
use Prim.Native.Nat.{◌≤◌, ◌<◌}
use lib.ListN.{length}
use native.Mathlib.Omega.{arith}
use Rattle.store.specs.Tables.{most_elements, key_marks}
use Rattle.store.specs.Store.{packaged_of}
use Rattle.store.proofs.Fields.{element_within}
use Rattle.store.proofs.Walks.{held_start, held_lent, held_answer, held_over, held_refused, held_more, held_end, packaged_refused}
use Rattle.store.proofs.package.walk.Goals as goal
use Rattle.store.proofs.package.walk.Goals.{Else-n-eq-MOST_ELEMENTS}

pub loop-strict-init : goal.loop-strict-init
loop-strict-init c = let a = c.args in
    (omega arith, held_start _ a.s.now a.c a.rows.now a.ids.now a.marks.now c.requires)

pub returns-then-n-eq-MOST_ELEMENTS : goal.returns-then-n-eq-MOST_ELEMENTS
returns-then-n-eq-MOST_ELEMENTS c = let e = sym c.next_is.ensures ∙ c.loop-strict-test.true in
    held_answer _ c.loop-strict.invariant.1 _ _ (held_over _ c.loop-strict.invariant.1 e c.if-n-eq-MOST_ELEMENTS.true) (c.packaged_if_fine.ensures ∙ ap (packaged_of c.loop-strict.n) c.start.ensures)

-- there is room for one more
room : (c : Else-n-eq-MOST_ELEMENTS) → c.loop-strict.n < most_elements
room c = omega arith

pub read_element-requires : goal.read_element-requires
read_element-requires c = held_lent _ c.loop-strict.invariant.1 (omega arith) (omega arith)

pub returns-in_err-x : goal.returns-in_err-x
returns-in_err-x c = let residual : c.from_residual.result ≡ Err c.in_err-x.field-0.0 = search rules in
    rw residual (let e = sym c.next_is.ensures ∙ c.loop-strict-test.true in
    let q = sym c.read_element.ensures ∙ c.in_err-x.was in
    held_answer _ c.loop-strict.invariant.1 _ _ (held_refused _ c.loop-strict.invariant.1 e c.if-n-eq-MOST_ELEMENTS.false _ q) (packaged_refused _ _))

pub put_row-requires : goal.put_row-requires
put_row-requires c = let r = room (goal.at.put_row-requires c).Else-n-eq-MOST_ELEMENTS in omega arith

pub put_id-requires : goal.put_id-requires
put_id-requires c = let r = room (goal.at.put_id-requires c).Else-n-eq-MOST_ELEMENTS in omega arith

pub overflow_add-n : goal.overflow_add-n
overflow_add-n c = let r = room (goal.at.overflow_add-n c).Else-n-eq-MOST_ELEMENTS in omega arith

pub overflow_add-at : goal.overflow_add-at
overflow_add-at c = let q = sym c.read_element.ensures ∙ c.in_ok-x.was in
    omega (arith, element_within _ _ _ _ c.in_ok-x.x q c.loop-strict.invariant.1.good)

pub loop-strict-smaller : goal.loop-strict-smaller
loop-strict-smaller c = let r = room (goal.at.loop-strict-smaller c).Else-n-eq-MOST_ELEMENTS in omega arith

pub loop-strict-preserved : goal.loop-strict-preserved
loop-strict-preserved c = let r = room (goal.at.loop-strict-preserved c).Else-n-eq-MOST_ELEMENTS in
    let e = sym c.next_is.ensures ∙ c.loop-strict-test.true in
    let q = sym c.read_element.ensures ∙ c.in_ok-x.was in
    let lent : key_marks ≤ length c.loop-strict.marks = omega arith in
    let m = held_more _ c.loop-strict.invariant.1 e c.if-n-eq-MOST_ELEMENTS.false lent c.in_ok-x.x q in (
      omega arith,
      rw (c.put_row.ensures, c.put_id.ensures, c.put_mark.ensures) m,
    )

pub returns : goal.returns
returns c = let e = sym c.next_is.ensures ∙ c.loop-strict-test.false in
    held_answer _ c.loop-strict.invariant.1 _ _ (held_end _ c.loop-strict.invariant.1 e) c.packaged_if_fine-2.ensures
