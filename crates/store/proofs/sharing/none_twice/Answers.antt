-- `sharing::none_twice` meets its contract. The invariant: none of the rows so far has the serial number of one before it, and each has
-- its mark.
-- Assumes nothing.
use mathlib.Core.Path.{◌≡◌, refl, sym, subst, ap, ◌∙◌}
use mathlib.Core.Bool.{true, false}
use mathlib.Core.List.{List}
use native.Mathlib.Omega.{arith}
use Prim.Native.Nat.{ℕ, ◌+◌, ◌<◌}
use lib.ListN.{length, set, length-set}
use Rattle.laws.specs.Once.{seen, once}
use Rattle.store.specs.Element.{same_key}
use Rattle.store.specs.Tables.{serial_keys, mark_of, key_marks}
use Rattle.store.specs.declared.element.Key.{Key}
use Rattle.store.proofs.SharedSerials.{serial_in_row, NoneTwice, none_twice_start, none_twice_more, stands_twice}
use Rattle.store.proofs.sharing.none_twice.Goals as goal

pub loop-i-init : goal.loop-i-init
loop-i-init c = (refl, none_twice_start c.args.rows.now _)

pub returns-then-seen_key : goal.returns-then-seen_key
returns-then-seen_key c = let a = c.args in
    let h : c.loop-i.i < a.n = omega arith in
    let e : seen same_key (serial_in_row a.rows.now c.loop-i.i) (serial_keys a.rows.now c.loop-i.i) ≡ true =
    ap (λ (k : Key). seen same_key k (serial_keys a.rows.now c.loop-i.i)) (sym c.key_at-k.ensures)
    ∙ sym c.seen_key.ensures ∙ c.if-seen_key.true in
    sym (stands_twice a.rows.now c.loop-i.i a.n h e)

pub loop-i-preserved : goal.loop-i-preserved
loop-i-preserved c = let a = c.args in
    let k = serial_in_row a.rows.now c.loop-i.i in
    let e : seen same_key k (serial_keys a.rows.now c.loop-i.i) ≡ false =
    ap (λ (k : Key). seen same_key k (serial_keys a.rows.now c.loop-i.i)) (sym c.key_at-k.ensures)
    ∙ sym c.seen_key.ensures ∙ c.if-seen_key.false in
    let m : c.put_mark.new.marks ≡ set c.loop-i.marks (mark_of key_marks k) 1 =
    c.put_mark.ensures ∙ ap (λ (k : Key). set c.loop-i.marks (mark_of key_marks k) 1) c.key_at-k.ensures in (
      ap length m ∙ length-set c.loop-i.marks (mark_of key_marks k) 1 ∙ c.loop-i.invariant.0,
      subst (λ (t : List ℕ). NoneTwice a.rows.now t (c.loop-i.i + 1)) (sym m)
          (none_twice_more a.rows.now c.loop-i.marks c.loop-i.i (let w = c.loop-i.invariant.0 in omega arith) c.loop-i.invariant.1 e),
    )

pub returns : goal.returns
returns c = let a = c.args in
    let e : c.loop-i.i ≡ a.n = omega arith in
    sym (ap (λ (m : ℕ). once same_key (serial_keys a.rows.now m)) (sym e) ∙ c.loop-i.invariant.1.so_far)
