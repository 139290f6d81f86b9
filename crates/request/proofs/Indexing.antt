-- The index of the elements' ids, built row by row: what both tables hold after each row. It is for `choice::index_ids`; nothing that is
-- promised of a choice speaks of it.
-- Assumes nothing.
use mathlib.Core.Path.{◌≡◌, refl, sym, ◌∙◌}
use mathlib.Core.List.{List}
use Prim.Native.Nat.{ℕ, suc, ◌+◌, ◌≤◌, ◌<◌}
use native.Mathlib.Numerals.{add-one}
use native.Mathlib.Omega.{arith}
use lib.ListN.{length, get_or, set}
use lib.Seq.{get_or-set_same, get_or-set_other}
use borrow.Author.Tests.{eq-eqb, ne_eqb}
use Rattle.laws.proofs.Cases.{by_eq}
use Rattle.store.specs.Tables.{id_in_row}
use Rattle.store.proofs.Rows.{mark_lt}
use Rattle.request.specs.Index.{index_marks, id_mark, last_with, Linked}

-- no row is in them
pub linked_start : (heads links ids : List ℕ) → ((mark : ℕ) → mark < index_marks → get_or heads mark 0 ≡ 0) → Linked heads links ids 0
unfolding last_with
linked_start heads links ids h = record { head = h; link = λ i l. absurd (omega arith) }

-- the row with its mark, or another mark
last_same : (ids : List ℕ) (mark i : ℕ) → id_mark ids i ≡ mark → last_with ids mark (suc i) ≡ suc i
unfolding last_with
last_same ids mark i e = rw (eq-eqb (id_mark ids i) mark e)

last_other : (ids : List ℕ) (mark i : ℕ) → (id_mark ids i ≡ mark → ⊥) → last_with ids mark (suc i) ≡ last_with ids mark i
unfolding last_with
last_other ids mark i e = rw (ne_eqb (id_mark ids i) mark e)

mark_low : (ids : List ℕ) (i : ℕ) → id_mark ids i < index_marks
mark_low ids i = mark_lt index_marks (id_in_row ids i) (omega arith)

module _ {heads links ids : List ℕ} {i : ℕ} (u : Linked heads links ids i) (room : index_marks ≤ length heads) (more : i < length links) where
  new_head : (m : ℕ) → m < index_marks → get_or (set heads (id_mark ids i) (suc i)) m 0 ≡ last_with ids m (suc i)
  new_head m l =
      by_eq m (id_mark ids i)
      (λ q. rw (q, get_or-set_same heads (id_mark ids i) (suc i) 0 (omega (arith, mark_low ids i))) (sym (last_same ids (id_mark ids i) i refl)))
      (λ q. get_or-set_other heads (id_mark ids i) m (suc i) 0 q ∙ u.head m l ∙ sym (last_other ids m i (λ z. q (sym z))))

  new_link : (j : ℕ) → j < suc i → get_or (set links i (get_or heads (id_mark ids i) 0)) j 0 ≡ last_with ids (id_mark ids j) j
  new_link j l =
      by_eq j i
      (λ q. rw (q, get_or-set_same links i (get_or heads (id_mark ids i) 0) 0 more) (u.head (id_mark ids i) (mark_low ids i)))
      (λ q. get_or-set_other links i j (get_or heads (id_mark ids i) 0) 0 q ∙ u.link j (omega arith))

  -- one row more
  pub linked_more : (mark : ℕ) → mark ≡ id_mark ids i → Linked (set heads mark (i + 1)) (set links i (get_or heads mark 0)) ids (i + 1)
  linked_more mark e = rw (add-one i, e) (record { head = new_head; link = new_link })
