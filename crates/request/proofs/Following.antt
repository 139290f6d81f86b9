-- An id looked up by its mark, row by row from the last to the first: rows with other marks have other ids, so passing them sets
-- nothing. It is for `choice::set_key`; what is promised of a choice speaks of every element.
-- Assumes nothing.
use mathlib.Core.Path.{◌≡◌, refl, sym, ap, ◌∙◌}
use mathlib.Core.Bool.{Bool, true, false}
use mathlib.Core.List.{List, [], ◌∷◌, ◌++◌}
use Prim.Native.Nat.{ℕ, zero, suc, ◌+◌, ◌≤◌, ◌<◌}
use native.Mathlib.Nat.{zero-add}
use native.Mathlib.Omega.{arith}
use lib.ListN.{length, get_or, set}
use lib.Dec.{eqb}
use borrow.Author.Tests.{eq-eqb, ne_eqb, eqb-true}
use Rattle.laws.specs.Pick.{pick}
use Rattle.laws.proofs.Cases.{by_bool, by_eq}
use Rattle.store.specs.Element.{same_key}
use Rattle.store.specs.Tables.{id_in_row, mark_of, element_in_row, elements_in_rows, elements_in}
use Rattle.store.specs.declared.element.Key.{Key}
use Rattle.store.specs.declared.element.Element.{Element}
use Rattle.store.proofs.Rows.{same_mark, mark_lt}
use Rattle.request.specs.Choice.{set_flags, matched_by}
use Rattle.request.specs.Index.{index_marks, id_mark, last_with, Linked}
use Rattle.request.specs.declared.choice.Matched.TheVariants.{WithId}
use Rattle.store.proofs.Elements.{length_elements}

-- ---- the last of some rows, set first

set_last : (test : Element → Bool) (to : ℕ) (x : Element) (t : Bool) → test x ≡ t → (xs : List Element) (flags : List ℕ)
    → set_flags test to (xs ++ (x ∷ [])) flags ≡ set_flags test to xs (pick t (set flags (length xs) to) flags)
unfolding set_flags
set_last test to x true e [] [] = refl
set_last test to x true e [] (b ∷ flags) = rw e
set_last test to x true e (y ∷ xs) [] = refl
set_last test to x true e (y ∷ xs) (b ∷ flags) = ap (λ (l : List ℕ). pick (test y) to b ∷ l) (set_last test to x true e xs flags)
set_last test to x false e [] [] = refl
set_last test to x false e [] (b ∷ flags) = rw e
set_last test to x false e (y ∷ xs) [] = refl
set_last test to x false e (y ∷ xs) (b ∷ flags) = ap (λ (l : List ℕ). pick (test y) to b ∷ l) (set_last test to x false e xs flags)

elements_last : (rows ids : List ℕ) (i n : ℕ) → elements_in_rows rows ids i (suc n) ≡ elements_in_rows rows ids i n ++ (element_in_row rows ids (i + n) ∷ [])
unfolding elements_in_rows
elements_last rows ids i zero = let e : i + 0 ≡ i = omega arith in rw e
elements_last rows ids i (suc n) =
    let e : i + suc n ≡ suc i + n = omega arith in
    rw e (ap (λ (l : List Element). element_in_row rows ids i ∷ l) (elements_last rows ids (suc i) n))

module _ (test : Element → Bool) (to : ℕ) (rows ids : List ℕ) where
  row_last : (i : ℕ) (t : Bool) (flags : List ℕ) → test (element_in_row rows ids i) ≡ t
      → set_flags test to (elements_in rows ids (suc i)) flags ≡ set_flags test to (elements_in rows ids i) (pick t (set flags i to) flags)
  row_last i t flags e =
      let l = length_elements rows ids 0 i in
      rw (elements_last rows ids 0 i, zero-add i) (rw l at (set_last test to (element_in_row rows ids i) t e (elements_in rows ids i) flags))

-- ---- rows with another mark

other_mark : (rows ids : List ℕ) (k : Key) (i : ℕ) → (id_mark ids i ≡ mark_of index_marks k → ⊥) → matched_by (WithId k) (element_in_row rows ids i) ≡ false
unfolding matched_by element_in_row
other_mark rows ids k i h =
    by_bool (same_key (id_in_row ids i) k)
    (λ e. absurd (h (same_mark index_marks (id_in_row ids i) k e)))
    (λ e. e)

-- the last row of a mark among n is one of them, and has it
pub last_within : (ids : List ℕ) (mark n : ℕ) → last_with ids mark n ≤ n
unfolding last_with
last_within ids mark zero = omega arith
last_within ids mark (suc i) =
    by_bool (eqb (id_mark ids i) mark)
    (λ e. rw e (omega arith))
    (λ e. rw e (let l = last_within ids mark i in omega arith))

last_marked : (ids : List ℕ) (mark n i : ℕ) → last_with ids mark n ≡ suc i → id_mark ids i ≡ mark
unfolding last_with
last_marked ids mark zero i q = absurd (omega arith)
last_marked ids mark (suc n) i q =
    by_bool (eqb (id_mark ids n) mark)
    (λ e. let z : n ≡ i = let y : suc n ≡ suc i = rw e at q in omega arith in rw (sym z) (eqb-true (id_mark ids n) mark e))
    (λ e. last_marked ids mark n i (rw e at q))

-- rows behind it set nothing
set_to_last : (k : Key) (to : ℕ) (rows ids : List ℕ) (n : ℕ) (flags : List ℕ)
    → set_flags (matched_by (WithId k)) to (elements_in rows ids n) flags ≡ set_flags (matched_by (WithId k)) to (elements_in rows ids (last_with ids (mark_of index_marks k) n)) flags
unfolding last_with
set_to_last k to rows ids zero flags = refl
set_to_last k to rows ids (suc i) flags =
    by_eq (id_mark ids i) (mark_of index_marks k)
    (λ e. rw (eq-eqb (id_mark ids i) (mark_of index_marks k) e))
    (λ e.
    rw (ne_eqb (id_mark ids i) (mark_of index_marks k) e)
    (row_last (matched_by (WithId k)) to rows ids i false flags (other_mark rows ids k i e) ∙ set_to_last k to rows ids i flags))

-- ---- what holds whenever the loop's test is reached: what is told is what the rows still to come set, and the last of them has the mark

pub record Following (k : Key) (to : ℕ) (rows ids : List ℕ) (n : ℕ) (told flags : List ℕ) (left : ℕ) : Type 0 where
  pub within : left ≤ n
  pub marked : (i : ℕ) → left ≡ suc i → id_mark ids i ≡ mark_of index_marks k
  pub rest : told ≡ set_flags (matched_by (WithId k)) to (elements_in rows ids left) flags

module _ {heads links ids : List ℕ} {n : ℕ} (w : Linked heads links ids n) (k : Key) (to : ℕ) (rows : List ℕ) where
  pub following_start : (flags : List ℕ) (mark : ℕ) → mark ≡ mark_of index_marks k
      → Following k to rows ids n (set_flags (matched_by (WithId k)) to (elements_in rows ids n) flags) flags (get_or heads mark 0)
  following_start flags mark e =
      rw (e, w.head (mark_of index_marks k) (mark_lt index_marks k (omega arith)))
      (record {
        within = last_within ids (mark_of index_marks k) n;
        marked = λ i q. last_marked ids (mark_of index_marks k) n i q;
        rest = set_to_last k to rows ids n flags;
      })

  module _ {told flags : List ℕ} {left : ℕ} (u : Following k to rows ids n told flags left) (i : ℕ) (e : left ≡ suc i) where
    -- the row before, of the same mark
    next : get_or links i 0 ≡ last_with ids (mark_of index_marks k) i
    next = let l = u.within in rw (sym (u.marked i e)) (w.link i (omega arith))

    turn : (t : Bool) → matched_by (WithId k) (element_in_row rows ids i) ≡ t
        → Following k to rows ids n told (pick t (set flags i to) flags) (get_or links i 0)
    turn t h =
        rw next
        (record {
          within = let l = u.within in let m = last_within ids (mark_of index_marks k) i in omega arith;
          marked = λ j q. last_marked ids (mark_of index_marks k) i j q;
          rest =
              rw e at u.rest
              ∙ row_last (matched_by (WithId k)) to rows ids i t flags h
              ∙ set_to_last k to rows ids i (pick t (set flags i to) flags);
        })

    pub following_matched : matched_by (WithId k) (element_in_row rows ids i) ≡ true → Following k to rows ids n told (set flags i to) (get_or links i 0)
    following_matched h = turn true h

    pub following_passed : matched_by (WithId k) (element_in_row rows ids i) ≡ false → Following k to rows ids n told flags (get_or links i 0)
    following_passed h = turn false h

    -- each row is before the one that was looked at
    pub following_less : get_or links i 0 < left
    following_less = let l = last_within ids (mark_of index_marks k) i in rw (next, e) (omega arith)

pub following_end : {k : Key} {to : ℕ} {rows ids : List ℕ} {n : ℕ} {told flags : List ℕ} {left : ℕ} → Following k to rows ids n told flags left → left ≡ 0
    → flags ≡ told
unfolding elements_in_rows set_flags
following_end u e = sym (rw e at u.rest)
