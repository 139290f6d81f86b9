-- Groups that were laid, as a page takes them: the members of the first k are the first rows of their queue; and no lump of them is over-long.
-- Assumes nothing.
use mathlib.Core.Path.{◌≡◌, refl, sym, ap, ◌∙◌}
use mathlib.Core.Bool.{Bool}
use mathlib.Core.List.{List, [], ◌∷◌, ◌++◌, map}
use Prim.Native.Nat.{ℕ, zero, suc, ◌+◌, ◌*◌, ◌^◌, ◌≤◌, ◌<◌}
use native.Mathlib.Omega.{arith}
use lib.ListN.{length, take, drop, length-append, take-append-drop}
use lib.Seq.{take_at, take-take}
use Rattle.talk.specs.Each.{Each}
use Rattle.talk.proofs.Things.{each_first, each_kept}
use Rattle.store.specs.Tables.{RowsStand, most_elements, element_in_row, elements_in_rows, elements_in}
use Rattle.store.specs.declared.element.Element.{Element}
use Rattle.order.specs.Order.{ordered}
use Rattle.order.specs.Groups.{Group, members, members_of, groups, stored_length}
use Rattle.order.specs.Links.{lump, GroupsLaid, chosen_groups}
use Rattle.order.specs.Queue.{elements_at, queued_in, Queued}
use Rattle.order.proofs.GroupMembers.{members_append, length_more}
use Rattle.order.proofs.Grouping.{each_grouped}
use Rattle.order.proofs.Ordering.{rearranged}
use Rattle.order.proofs.Rearranged.{rearranged_each}
use Rattle.order.proofs.Queueing.{at_take}

-- ---- the first k

module _ {rows ids : List ℕ} {n : ℕ} {sums earliest laid ends : List ℕ} {gs : List Group} {w : ℕ} (l : GroupsLaid rows ids n sums earliest laid ends gs w) (k : ℕ) where
  members_split : members_of gs ≡ members_of (take k gs) ++ members_of (drop k gs)
  members_split = ap members_of (sym (take-append-drop k gs)) ∙ members_append (take k gs) (drop k gs)

  members_fewer : length (members_of (take k gs)) ≤ length (members_of gs)
  members_fewer = let a = ap length members_split in let b = length-append (members_of (take k gs)) (members_of (drop k gs)) in omega arith

  members_taken : take (length (members_of (take k gs))) (members_of gs) ≡ members_of (take k gs)
  members_taken = ap (take (length (members_of (take k gs)))) members_split ∙ take_at (members_of (take k gs)) (members_of (drop k gs)) _ refl

  laid_taken : take (length (members_of (take k gs))) (take (length (members_of gs)) laid) ≡ take (length (members_of (take k gs))) laid
  laid_taken = take-take (length (members_of (take k gs))) (length (members_of gs)) laid members_fewer

  pub first_groups_are : queued_in rows ids (length (members_of (take k gs))) laid ≡ members_of (take k gs)
  first_groups_are =
      ap (elements_at rows ids) (sym laid_taken)
      ∙ at_take rows ids (length (members_of (take k gs))) (take (length (members_of gs)) laid)
      ∙ ap (take (length (members_of (take k gs)))) l.are
      ∙ members_taken

  pub first_groups_queued : Queued rows ids laid (length (members_of (take k gs)))
  first_groups_queued =
      let a = members_fewer in
      let b = l.queued.long in
      record {
        long = omega arith;
        within = rw laid_taken at (each_first (λ (i : ℕ). RowsStand rows ids (i + 1)) (length (members_of (take k gs))) (take (length (members_of gs)) laid) l.queued.within);
      }

-- ---- how long a lump is

stored_most : (xs : List Element) → Each (λ (x : Element). x.length ≤ 2 ^ 24) xs → stored_length xs ≤ 2 ^ 24 * length xs
unfolding stored_length
stored_most [] h = omega arith
stored_most (x ∷ xs) h = let a = stored_most xs h.1 in let b = h.0 in omega arith

lumps_short : (gs : List Group) → Each (λ (g : Group). Each (λ (x : Element). x.length ≤ 2 ^ 24) (members g)) gs → length (members_of gs) ≤ most_elements
    → Each (λ (x : Element). x.length ≤ 2 ^ 32) (map lump gs)
unfolding lump
lumps_short [] h f = tt
lumps_short (g ∷ gs) h f =
    let a = stored_most (members g) h.0 in
    let b = length_more g gs in
    (omega arith, lumps_short gs h.1 (omega arith))

each_row : (P : Element → Type 0) (rows ids : List ℕ) (i n : ℕ) → ((j : ℕ) → j < i + n → P (element_in_row rows ids j)) → Each P (elements_in_rows rows ids i n)
unfolding elements_in_rows
each_row P rows ids i zero h = tt
each_row P rows ids i (suc n) h = (h i (omega arith), each_row P rows ids (suc i) n (λ j l. h j (omega arith)))

-- what holds of each row holds of the members of the groups that are chosen
pub chosen_each : (P : Element → Type 0) (test : Element → Bool) (rows ids : List ℕ) (n : ℕ) → ((j : ℕ) → j < n → P (element_in_row rows ids j))
    → Each (λ (g : Group). Each P (members g)) (chosen_groups test (ordered (elements_in rows ids n)))
chosen_each P test rows ids n h =
    each_kept (λ (g : Group). Each P (members g)) _ (groups (ordered (elements_in rows ids n)))
    (each_grouped P (ordered (elements_in rows ids n)) (rearranged_each P (rearranged (elements_in rows ids n)) (each_row P rows ids 0 n (λ j l. h j (omega arith)))))

-- of the groups of rows that are not over-long
pub chosen_short : (test : Element → Bool) (rows ids : List ℕ) (n : ℕ) → ((j : ℕ) → j < n → (element_in_row rows ids j).length ≤ 2 ^ 24)
    → length (members_of (chosen_groups test (ordered (elements_in rows ids n)))) ≤ most_elements
    → Each (λ (x : Element). x.length ≤ 2 ^ 32) (map lump (chosen_groups test (ordered (elements_in rows ids n))))
chosen_short test rows ids n short few =
    lumps_short (chosen_groups test (ordered (elements_in rows ids n))) (chosen_each (λ (x : Element). x.length ≤ 2 ^ 24) test rows ids n short) few
