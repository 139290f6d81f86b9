-- Groups stand in the order of their first members, and the members of a group in the order of the elements, whatever the order is: "A
-- group goes out whole, at the place of its first member, members in store order" (document 02, Q-3), which Q-14 makes row order. The last
-- lemma is an example in that order. A reader needs the statements that are pub only.
-- Assumes nothing.
use mathlib.Core.Path.{◌≡◌, refl}
use mathlib.Core.List.{List, [], ◌∷◌, map}
use Prim.Native.Nat.{ℕ}
use Rattle.laws.specs.Once.{seen}
use Rattle.laws.proofs.Cases.{by_bool}
use Rattle.talk.specs.Each.{Each}
use Rattle.talk.specs.Wanted.{keep}
use Rattle.talk.proofs.Things.{each_kept}
use Rattle.store.specs.Element.{same_key}
use Rattle.store.specs.declared.element.Element.{Element}
use Rattle.store.specs.declared.element.Key.{Key}
use Rattle.order.specs.Order.{rank_of, ordered}
use Rattle.order.specs.Groups.{Group, members, sharing, groups_behind, groups}
use Rattle.order.specs.Rearranged.{Pairs}
use Rattle.order.proofs.Rearranged.{pairs_kept}
use Rattle.order.proofs.Grouping.{each_behind}

abbrev first_of : Group → Element
first_of g = g.first

-- of each first member, as of each member
each_first_behind : (P : Element → Type 0) (before : List Key) (xs : List Element) → Each P xs → Each P (map first_of (groups_behind before xs))
each_first_behind P before xs h = of_firsts (groups_behind before xs) (each_behind P before xs h)
  where
    of_firsts : (gs : List Group) → Each (λ (g : Group). Each P (members g)) gs → Each P (map first_of gs)
    of_firsts [] h = tt
    of_firsts (g ∷ gs) h = (h.0.0, of_firsts gs h.1)

module _ (R : Element → Element → Type 0) where
  firsts_behind : (before : List Key) (xs : List Element) → Pairs R xs → Pairs R (map first_of (groups_behind before xs))
  unfolding groups_behind
  firsts_behind before [] p = tt
  firsts_behind before (x ∷ xs) p =
      by_bool (seen same_key x.serial before)
      (λ e. rw e (firsts_behind before xs p.1))
      (λ e. rw e (each_first_behind (R x) (x.serial ∷ before) xs p.0, firsts_behind (x.serial ∷ before) xs p.1))

  pub firsts_in_order : (xs : List Element) → Pairs R xs → Pairs R (map (λ (g : Group). g.first) (groups xs))
  firsts_in_order xs p = firsts_behind [] xs p

  order_behind : (before : List Key) (xs : List Element) → Pairs R xs → Each (λ (g : Group). Pairs R (members g)) (groups_behind before xs)
  unfolding groups_behind
  order_behind before [] p = tt
  order_behind before (x ∷ xs) p =
      by_bool (seen same_key x.serial before)
      (λ e. rw e (order_behind before xs p.1))
      (λ e. rw e ((each_kept (R x) (sharing x) xs p.0, pairs_kept R (sharing x) xs p.1), order_behind (x.serial ∷ before) xs p.1))

  pub members_in_order : (xs : List Element) → Pairs R xs → Each (λ (g : Group). Pairs R (members g)) (groups xs)
  members_in_order xs p = order_behind [] xs p

-- ---- an example

-- the element of this type at this place, whose serial number has this number
abbrev element : ℕ → ℕ → ℕ → Element
element kind place number =
    record {
      place = place;
      length = 46;
      kind = kind;
      id = record { low = place; high = 0; number = 1 };
      serial = record { low = 7; high = 0; number = number };
    }

-- the storage indexes come first; with each goes the one behind it that shares its serial number
pub in_row_order_lem : groups (ordered (element 5 3 1 ∷ element 1 49 2 ∷ element 5 95 2 ∷ element 1 141 1 ∷ []))
    ≡ record { first = element 1 49 2; others = element 5 95 2 ∷ [] } ∷ record { first = element 1 141 1; others = element 5 3 1 ∷ [] } ∷ []
unfolding ordered rank_of keep groups_behind seen same_key
in_row_order_lem = refl
