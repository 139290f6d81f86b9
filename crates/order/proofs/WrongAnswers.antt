-- Wrong answers that the definitions and contracts of this crate rule out, each on a named input.
-- Assumes nothing.
use mathlib.Core.Path.{◌≡◌, ap}
use mathlib.Core.Bool.{true, false, not}
use mathlib.Core.List.{List, [], ◌∷◌}
use Prim.Native.Nat.{ℕ}
use native.Mathlib.Omega.{arith}
use lib.Dec.{eqb}
use lib.ListN.{length, take, get_or}
use Rattle.laws.specs.Once.{seen}
use Rattle.laws.specs.Placed.{Lays}
use Rattle.laws.proofs.Cases.{impossible}
use Rattle.talk.specs.Wanted.{keep}
use Rattle.store.specs.Element.{same_key}
use Rattle.store.specs.Tables.{flat, rows_of}
use Rattle.store.specs.declared.element.Element.{Element}
use Rattle.order.specs.Order.{rank_of, ordered, ranked_rows}
use Rattle.order.specs.Groups.{Group, members, members_of, groups_behind, groups, some_of, single, stored_length}
use Rattle.order.specs.Queue.{places_of, places_from, queue_of, rising_from, marking}
use Rattle.order.specs.Links.{chosen_groups}

-- an element of this type at this place
abbrev element : ℕ → ℕ → Element
element kind place =
    record {
      place = place;
      length = 46;
      kind = kind;
      id = record { low = place; high = 0; number = 1 };
      serial = record { low = 7; high = 0; number = place };
    }

-- ---- the rank: 0 for type 0; 6 for type 6; the place

rank_zero : rank_of (element 0 3) ≡ 0 → ⊥
unfolding rank_of
rank_zero h = impossible (cc)

rank_six : rank_of (element 6 3) ≡ 6 → ⊥
unfolding rank_of
rank_six h = impossible (cc)

rank_of_place : rank_of (element 2 3) ≡ 3 → ⊥
unfolding rank_of
rank_of_place h = impossible (cc)

-- ---- the order: type 4 before type 3; the second of one rank before the first; the store's order; a row less

four_before_three : ordered (element 4 3 ∷ element 3 49 ∷ []) ≡ element 4 3 ∷ element 3 49 ∷ [] → ⊥
unfolding ordered rank_of keep
four_before_three h = impossible (cc)

turned_round : ordered (element 7 3 ∷ element 5 49 ∷ []) ≡ element 5 49 ∷ element 7 3 ∷ [] → ⊥
unfolding ordered rank_of keep
turned_round h = impossible (cc)

index_last : ordered (element 5 3 ∷ element 1 49 ∷ []) ≡ element 5 3 ∷ element 1 49 ∷ [] → ⊥
unfolding ordered rank_of keep
index_last h = impossible (cc)

one_less : ordered (element 5 3 ∷ element 1 49 ∷ []) ≡ element 1 49 ∷ [] → ⊥
unfolding ordered rank_of keep
one_less h = impossible (cc)

-- ---- the queue: a row of rank 2 before one of rank 1; the second of two rows of one rank before the first; one that no flag chooses

rank_two_first : Lays 0 (queue_of (element 2 3 ∷ element 1 49 ∷ []) (1 ∷ 1 ∷ [])) (9 ∷ 9 ∷ []) 2 (0 ∷ 1 ∷ []) → ⊥
unfolding places_from places_of rank_of
rank_two_first h = impossible (cc h.1)

second_first : Lays 0 (queue_of (element 5 3 ∷ element 6 49 ∷ []) (1 ∷ 1 ∷ [])) (9 ∷ 9 ∷ []) 2 (1 ∷ 0 ∷ []) → ⊥
unfolding places_from places_of rank_of
second_first h = impossible (cc h.1)

not_chosen : Lays 0 (queue_of (element 1 3 ∷ element 5 49 ∷ []) (0 ∷ 1 ∷ [])) (9 ∷ 9 ∷ []) 2 (0 ∷ 1 ∷ []) → ⊥
unfolding places_from places_of rank_of
not_chosen h = impossible (cc h.0)

-- ---- one position of a queue: the next one; where it stands

next_position : ◌≡◌ {A = ℕ} (get_or (4 ∷ 2 ∷ 7 ∷ []) 1 0) 7 → ⊥
next_position h = impossible (cc)

own_place : ◌≡◌ {A = ℕ} (get_or (4 ∷ 2 ∷ 7 ∷ []) 1 0) 1 → ⊥
own_place h = impossible (cc)

-- ---- the lent rows: in the store's order; without their ranks

rows_in_store_order : ranked_rows (ordered (element 5 3 ∷ element 1 49 ∷ [])) ≡ ranked_rows (element 5 3 ∷ element 1 49 ∷ []) → ⊥
unfolding ordered rank_of keep flat
rows_in_store_order h = impossible (cc)

rows_without_rank : ranked_rows (ordered (element 1 3 ∷ [])) ≡ rows_of (element 1 3 ∷ []) → ⊥
unfolding ordered rank_of keep flat
rows_without_rank h = impossible (cc)

-- ---- the groups: at the place of the last member; with the first member alone; of equal numbers under two GUIDs

-- an element at this place, with a serial number of this GUID and number
abbrev numbered : ℕ → ℕ → ℕ → Element
numbered place guid number =
    record {
      place = place;
      length = 46;
      kind = 5;
      id = record { low = place; high = 0; number = 1 };
      serial = record { low = guid; high = 0; number = number };
    }

-- the place of the member that goes out first
abbrev first_place : List Group → ℕ
first_place [] = 0
first_place (g ∷ gs) = g.first.place

at_the_last : groups (numbered 3 7 1 ∷ numbered 49 7 2 ∷ numbered 95 7 1 ∷ [])
    ≡ single (numbered 49 7 2) ∷ record { first = numbered 3 7 1; others = numbered 95 7 1 ∷ [] } ∷ [] → ⊥
unfolding groups_behind keep seen same_key
at_the_last h = let z : ◌≡◌ {A = ℕ} 3 49 = ap first_place h in omega arith

first_alone : groups (numbered 3 7 1 ∷ numbered 49 7 1 ∷ []) ≡ single (numbered 3 7 1) ∷ [] → ⊥
unfolding groups_behind members_of keep seen same_key
first_alone h = let z : ◌≡◌ {A = ℕ} 2 1 = ap (λ (gs : List Group). length (members_of gs)) h in omega arith

by_number_alone : groups (numbered 3 7 1 ∷ numbered 49 8 1 ∷ []) ≡ record { first = numbered 3 7 1; others = numbered 49 8 1 ∷ [] } ∷ [] → ⊥
unfolding groups_behind keep seen same_key
by_number_alone h = impossible (cc)

-- ---- groups that flags choose: without the member that no flag chooses; at the place of the first that a flag chooses

without_the_unchosen : chosen_groups (λ (x : Element). eqb x.place 49) (numbered 3 7 1 ∷ numbered 49 7 1 ∷ []) ≡ single (numbered 49 7 1) ∷ [] → ⊥
unfolding groups_behind seen same_key keep some_of
without_the_unchosen h = let z : ◌≡◌ {A = ℕ} 3 49 = ap first_place h in omega arith

at_the_chosen : chosen_groups (λ (x : Element). not (eqb x.place 3)) (numbered 3 7 1 ∷ numbered 49 7 2 ∷ numbered 95 7 1 ∷ [])
    ≡ single (numbered 49 7 2) ∷ record { first = numbered 3 7 1; others = numbered 95 7 1 ∷ [] } ∷ [] → ⊥
unfolding groups_behind seen same_key keep some_of
at_the_chosen h = let z : ◌≡◌ {A = ℕ} 3 49 = ap first_place h in omega arith

-- ---- what stands for a group: the length of the first member for the sum

first_for_sum : stored_length (members (record { first = numbered 3 7 1; others = numbered 49 7 1 ∷ [] })) ≡ 46 → ⊥
unfolding stored_length
first_for_sum h = let z : ◌≡◌ {A = ℕ} 92 46 = h in omega arith

-- ---- rows that a queue marks: those from the first on; one more than the first of the queue

from_the_first : marking (2 ∷ 3 ∷ []) (0 ∷ 0 ∷ 0 ∷ 0 ∷ []) ≡ 1 ∷ 1 ∷ 0 ∷ 0 ∷ [] → ⊥
unfolding marking
from_the_first h = impossible (cc)

one_too_many : marking (take 1 (2 ∷ 3 ∷ [])) (0 ∷ 0 ∷ 0 ∷ 0 ∷ []) ≡ 0 ∷ 0 ∷ 1 ∷ 1 ∷ [] → ⊥
unfolding marking
one_too_many h = impossible (cc)

-- ---- positions that rise: where the last one falls; not, where it falls behind those that are asked for

falls_at_last : rising_from 0 (take 3 (2 ∷ 3 ∷ 1 ∷ [])) ≡ true → ⊥
unfolding rising_from
falls_at_last h = impossible (cc)

falls_behind : rising_from 0 (take 2 (2 ∷ 3 ∷ 1 ∷ [])) ≡ false → ⊥
unfolding rising_from
falls_behind h = impossible (cc)
