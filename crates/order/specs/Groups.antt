-- Elements that share a serial number (document 02, Q-3): "Elements with an equal serial become a group. The filters let a group in as soon
-- as they let one member in. A group goes out whole, at the place of its first member, members in store order", which Q-14 makes row order:
-- "groups (at the rank of their first member in the new order)". This page owns the groups: every promise to a user speaks of these alone.
-- Assumes nothing.
use Rattle.std.specs.Prelude.{Bool, true, false, List, [], ◌∷◌, ◌++◌, map, ℕ, ◌+◌}
use Rattle.laws.specs.Pick.{pick}
use Rattle.laws.specs.Once.{seen}
use Rattle.talk.specs.Wanted.{keep}
use Rattle.store.specs.Element.{same_key}
use Rattle.store.specs.declared.element.Element.{Element}
use Rattle.store.specs.declared.element.Key.{Key}

-- a group has a first member, and others or none
pub record Group : Type 0 where
  pub first : Element
  pub others : List Element

abbrev pub members : Group → List Element
members g = g.first ∷ g.others

-- the serial number that they share
abbrev pub group_serial : Group → Key
group_serial g = g.first.serial

-- the members of some groups, each group whole
unfoldable pub members_of : List Group → List Element
members_of [] = []
members_of (g ∷ gs) = members g ++ members_of gs

-- two elements "with an equal serial", which is by GUID and number
abbrev pub sharing : Element → Element → Bool
sharing x y = same_key x.serial y.serial

-- the groups of elements, behind others with these serial numbers: an element whose serial number did not come before is the first of a
-- group, and those behind it that share it are its other members
unfoldable pub groups_behind : List Key → List Element → List Group
groups_behind before [] = []
groups_behind before (x ∷ xs) =
    pick (seen same_key x.serial before) (groups_behind before xs)
    (record { first = x; others = keep (sharing x) xs } ∷ groups_behind (x.serial ∷ before) xs)

abbrev pub groups : List Element → List Group
groups xs = groups_behind [] xs

-- "as soon as they let one member in": a test holds of one of these at least
unfoldable pub some_of : (Element → Bool) → List Element → Bool
some_of test [] = false
some_of test (x ∷ xs) = pick (test x) true (some_of test xs)

-- an element that shares its serial number with no other is a group by itself
abbrev pub single : Element → Group
single x = record { first = x; others = [] }

-- ---- what the page rule takes of a group

-- "stored lengths", summed
unfoldable pub stored_length : List Element → ℕ
stored_length [] = 0
stored_length (x ∷ xs) = x.length + stored_length xs

-- the first members of some groups
abbrev pub firsts : List Group → List Element
firsts gs = map (λ (g : Group). g.first) gs
