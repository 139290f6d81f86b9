-- The members of groups, by links between rows in their order: where the next member stands, what one member after the other comes to, and
-- what is told of all groups of which one member is chosen. No promise to a user speaks of it.
-- Assumes nothing.
use Rattle.std.specs.Prelude.{◌≡◌, Bool, true, List, [], ◌∷◌, ◌++◌, map, ℕ, suc, ◌+◌, ◌-◌, ◌^◌, ◌≤◌, ◌<◌, length, take, drop, get_or, eqb}
use Rattle.laws.specs.Pick.{pick}
use Rattle.talk.specs.Each.{Each}
use Rattle.talk.specs.Wanted.{keep}
use Rattle.store.specs.Tables.{RowsStand, most_elements, element_in_row}
use Rattle.store.specs.declared.element.Element.{Element}
use Rattle.order.specs.Groups.{Group, members, members_of, sharing, groups, some_of, stored_length}
use Rattle.order.specs.Queue.{elements_at, queued_in, Queued}
use Rattle.order.specs.Rearranged.{Pairs}
use Rattle.order.specs.declared.groups.Laid.{Laid}

-- ---- rows in their order: n positions, each of one of n rows

pub record RowsQueued (rows ids queue : List ℕ) (n : ℕ) : Type 0 where
  pub stand : RowsStand rows ids n
  pub few : n ≤ most_elements
  pub long : n ≤ length queue
  pub within : Each (λ (i : ℕ). i < n) (take n queue)

-- the element of the row at position k, and those from there on
abbrev pub queued_at : List ℕ → List ℕ → List ℕ → ℕ → Element
queued_at rows ids queue k = element_in_row rows ids (get_or queue k 0)

abbrev pub queued_from : List ℕ → List ℕ → ℕ → List ℕ → ℕ → List Element
queued_from rows ids n queue k = elements_at rows ids (drop k (take n queue))

-- ---- the next of a group

-- where the first stands that shares its serial number with x, if these begin at a place; behind them, if none does
unfoldable pub first_sharing : Element → ℕ → List Element → ℕ
first_sharing x at [] = at
first_sharing x at (y ∷ ys) = pick (sharing x y) at (first_sharing x (suc at) ys)

-- among how many the serial numbers have their heads
abbrev pub head_count : ℕ
head_count = 1024

-- where it may stand at the earliest: a head is one more than a position, and 0 where no element of these has the mark
unfoldable pub from_head : ℕ → ℕ → ℕ
from_head head n = pick (eqb head 0) n (head - 1)

-- each position from k on has a link to the next of its group
abbrev pub LinkedFrom : List ℕ → List ℕ → ℕ → List ℕ → List ℕ → ℕ → Type 0
LinkedFrom rows ids n queue links k =
    (j : ℕ) → k ≤ j → j < n → get_or links j 0 ≡ first_sharing (queued_at rows ids queue j) (suc j) (queued_from rows ids n queue (suc j))

abbrev pub Linked : List ℕ → List ℕ → ℕ → List ℕ → List ℕ → Type 0
Linked rows ids n queue links = LinkedFrom rows ids n queue links 0

-- ---- one group: its members, from position k on

abbrev pub group_from : List ℕ → List ℕ → ℕ → List ℕ → ℕ → List Element
group_from rows ids n queue k = keep (sharing (queued_at rows ids queue k)) (queued_from rows ids n queue k)

-- the flags choose those for which a test holds
abbrev pub FlagsAre : (Element → Bool) → List ℕ → List ℕ → ℕ → List ℕ → Type 0
FlagsAre test rows ids n flags = (i : ℕ) → i < n → get_or flags i 0 ≡ pick (test (element_in_row rows ids i)) 1 0

abbrev pub SomeTest : List ℕ → List ℕ → ℕ → List ℕ → Type 0
SomeTest rows ids n flags = (test : Element → Bool) × FlagsAre test rows ids n flags

-- what laying a group is lent
pub record ToLay (rows ids : List ℕ) (n : ℕ) (queue links flags : List ℕ) (k : ℕ) (passed : List ℕ) (at : ℕ) (laid : List ℕ) : Type 0 where
  pub queued : RowsQueued rows ids queue n
  pub short : (i : ℕ) → i < n → (element_in_row rows ids i).length ≤ 2 ^ 24
  pub links_long : n ≤ length links
  pub linked : Linked rows ids n queue links
  pub flags_long : n ≤ length flags
  pub inside : k < n
  pub passed_long : n ≤ length passed
  pub room : at + length (group_from rows ids n queue k) ≤ length laid
  pub few : at + length (group_from rows ids n queue k) ≤ most_elements

-- the members stand behind the first `at` of the queue of members, their positions are passed, and this is what they come to
pub record MembersLaid (rows ids : List ℕ) (n : ℕ) (queue flags : List ℕ) (k : ℕ) (passed passed' : List ℕ) (at : ℕ) (laid laid' : List ℕ) (r : Laid) : Type 0 where
  pub end : r.end ≡ at + length (group_from rows ids n queue k)
  pub few : length (group_from rows ids n queue k) ≤ n
  pub stored : r.stored ≡ stored_length (group_from rows ids n queue k)
  pub chosen : (test : Element → Bool) → FlagsAre test rows ids n flags → r.chosen ≡ some_of test (group_from rows ids n queue k)
  pub inside : r.earliest < n
  pub shares : sharing (queued_at rows ids queue k) (element_in_row rows ids r.earliest) ≡ true
  pub are : queued_in rows ids r.end laid' ≡ queued_in rows ids at laid ++ group_from rows ids n queue k
  pub kept : take at laid' ≡ take at laid
  pub within : Each (λ (i : ℕ). RowsStand rows ids (i + 1)) (take at laid) → Each (λ (i : ℕ). RowsStand rows ids (i + 1)) (take r.end laid')
  pub long : length laid' ≡ length laid
  pub marked : (j : ℕ) → k ≤ j → j < n
      → get_or passed' j 0 ≡ pick (sharing (queued_at rows ids queue k) (queued_at rows ids queue j)) 1 (get_or passed j 0)
  pub passed_long : length passed' ≡ length passed

-- ---- all groups of which one member is chosen

-- an element with another length, and a group as if it were one element: its first member, with the stored lengths of all
abbrev pub with_length : Element → ℕ → Element
with_length x n = record { place = x.place; length = n; kind = x.kind; id = x.id; serial = x.serial }

unfoldable pub lump : Group → Element
lump g = with_length g.first (stored_length (members g))

-- all that a page takes of an element: its serial number and its length
abbrev pub bare : Element → Element
bare x = record { place = 0; length = x.length; kind = 0; id = x.serial; serial = x.serial }

-- a row as if it were all of its group: with the length that stands for it in a table of sums
abbrev pub summed_row : List ℕ → List ℕ → List ℕ → ℕ → Element
summed_row rows ids sums i = with_length (element_in_row rows ids i) (get_or sums i 0)

abbrev pub chosen_groups : (Element → Bool) → List Element → List Group
chosen_groups test xs = keep (λ (g : Group). some_of test (members g)) (groups xs)

-- what laying them is lent: nothing is passed yet, and there is room for as many groups and members as there are rows
pub record ToGroup (rows ids : List ℕ) (n : ℕ) (queue links flags passed sums earliest laid ends : List ℕ) : Type 0 where
  pub queued : RowsQueued rows ids queue n
  pub short : (i : ℕ) → i < n → (element_in_row rows ids i).length ≤ 2 ^ 24
  pub links_long : n ≤ length links
  pub linked : Linked rows ids n queue links
  pub flags_long : n ≤ length flags
  pub passed_long : n ≤ length passed
  pub none_passed : (k : ℕ) → k < n → get_or passed k 0 ≡ 0
  pub sums_room : n ≤ length sums
  pub earliest_room : n ≤ length earliest
  pub room : n ≤ length laid
  pub ends_room : n < length ends

-- for each stands one of its rows, in a queue, with the sum of the stored lengths in a table; its members stand in another queue; and it is
-- told how many the first j groups have
pub record GroupsLaid (rows ids : List ℕ) (n : ℕ) (sums earliest laid ends : List ℕ) (gs : List Group) (w : ℕ) : Type 0 where
  pub counted : w ≡ length gs
  pub long : w ≤ length earliest
  pub inside : Each (λ (i : ℕ). i < n) (take w earliest)
  pub apart : Pairs (λ (i j : ℕ). i ≡ j → ⊥) (take w earliest)
  pub lumps : map bare (map (summed_row rows ids sums) (take w earliest)) ≡ map bare (map lump gs)
  pub few : length (members_of gs) ≤ most_elements
  pub queued : Queued rows ids laid (length (members_of gs))
  pub are : queued_in rows ids (length (members_of gs)) laid ≡ members_of gs
  pub ends_are : (j : ℕ) → j ≤ w → get_or ends j 0 ≡ length (members_of (take j gs))

-- told of whatever test the flags are of, where the elements are xs in their order
abbrev pub GroupsTold : List ℕ → List ℕ → ℕ → List ℕ → List Element → List ℕ → List ℕ → List ℕ → List ℕ → ℕ → Type 0
GroupsTold rows ids n flags xs sums earliest laid ends w =
    (test : Element → Bool) → FlagsAre test rows ids n flags → GroupsLaid rows ids n sums earliest laid ends (chosen_groups test xs) w
