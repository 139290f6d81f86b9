-- The rows that flags choose, in their order: a queue of their positions in the working tables. No promise to a user speaks of it.
-- Assumes nothing.
use Rattle.std.specs.Prelude.{◌≡◌, ℕ, zero, suc, ◌+◌, ◌*◌, ◌≤◌, ◌<◌, List, [], ◌∷◌, ◌++◌, map, length, take, drop, get_or, set, Bool, true, false, eqb, ltb}
use Rattle.laws.specs.Pick.{pick}
use Rattle.talk.specs.Each.{Each}
use Rattle.store.specs.Tables.{RowsStand, most_elements, element_in_row}
use Rattle.store.specs.declared.element.Element.{Element}
use Rattle.order.specs.Order.{rank_of}

-- those whose flag is not 0
unfoldable pub chosen : List Element → List ℕ → List Element
chosen [] flags = []
chosen (x ∷ xs) [] = []
chosen (x ∷ xs) (b ∷ flags) = pick (eqb b 0) (chosen xs flags) (x ∷ chosen xs flags)

-- the positions of those of one rank among them, where the first element is in row i
unfoldable pub places_of : ℕ → ℕ → List Element → List ℕ → List ℕ
places_of r i [] flags = []
places_of r i (x ∷ xs) [] = []
places_of r i (x ∷ xs) (b ∷ flags) =
    pick (eqb b 0) (places_of r (suc i) xs flags) (pick (eqb (rank_of x) r) (i ∷ places_of r (suc i) xs flags) (places_of r (suc i) xs flags))

-- the positions of so many ranks, from r on
unfoldable pub places_from : ℕ → ℕ → List Element → List ℕ → List ℕ
places_from zero r xs flags = []
places_from (suc k) r xs flags = places_of r 0 xs flags ++ places_from k (suc r) xs flags

-- there are five ranks, from 1 on
abbrev pub ranks : ℕ
ranks = 5

abbrev pub queue_of : List Element → List ℕ → List ℕ
queue_of xs flags = places_from ranks 1 xs flags

-- ---- while they are sorted: the positions of each rank in a part of its own, which begins at r * part_length for the rank r + 1

abbrev pub part_length : ℕ
part_length = most_elements

-- so many of a part
abbrev pub part_at : List ℕ → ℕ → ℕ → List ℕ
part_at parts r n = take n (drop (r * part_length) parts)

pub record PartsStand (parts counts : List ℕ) : Type 0 where
  pub parts_long : length parts ≡ ranks * part_length
  pub counts_long : length counts ≡ ranks

-- so many parts, from part r on, one behind the other, of each as much as is counted
unfoldable pub joined_parts : ℕ → ℕ → List ℕ → List ℕ → List ℕ
joined_parts zero r parts counts = []
joined_parts (suc k) r parts counts = part_at parts r (get_or counts r 0) ++ joined_parts k (suc r) parts counts

-- each part holds its positions, and their number is counted
abbrev pub Parted : List Element → List ℕ → List ℕ → List ℕ → Type 0
Parted xs flags parts counts =
    (r : ℕ) → r < ranks → (get_or counts r 0 ≡ length (places_of (suc r) 0 xs flags)) × (part_at parts r (get_or counts r 0) ≡ places_of (suc r) 0 xs flags)

-- ---- a queue, as it is used

-- the elements in rows at these positions
abbrev pub elements_at : List ℕ → List ℕ → List ℕ → List Element
elements_at rows ids places = map (λ (i : ℕ). element_in_row rows ids i) places

-- those that are queued, w of them
abbrev pub queued_in : List ℕ → List ℕ → ℕ → List ℕ → List Element
queued_in rows ids w queue = elements_at rows ids (take w queue)

-- whether no position is less than the one before it, which for the first is this
unfoldable pub rising_from : ℕ → List ℕ → Bool
rising_from last [] = true
rising_from last (i ∷ places) = pick (ltb i last) false (rising_from i places)

-- the flags of the rows at these positions set
unfoldable pub marking : List ℕ → List ℕ → List ℕ
marking [] flags = flags
marking (i ∷ places) flags = set (marking places flags) i 1

-- n positions from i on, one after the other
unfoldable pub positions_from : ℕ → ℕ → List ℕ
positions_from i zero = []
positions_from i (suc n) = i ∷ positions_from (suc i) n

-- a queue of w positions, each of a row that stands in the tables
pub record Queued (rows ids queue : List ℕ) (w : ℕ) : Type 0 where
  pub long : w ≤ length queue
  pub within : Each (λ (i : ℕ). RowsStand rows ids (i + 1)) (take w queue)
