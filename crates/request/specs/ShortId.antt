-- How long the id at the front of a part is, where that is seen without reading it. It is for the code only: what a filter says does
-- not speak of it, and a reader of Filter can skip it.
-- Assumes nothing.
use Rattle.std.specs.Prelude.{◌≡◌, ℕ, ◌+◌, ◌≤◌, List, length, get_or, ltb, eqb, Option, Some, None}
use Rattle.std.specs.Int.Count.{count_trailing_zeros}
use Rattle.laws.specs.Pick.{pick}
use Rattle.numbers.specs.ExtendedGuid.{read_extended_guid}
use Rattle.objects.specs.Steps.{id_on, on_field}
use Rattle.objects.specs.Results.Reading.{At}

-- the zero bits below the lowest set bit of the first byte tell the form
abbrev pub zeros_of : List ℕ → ℕ
zeros_of s = count_trailing_zeros 8 (get_or s 0 0)

-- the form of 17 bytes, and that of 18 where the number's upper byte is 8 or more; else none, and none of fewer than 18 bytes
unfoldable pub short_id : List ℕ → Option ℕ
short_id s =
    pick (ltb (length s) 18) None
    (pick (eqb (zeros_of s) 2) (Some 17)
    (pick (eqb (zeros_of s) 5) (pick (ltb (get_or s 1 0) 8) None (Some 18)) None))

-- the id is within the part, and as long as that, wherever the part stands
pub record Seen (s : List ℕ) (n : ℕ) : Type 0 where
  pub within : n ≤ length s
  pub reads : (at : ℕ) → on_field (id_on at (read_extended_guid s)) ≡ At (at + n) 0
