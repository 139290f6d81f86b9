-- The elements by the marks of their ids, so that an id of a filter is put to few of them. It is for the code only: what a filter
-- sets does not speak of it, and a reader of Choice can skip it.
-- Assumes nothing.
use Rattle.std.specs.Prelude.{◌≡◌, ℕ, zero, suc, ◌<◌, List, get_or, eqb}
use Rattle.laws.specs.Pick.{pick}
use Rattle.store.specs.Tables.{id_in_row, mark_of}

-- among how many the ids have their marks
abbrev pub index_marks : ℕ
index_marks = 1024

-- the mark of the id of row i
abbrev pub id_mark : List ℕ → ℕ → ℕ
id_mark ids i = mark_of index_marks (id_in_row ids i)

-- the last of the first n rows whose id has this mark, counted from 1; 0 where there is none
unfoldable pub last_with : List ℕ → ℕ → ℕ → ℕ
last_with ids mark zero = 0
last_with ids mark (suc i) = pick (eqb (id_mark ids i) mark) (suc i) (last_with ids mark i)

-- both tables with n rows in them: the last row of each mark, and before each row the last one of its mark
pub record Linked (heads links ids : List ℕ) (n : ℕ) : Type 0 where
  pub head : (mark : ℕ) → mark < index_marks → get_or heads mark 0 ≡ last_with ids mark n
  pub link : (i : ℕ) → i < n → get_or links i 0 ≡ last_with ids (id_mark ids i) i
