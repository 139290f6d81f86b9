-- Rows weighed: the element of a row, with the stored length that a column of a table has for it. What is decided is decided of these, so
-- that a row may stand for a group. Nothing here is needed to read the calls' own promises.
-- Assumes nothing.
use Rattle.std.specs.Prelude.{ℕ, ◌+◌, ◌*◌, ◌≤◌, ◌<◌, List, map, length, take, get_or}
use Rattle.talk.specs.Each.{Each}
use Rattle.store.specs.Tables.{RowsStand, row_width, element_in_row}
use Rattle.store.specs.declared.element.Element.{Element}
use Rattle.order.specs.Links.{with_length}
use Rattle.order.specs.Queue.{positions_from}
use Rattle.pages.specs.declared.weighed.Column.{Column}
use Rattle.pages.specs.declared.weighed.Wanted.{Wanted}
use Rattle.pages.specs.declared.weighed.Weights.{Weights}

-- where the length of row i stands
abbrev pub length_place : Column → ℕ → ℕ
length_place c i = i * c.width + c.at

-- the column of lengths that rows have themselves: "(place, length, ..)"
abbrev pub length_column : Column
length_column = record { width = row_width; at = 1 }

-- the column of a table of sums, one for each row
abbrev pub sum_column : Column
sum_column = record { width = 1; at = 0 }

-- row i weighed
unfoldable pub weighed : List ℕ → List ℕ → List ℕ → Column → ℕ → Element
weighed rows ids lengths c i = with_length (element_in_row rows ids i) (get_or lengths (length_place c i) 0)

-- those that are queued, w of them
abbrev pub weighed_in : List ℕ → List ℕ → List ℕ → Column → ℕ → List ℕ → List Element
weighed_in rows ids lengths c w queue = map (weighed rows ids lengths c) (take w queue)

-- as functions are lent them
abbrev pub wanted_rows : Weights → Wanted → List Element
wanted_rows weights wanted = weighed_in weights.all.rows.now weights.all.ids.now weights.lengths.now weights.column wanted.count wanted.queue.now

-- the first n rows, as they stand
abbrev pub weighed_rows : List ℕ → List ℕ → List ℕ → Column → ℕ → List Element
weighed_rows rows ids lengths c n = map (weighed rows ids lengths c) (positions_from 0 n)

-- what weighing row i asks: the row stands in the tables, and so does its length
abbrev pub WeighsRow : List ℕ → List ℕ → List ℕ → Column → ℕ → Type 0
WeighsRow rows ids lengths c i = RowsStand rows ids (i + 1) × (length_place c i < length lengths)

-- a queue of w positions, each of a row that can be weighed
pub record Weighs (rows ids lengths : List ℕ) (c : Column) (queue : List ℕ) (w : ℕ) : Type 0 where
  pub long : w ≤ length queue
  pub within : Each (λ (i : ℕ). WeighsRow rows ids lengths c i) (take w queue)
