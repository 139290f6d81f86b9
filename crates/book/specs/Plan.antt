-- The new book as the code writes it, by a plan (`Plan` of the crate enter): what a number of the plan stands for, and what the functions are
-- lent. All of it is for the code only: a reader of Keep can skip it.
-- Assumes nothing.
use Rattle.std.specs.Prelude.{◌≡◌, List, [], ◌∷◌, ◌++◌, ℕ, ◌+◌, ◌-◌, ◌^◌, ◌≤◌, ◌<◌, length, get_or, ltb}
use Rattle.laws.specs.Pick.{pick}
use Rattle.store.specs.Tables.{most_elements, RowsStand, element_in_row, elements_in}
use Rattle.store.specs.Held.{stored_bytes}
use Rattle.store.specs.declared.element.Element.{Element}
use Rattle.store.specs.declared.held.Held.{Held}

-- ---- bytes that were read: the rows and the ids of n elements stand in the working tables

pub record ReadRows (s rows ids : List ℕ) (n : ℕ) (elements : List Element) : Type 0 where
  pub held : elements_in rows ids n ≡ elements
  pub most : n ≤ most_elements
  pub stand : RowsStand rows ids n
  pub within : (i : ℕ) → i < n → (element_in_row rows ids i).place + (element_in_row rows ids i).length ≤ length s
  pub short : length s ≤ 2 ^ 25

-- ---- the book and the answer, and their working tables

pub record Sides : Type 0 where
  pub book : List ℕ
  pub rows : List ℕ
  pub ids : List ℕ
  pub answer : List ℕ
  pub came_rows : List ℕ
  pub came_ids : List ℕ

abbrev pub sides : List ℕ → List ℕ → List ℕ → List ℕ → List ℕ → List ℕ → Sides
sides b rows ids w came_rows came_ids =
    record { book = b; rows = rows; ids = ids; answer = w; came_rows = came_rows; came_ids = came_ids }

abbrev pub sides_of : Held → Held → Sides
sides_of b a = sides b.bytes.now b.elements.rows.now b.elements.ids.now a.bytes.now a.elements.rows.now a.elements.ids.now

abbrev pub HoldsRows : Held → List Element → Type 0
HoldsRows x elements = ReadRows x.bytes.now x.elements.rows.now x.elements.ids.now x.elements.count elements

-- ---- what the numbers of the plan stand for

unfoldable pub source_element : List ℕ → List ℕ → List ℕ → List ℕ → ℕ → Element
source_element rows ids came_rows came_ids source =
    pick (ltb source most_elements) (element_in_row rows ids source) (element_in_row came_rows came_ids (source - most_elements))

unfoldable pub source_bytes : Sides → ℕ → List ℕ
source_bytes a source =
    pick (ltb source most_elements) (stored_bytes a.book (element_in_row a.rows a.ids source))
    (stored_bytes a.answer (element_in_row a.came_rows a.came_ids (source - most_elements)))

-- all of a plan, one behind the other
unfoldable pub planned_bytes : Sides → List ℕ → List ℕ
planned_bytes a [] = []
planned_bytes a (source ∷ plan) = source_bytes a source ++ planned_bytes a plan

unfoldable pub planned_length : List ℕ → List ℕ → List ℕ → List ℕ → List ℕ → ℕ
planned_length rows ids came_rows came_ids [] = 0
planned_length rows ids came_rows came_ids (source ∷ plan) = (source_element rows ids came_rows came_ids source).length + planned_length rows ids came_rows came_ids plan

-- ---- what is lent to whoever goes through a plan

-- a row of bytes that were read, with an element that lies in them
pub record RowFits (s rows ids : List ℕ) (i : ℕ) : Type 0 where
  pub stands : RowsStand rows ids (i + 1)
  pub within : (element_in_row rows ids i).place + (element_in_row rows ids i).length ≤ length s
  pub short : length s ≤ 2 ^ 25

-- a number of the plan that stands for an element
pub record SourceFits (b rows ids w came_rows came_ids : List ℕ) (source : ℕ) : Type 0 where
  pub there : source < most_elements → RowFits b rows ids source
  pub came : most_elements ≤ source → RowFits w came_rows came_ids (source - most_elements)

pub record Planning (b rows ids w came_rows came_ids plan : List ℕ) : Type 0 where
  pub few : length plan ≤ most_elements
  pub fits : (k : ℕ) → k < length plan → SourceFits b rows ids w came_rows came_ids (get_or plan k 0)

-- the same as the code has it
abbrev pub HasSource : Held → Held → ℕ → Type 0
HasSource b a source = SourceFits b.bytes.now b.elements.rows.now b.elements.ids.now a.bytes.now a.elements.rows.now a.elements.ids.now source

abbrev pub HasPlan : Held → Held → List ℕ → Type 0
HasPlan b a plan = Planning b.bytes.now b.elements.rows.now b.elements.ids.now a.bytes.now a.elements.rows.now a.elements.ids.now plan
