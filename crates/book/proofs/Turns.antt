-- What a plan of the new book stands for, gone through from its first number to its last, and how long it is.
-- Assumes nothing.
use mathlib.Core.Path.{◌≡◌, ap}
use mathlib.Core.List.{List, [], ◌++◌}
use Prim.Native.Nat.{ℕ, zero, suc, ◌+◌, ◌-◌, ◌≤◌, ◌<◌}
use native.Mathlib.Omega.{arith}
use lib.ListN.{length, drop, get_or, length-append}
use Rattle.std.proofs.lemmas.List.{drop_all}
use borrow.Author.Tests.{lt-ltb, le-ltb}
use Rattle.laws.proofs.Cases.{by_lt}
use Rattle.laws.proofs.Parts.{part_length}
use Rattle.store.specs.Tables.{most_elements, element_in_row}
use Rattle.store.specs.Held.{stored_bytes}
use Rattle.enter.proofs.PlanTurns.{plan_turn}
use Rattle.book.specs.Plan.{Sides, sides, source_element, source_bytes, planned_bytes, planned_length, SourceFits, Planning}

module _ (plan : List ℕ) (k : ℕ) (h : k < length plan) where
  pub length_turn : (rows ids came_rows came_ids : List ℕ)
      → planned_length rows ids came_rows came_ids (drop k plan)
      ≡ (source_element rows ids came_rows came_ids (get_or plan k 0)).length + planned_length rows ids came_rows came_ids (drop (k + 1) plan)
  unfolding planned_length
  length_turn rows ids came_rows came_ids = rw (plan_turn plan k h)

  pub bytes_turn : (a : Sides) → planned_bytes a (drop k plan) ≡ source_bytes a (get_or plan k 0) ++ planned_bytes a (drop (k + 1) plan)
  unfolding planned_bytes
  bytes_turn a = rw (plan_turn plan k h)

module _ (plan : List ℕ) (k : ℕ) (h : length plan ≤ k) where
  pub length_end : (rows ids came_rows came_ids : List ℕ) → planned_length rows ids came_rows came_ids (drop k plan) ≡ 0
  unfolding planned_length
  length_end rows ids came_rows came_ids = rw (drop_all k plan h)

  pub bytes_end : (a : Sides) → planned_bytes a (drop k plan) ≡ []
  unfolding planned_bytes
  bytes_end a = rw (drop_all k plan h)

-- ---- what a number of the plan stands for

module _ (a : Sides) (source : ℕ) where
  pub source_there : source < most_elements → source_bytes a source ≡ stored_bytes a.book (element_in_row a.rows a.ids source)
  unfolding source_bytes
  source_there h = rw (lt-ltb source most_elements h)

  pub source_came : most_elements ≤ source → source_bytes a source ≡ stored_bytes a.answer (element_in_row a.came_rows a.came_ids (source - most_elements))
  unfolding source_bytes
  source_came h = rw (le-ltb source most_elements h)

module _ (rows ids came_rows came_ids : List ℕ) (source : ℕ) where
  pub element_there : source < most_elements → source_element rows ids came_rows came_ids source ≡ element_in_row rows ids source
  unfolding source_element
  element_there h = rw (lt-ltb source most_elements h)

  pub element_came : most_elements ≤ source → source_element rows ids came_rows came_ids source ≡ element_in_row came_rows came_ids (source - most_elements)
  unfolding source_element
  element_came h = rw (le-ltb source most_elements h)

-- ---- how long it is

module _ (b rows ids w came_rows came_ids : List ℕ) where
  length_source : (source : ℕ) → SourceFits b rows ids w came_rows came_ids source
      → length (source_bytes (sides b rows ids w came_rows came_ids) source) ≡ (source_element rows ids came_rows came_ids source).length
  unfolding stored_bytes
  length_source source h =
      by_lt source most_elements
      (λ l.
      let x = element_in_row rows ids source in
      rw (source_there (sides b rows ids w came_rows came_ids) source l, element_there rows ids came_rows came_ids source l)
      (part_length x.place x.length b (h.there l).within))
      (λ l.
      let x = element_in_row came_rows came_ids (source - most_elements) in
      rw (source_came (sides b rows ids w came_rows came_ids) source l, element_came rows ids came_rows came_ids source l)
      (part_length x.place x.length w (h.came l).within))

  planned_from : (plan : List ℕ) → Planning b rows ids w came_rows came_ids plan → (d k : ℕ) → k + d ≡ length plan
      → length (planned_bytes (sides b rows ids w came_rows came_ids) (drop k plan)) ≡ planned_length rows ids came_rows came_ids (drop k plan)
  planned_from plan h zero k e =
      let a = ap length (bytes_end plan k (omega arith) (sides b rows ids w came_rows came_ids)) in
      let c = length_end plan k (omega arith) rows ids came_rows came_ids in
      omega arith
  planned_from plan h (suc d) k e =
      let l : k < length plan = omega arith in
      let a = bytes_turn plan k l (sides b rows ids w came_rows came_ids) in
      let c = length_turn plan k l rows ids came_rows came_ids in
      let f = length-append (source_bytes (sides b rows ids w came_rows came_ids) (get_or plan k 0)) (planned_bytes (sides b rows ids w came_rows came_ids) (drop (k + 1) plan)) in
      let g = length_source (get_or plan k 0) (h.fits k l) in
      let i = planned_from plan h d (k + 1) (omega arith) in
      let m = ap length a in
      omega arith

  pub length_planned : (plan : List ℕ) → Planning b rows ids w came_rows came_ids plan
      → length (planned_bytes (sides b rows ids w came_rows came_ids) plan) ≡ planned_length rows ids came_rows came_ids plan
  length_planned plan h = planned_from plan h (length plan) 0 (omega arith)
