-- What a plan stands for, gone through from its first number to its last.
-- Assumes nothing.
use mathlib.Core.Path.{◌≡◌}
use mathlib.Core.List.{List, [], ◌++◌}
use Prim.Native.Nat.{ℕ, ◌+◌, ◌≤◌, ◌<◌}
use lib.ListN.{length, drop, get_or}
use Rattle.std.proofs.lemmas.List.{drop_all}
use Rattle.numbers.specs.declared.guid.Guid.{Guid}
use Rattle.talk.specs.Ranges.{insert}
use Rattle.talk.specs.declared.range.Range.{Range}
use borrow.Author.Tests.{lt-ltb, le-ltb}
use Rattle.store.specs.Element.{key_of}
use Rattle.store.specs.Tables.{most_elements, element_in_row}
use Rattle.store.specs.Held.{stored_bytes, key_range}
use Rattle.store.specs.Written.{written_element, content_in}
use Rattle.enter.proofs.PlanTurns.{plan_turn}
use Rattle.puts.specs.Plan.{Sides, handed_row, source_serial, source_bytes, source_length, planned_bytes, planned_length, planned_ranges}

module _ (plan : List ℕ) (k : ℕ) (h : k < length plan) where
  pub length_turn : (rows ids q handed_rows handed_ids : List ℕ)
      → planned_length rows ids q handed_rows handed_ids (drop k plan)
      ≡ source_length rows ids q handed_rows handed_ids (get_or plan k 0) + planned_length rows ids q handed_rows handed_ids (drop (k + 1) plan)
  unfolding planned_length
  length_turn rows ids q handed_rows handed_ids = rw (plan_turn plan k h)

  pub bytes_turn : (a : Sides) → planned_bytes a (drop k plan) ≡ source_bytes a (get_or plan k 0) ++ planned_bytes a (drop (k + 1) plan)
  unfolding planned_bytes
  bytes_turn a = rw (plan_turn plan k h)

  pub ranges_turn : (rows ids : List ℕ) (g : Guid) (highest : ℕ) (r : List Range)
      → planned_ranges rows ids g highest r (drop k plan)
      ≡ planned_ranges rows ids g highest (insert (key_range (source_serial rows ids g highest (get_or plan k 0))) r) (drop (k + 1) plan)
  unfolding planned_ranges
  ranges_turn rows ids g highest r = rw (plan_turn plan k h)

module _ (plan : List ℕ) (k : ℕ) (h : length plan ≤ k) where
  pub length_end : (rows ids q handed_rows handed_ids : List ℕ) → planned_length rows ids q handed_rows handed_ids (drop k plan) ≡ 0
  unfolding planned_length
  length_end rows ids q handed_rows handed_ids = rw (drop_all k plan h)

  pub bytes_end : (a : Sides) → planned_bytes a (drop k plan) ≡ []
  unfolding planned_bytes
  bytes_end a = rw (drop_all k plan h)

  pub ranges_end : (rows ids : List ℕ) (g : Guid) (highest : ℕ) (r : List Range) → planned_ranges rows ids g highest r (drop k plan) ≡ r
  unfolding planned_ranges
  ranges_end rows ids g highest r = rw (drop_all k plan h)

-- ---- what a number of the plan stands for

module _ (a : Sides) (source : ℕ) where
  pub source_kept : source < most_elements → source_bytes a source ≡ stored_bytes a.store (element_in_row a.rows a.ids source)
  unfolding source_bytes
  source_kept h = rw (lt-ltb source most_elements h)

  pub source_handed : most_elements ≤ source
      → source_bytes a source
      ≡ written_element (content_in a.request (element_in_row a.handed_rows a.handed_ids (handed_row source)) (key_of a.guid (a.highest + 1 + handed_row source)))
  unfolding source_bytes
  source_handed h = rw (le-ltb source most_elements h)
