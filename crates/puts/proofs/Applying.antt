-- What was read of a store and of a put, and what was planned for them, is what the definition of the new store speaks of.
-- Assumes nothing.
use mathlib.Core.Path.{◌≡◌, sym, ap, ◌∙◌}
use mathlib.Core.List.{List, [], ◌++◌, map, append-nil}
use Prim.Native.Nat.{ℕ, ◌+◌, ◌-◌, ◌≤◌, ◌<◌}
use native.Mathlib.Omega.{arith}
use lib.ListN.{length, take}
use lib.Seq.{take_at}
use Rattle.numbers.specs.declared.guid.Guid.{Guid}
use Rattle.talk.specs.Each.{Each}
use Rattle.store.specs.Held.{StoreHeld}
use Rattle.store.specs.Store.{store_walk}
use Rattle.store.specs.Tables.{id_width, most_elements, id_keys, elements_in}
use Rattle.store.proofs.Elements.{rows_up_to, length_elements}
use Rattle.store.proofs.StoreHeld.{fits_row, short_row}
use Rattle.store.specs.Written.{framed}
use Rattle.enter.specs.Package.{packed, joined}
use Rattle.puts.specs.NewStore.{entering_from, highest_under, new_elements, ranges_of, new_store, staying}
use Rattle.enter.specs.Entering.{Kept, enter}
use Rattle.puts.specs.Put.{put_walk}
use Rattle.enter.specs.Plan.{sources}
use Rattle.puts.specs.Plan.{sides, planned_bytes, planned_ranges, SourceFits, Planning, PutHeld}
use Rattle.puts.specs.Applied.{last_number}
use Rattle.enter.proofs.Planned.{each_front, each_source}
use Rattle.enter.proofs.Planning.{length_keys}
use Rattle.puts.proofs.Planned.{plan_bytes, plan_ranges, plan_count}

pub handed_many : (q rows ids : List ℕ) (m : ℕ) → PutHeld q rows ids m → length (put_walk q).elements ≡ m
handed_many q rows ids m p = ap length (sym p.held) ∙ length_elements rows ids 0 m

-- ---- a store and a put that were read

module _ (s rows ids q handed_rows handed_ids : List ℕ) (g : Guid) (n m highest : ℕ) (h : StoreHeld s rows ids n) (p : PutHeld q handed_rows handed_ids m)
    (top : highest ≡ highest_under g (store_walk s).elements) (left : highest + m ≤ last_number) where
  abbrev new : List Kept
  new = new_elements s (store_walk s).elements q (put_walk q).elements g

  abbrev planned : List ℕ
  planned = sources (id_keys ids n) (id_keys handed_ids m)

  new_is : enter (map (staying s) (elements_in rows ids n)) (entering_from q g (highest + 1) (elements_in handed_rows handed_ids m)) ≡ new
  unfolding new_elements
  new_is = rw (h.held, p.held, top)

  pub planned_count : length planned ≡ length new
  planned_count = plan_count (sides s rows ids q handed_rows handed_ids g highest) n m h.most ∙ ap length new_is

  pub planned_store : framed (planned_bytes (sides s rows ids q handed_rows handed_ids g highest) planned) ≡ new_store new
  unfolding packed
  planned_store = ap framed (plan_bytes (sides s rows ids q handed_rows handed_ids g highest) n m h.most ∙ ap joined new_is)

  pub planned_known : planned_ranges rows ids g highest [] planned ≡ ranges_of [] new
  planned_known = plan_ranges (sides s rows ids q handed_rows handed_ids g highest) n m h.most [] ∙ ap (ranges_of []) new_is

  -- ---- each number of the plan stands for an element

  stays_fit : (i : ℕ) → i < n → SourceFits s rows ids q handed_rows handed_ids highest i
  stays_fit i l =
      let f = h.most in
      record {
        stands = record {
          kept = λ v. rows_up_to h.stand (i + 1) (omega arith);
          short = λ v. short_row h i l;
          handed = λ v. absurd (omega arith);
          enters = λ v. absurd (omega arith);
        };
        stored = λ v. (fits_row h i l).0;
        left = λ v. absurd (omega arith);
      }

  enters_fit : (j : ℕ) → j < m → SourceFits s rows ids q handed_rows handed_ids highest (most_elements + j)
  enters_fit j l =
      let e : most_elements + j - most_elements ≡ j = omega arith in
      record {
        stands = record {
          kept = λ v. absurd (omega arith);
          short = λ v. absurd (omega arith);
          handed = λ v. rw e (rows_up_to p.stand (j + 1) (omega arith));
          enters = λ v. rw e (p.enters j l);
        };
        stored = λ v. absurd (omega arith);
        left = λ v. rw e (omega arith);
      }

  all_fit : Each (SourceFits s rows ids q handed_rows handed_ids highest) planned
  all_fit = each_source (SourceFits s rows ids q handed_rows handed_ids highest) n m (id_keys ids n) (id_keys handed_ids m) (length_keys ids 0 id_width n) (length_keys handed_ids 0 id_width m) stays_fit enters_fit

  -- the plan, at the front of its table
  pub plan_taken : (plan t : List ℕ) (count : ℕ) → count ≡ length planned → plan ≡ planned ++ t → take count plan ≡ planned
  plan_taken plan t count e f = rw f (take_at planned t count (sym e))

  pub plan_made : (plan t : List ℕ) (count : ℕ) → count ≡ length planned → plan ≡ planned ++ t → count ≤ most_elements → Planning s rows ids q handed_rows handed_ids highest (take count plan)
  plan_made plan t count e f l =
      rw (plan_taken plan t count e f)
      (record {
        few = omega arith;
        fits = λ k i. rw (← append-nil planned) (each_front (SourceFits s rows ids q handed_rows handed_ids highest) planned [] k i all_fit);
      })
