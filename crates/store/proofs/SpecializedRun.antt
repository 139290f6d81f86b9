-- The GUID of a specialized knowledge, read from its data run of sixteen bytes, is the GUID that stands at its place, with the same fault
-- where a byte is missing. Only the proof of `knowledge::read_specialized` needs this.
-- Assumes nothing.
use mathlib.Core.Path.{◌≡◌, refl, ap, ◌∙◌}
use mathlib.Core.Bool.{Bool, true}
use mathlib.Core.List.{List}
use Prim.Native.Nat.{ℕ, ◌+◌, ◌-◌, ◌≤◌, ◌<◌}
use native.Mathlib.Nat.{add-zero}
use native.Mathlib.Omega.{arith}
use lib.ListN.{length, take, drop, length-take, length-drop}
use lib.Seq.{take-take, length-take-le}
use lib.Dec.{eqb}
use borrow.Author.Tests.{lt-ltb, le-ltb, eqb-true}
use Rattle.laws.proofs.Cases.{by_lt, pick_all}
use Rattle.laws.proofs.Parts.{same_part}
use Rattle.numbers.specs.Guid.{guid_at}
use Rattle.numbers.specs.Refusals.{fault_at}
use Rattle.objects.specs.Steps.{guid_here, run_here, closed_at, closed, length_is, start_here, start_of_length, place_of, Good, on_field}
use Rattle.objects.specs.Results.Reading.{At, Reading, Refused}
use Rattle.objects.specs.Results.ReadingGuid as guid'
use Rattle.objects.proofs.Keep.{good_front, onward_guid}
use Rattle.store.specs.Knowledge.{guid_field, is_cell, specialized_guid}

-- a start whose data run has sixteen bytes, or a fault
abbrev Sixteen : Reading → Type 0
Sixteen (At from v) = v ≡ 16
Sixteen (Refused r) = Unit {0}

length_sixteen : (p : ℕ) (c : Reading) → Sixteen (length_is 16 p c)
unfolding length_is
length_sixteen p (At from v) = pick_all Sixteen (eqb v 16) _ _ (λ e. eqb-true v 16 e) (λ e. tt)
length_sixteen p (Refused r) = tt

sixteen : (padding : Bool) (s : List ℕ) (c : Reading) → Sixteen (start_of_length padding s 0x10 0x44 true true 16 c)
unfolding start_of_length
sixteen padding s c = length_sixteen (place_of c) (start_here padding s 0x10 0x44 true true c)

-- the sixteen bytes of the run are those at its place
guid_of_run : (t : List ℕ) → guid_at (take 16 t) ≡ guid_at t
unfolding guid_at
guid_of_run t =
    let same : take 16 (take 16 t) ≡ take 16 t = take-take 16 16 t (omega arith) in
    rw (take-take 8 16 t (omega arith), same_part (take 16 t) t 16 8 8 (omega arith) same)

-- ---- a GUID at a place, with its sixteen bytes and without

here_short : (s : List ℕ) (at v : ℕ) → length s - at < 16 → guid_here s (At at v) ≡ guid'.Refused (fault_at 2 at)
unfolding guid_here
here_short s at v h = rw (lt-ltb (length s - at) 16 h)

here_whole : (s : List ℕ) (at v : ℕ) → 16 ≤ length s - at → guid_here s (At at v) ≡ guid'.At (at + 16) (guid_at (drop at s))
unfolding guid_here
here_whole s at v h = rw (le-ltb (length s - at) 16 h)

module _ (s : List ℕ) (from : ℕ) where
  short_run : length s - from < 16 → guid_field (take 16 (drop from s)) ≡ guid'.Refused (fault_at 2 0)
  short_run h =
      let a = length-take 16 (drop from s) in
      let b = length-drop from s in
      here_short (take 16 (drop from s)) 0 0 (omega arith)

  run_length : 16 ≤ length s - from → length (take 16 (drop from s)) ≡ 16
  run_length h = let b = length-drop from s in length-take-le 16 (drop from s) (omega arith)

  whole_run : 16 ≤ length s - from → guid_field (take 16 (drop from s)) ≡ guid'.At 16 (guid_at (drop from s))
  whole_run h =
      let a = run_length h in
      here_whole (take 16 (drop from s)) 0 0 (omega arith) ∙ ap (λ g. guid'.At 16 g) (guid_of_run (drop from s))

  closed_here : closed s (At from 16) (on_field (guid_field (take 16 (drop from s)))) ≡ on_field (guid_here s (At from 16))
  unfolding on_field run_here closed_at
  closed_here =
      by_lt (length s - from) 16
      (λ h. rw (here_short s from 16 h, short_run h, add-zero from))
      (λ h. rw (here_whole s from 16 h, whole_run h, run_length h))

  cell_here : is_cell (guid_field (take 16 (drop from s))) ≡ is_cell (guid_here s (At from 16))
  unfolding is_cell
  cell_here =
      by_lt (length s - from) 16
      (λ h. rw (here_short s from 16 h, short_run h))
      (λ h. rw (here_whole s from 16 h, whole_run h))

closed_run : (s : List ℕ) (o : Reading) → Sixteen o → closed s o (on_field (guid_field (run_here s o))) ≡ on_field (guid_here s o)
unfolding guid_here on_field run_here closed_at
closed_run s (At from v) e = rw e (closed_here s from)
closed_run s (Refused r) e = refl

cell_run : (s : List ℕ) (o : Reading) → Sixteen o → is_cell (guid_field (run_here s o)) ≡ is_cell (guid_here s o)
unfolding guid_here run_here is_cell
cell_run s (At from v) e = rw e (cell_here s from)
cell_run s (Refused r) e = refl

-- ---- a specialized knowledge that begins at c

abbrev specialized_start : Bool → List ℕ → Reading → Reading
specialized_start padding s c = start_of_length padding s 0x10 0x44 true true 16 c

module _ (padding : Bool) (s : List ℕ) (c o : Reading) (d : List ℕ) (starts : o ≡ specialized_start padding s c) (run : d ≡ run_here s o) where
  pub run_good : Good (run_here s o) (on_field (guid_field d))
  run_good = rw run ((onward_guid (run_here s o) (At 0 0)).good (good_front (run_here s o) 0))

  pub run_closed : closed s o (on_field (guid_field d)) ≡ on_field (specialized_guid padding s c)
  unfolding specialized_guid
  run_closed = rw (run, starts) (closed_run s (specialized_start padding s c) (sixteen padding s c))

  pub run_cell : is_cell (guid_field d) ≡ is_cell (specialized_guid padding s c)
  unfolding specialized_guid
  run_cell = rw (run, starts) (cell_run s (specialized_start padding s c) (sixteen padding s c))
