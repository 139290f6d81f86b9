-- A put as a whole: over-long, or read on from what its package answered to its end.
-- Assumes nothing.
use native.Mathlib.Omega.{arith}
use mathlib.Core.Path.{◌≡◌, refl, sym, subst, ◌∙◌}
use mathlib.Core.List.{List}
use Prim.Native.Nat.{ℕ, ◌≤◌, ◌<◌}
use lib.ListN.{length}
use borrow.Author.Tests.{lt-ltb, le-ltb}
use Rattle.laws.proofs.Cases.{impossible}
use Rattle.numbers.specs.Refusals.{longest_input, over_long}
use Rattle.numbers.specs.declared.refusal.Refusal.{Refusal}
use Rattle.numbers.specs.Results.ExtendedGuid.{ExtendedGuid}
use Rattle.objects.specs.Steps.{value_of, end_here, finish}
use Rattle.objects.specs.Results.Reading.{At, Reading, Refused}
use Rattle.store.specs.Store.{packaged_of, PackageTo}
use Rattle.store.specs.Tables.{flat}
use Rattle.store.specs.Results.Packaged.{Packaged}
use Rattle.store.specs.Results.Packaged as packaged
use Rattle.request.specs.Message.{put_changes_request, identified, in_request}
use Rattle.puts.specs.Put.{put_package, put_end, put_front, put_head, handed_in, put_walk, put_read, put_in, ReadsPut}
use Rattle.puts.specs.Results.Put as put
use Rattle.puts.specs.declared.put.PutHead.{PutHead}

-- ---- its length

-- an over-long put is 1 before its other faults, and nothing is written
pub over_long_put : (s rows ids : List ℕ) → longest_input < length s → ReadsPut s (put.Refused (in_request over_long)) rows rows ids ids
unfolding put_in put_walk put_read flat
over_long_put s rows ids h = rw (lt-ltb _ _ h) (refl, refl, refl)

-- ---- on from behind the package

ended_refused : (m : ℕ) (r : Refusal) (s : List ℕ) (c : Reading) (id : ℕ) (x : ExtendedGuid) → packaged.Refused r ≡ packaged_of m c → put.Refused (in_request r) ≡ put_read (put_end s c) id x m
unfolding packaged_of put_end end_here finish put_read
ended_refused m r s (At e v) id x h = impossible (cc)
ended_refused m r s (Refused q) id x h = cc

-- the number that was read last does not matter to what follows
ended_holds : (m n e : ℕ) (s : List ℕ) (c : Reading) (id : ℕ) (x : ExtendedGuid) → packaged.Holds e n ≡ packaged_of m c → put_read (put_end s (At e 0)) id x n ≡ put_read (put_end s c) id x m
unfolding packaged_of put_end end_here
ended_holds m n e s (At p v) id x h =
    let a : n ≡ m = grind arith in
    let b : e ≡ p = grind arith in
    rw (a, b)
ended_holds m n e s (Refused r) id x h = impossible (cc)

-- the package, read from where the head ends
pub behind_head : (s rows rows' ids ids' : List ℕ) (h : PutHead) (p : Packaged) → h ≡ put_head s → PackageTo (put_package s h.behind) p rows rows' ids ids'
    → PackageTo (handed_in s) p rows rows' ids ids'
unfolding put_head
behind_head s rows rows' ids ids' h p e w = subst (λ (k : PutHead). PackageTo (put_package s k.behind) p rows rows' ids ids') e w

module _ (s rows rows' ids ids' : List ℕ) (l : length s ≤ longest_input) (p : Packaged) (w : PackageTo (handed_in s) p rows rows' ids ids') where
  abbrev handed_id : ℕ
  handed_id = value_of (identified put_changes_request s)

  -- a fault of the package, or before it
  pub put_refused : (r : Refusal) → p ≡ packaged.Refused r → ReadsPut s (put.Refused (in_request r)) rows rows' ids ids'
  unfolding put_in put_walk
  put_refused r e =
      rw (le-ltb _ _ l) (ended_refused (length (handed_in s).elements) r s (handed_in s).last handed_id (put_front s).expected (sym e ∙ w.0), w.1, w.2)

  -- a package that was read
  pub put_holds : (e n : ℕ) → p ≡ packaged.Holds e n → ReadsPut s (put_read (put_end s (At e 0)) handed_id (put_front s).expected n) rows rows' ids ids'
  unfolding put_in put_walk
  put_holds e n q =
      rw (le-ltb _ _ l) (ended_holds (length (handed_in s).elements) n e s (handed_in s).last handed_id (put_front s).expected (sym q ∙ w.0), w.1, w.2)
