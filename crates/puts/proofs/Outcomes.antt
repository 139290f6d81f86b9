-- The outcome of a put, step by step: each test of the definition with what the call then answers, and what both buffers hold.
-- Assumes nothing.
use mathlib.Core.Path.{◌≡◌, refl, ap, ◌∙◌}
use mathlib.Core.Bool.{true, false}
use mathlib.Core.List.{List, []}
use Prim.Native.Nat.{ℕ, ◌+◌, ◌≤◌, ◌<◌}
use native.Mathlib.Omega.{arith}
use lib.ListN.{length}
use borrow.Author.Tests.{lt-ltb, le-ltb}
use Rattle.laws.specs.Placed.{Lays}
use Rattle.laws.proofs.Cases.{impossible}
use Rattle.laws.proofs.Placing.{laid_front}
use Rattle.numbers.specs.Refusals.{fault_at, too_short, longest_input}
use Rattle.numbers.specs.declared.guid.Guid.{Guid}
use Rattle.numbers.specs.declared.refusal.Refusal.{Refusal}
use Rattle.numbers.specs.Results.ExtendedGuid.{ExtendedGuid}
use Rattle.talk.specs.declared.range.Range.{Range}
use Rattle.store.specs.Held.{storage_index}
use Rattle.objects.specs.Results.Reading.{Reading}
use Rattle.objects.specs.Results.Reading as reading
use Rattle.store.specs.Store.{store_walk, stored_of, store_answer}
use Rattle.store.specs.Tables.{most_elements}
use Rattle.store.specs.declared.element.Element.{Element}
use Rattle.store.specs.Results.Stored as stored
use Rattle.enter.specs.Entering.{Kept}
use Rattle.puts.specs.NewStore.{highest_under, new_elements, ranges_of, new_store}
use Rattle.puts.specs.Put.{put_walk, put_in}
use Rattle.puts.specs.Applied.{refused, entered, put_answer_bytes, answered, sized, counted, last_number, numbered, same_id, expecting, on_put, on_store, put_outcome, applied_told, store_after, output_after, GivesPut}
use Rattle.puts.specs.Results.Applied as applied

-- what is refused leaves both buffers
pub refused_gives : (r : Refusal) (new out : List ℕ) → GivesPut (refused r) (applied.Refused r) new new out out
unfolding applied_told store_after output_after
refused_gives r new out = (refl, refl, refl)

-- ---- 14 for the output

module _ (id : ℕ) (new : List ℕ) (l : List Range) (room n : ℕ) (whole : n ≡ length (put_answer_bytes id l)) where
  pub answered_short : room < n → answered id new l room ≡ refused (too_short n)
  unfolding answered
  answered_short h = let e : room < length (put_answer_bytes id l) = omega arith in rw (lt-ltb _ _ e, whole)

  pub answered_fits : n ≤ room → answered id new l room ≡ entered (put_answer_bytes id l) new
  unfolding answered
  answered_fits h = let e : length (put_answer_bytes id l) ≤ room = omega arith in rw (le-ltb _ _ e)

  entered_gives : (t t' out out' : List ℕ) (m p q : ℕ) → m ≡ length new → Lays 0 new t p t' → Lays 0 (put_answer_bytes id l) out q out'
      → GivesPut (entered (put_answer_bytes id l) new) (applied.Entered n m) t t' out out'
  unfolding applied_told store_after output_after
  entered_gives t t' out out' m p q e a b =
      (rw (whole, e), a.1 ∙ laid_front new t, b.1 ∙ laid_front (put_answer_bytes id l) out)

  pub answered_sent : n ≤ room → (t t' out out' : List ℕ) (m p q : ℕ) → m ≡ length new → Lays 0 new t p t' → Lays 0 (put_answer_bytes id l) out q out'
      → GivesPut (answered id new l room) (applied.Entered n m) t t' out out'
  answered_sent h t t' out out' m p q e a b = rw (answered_fits h) (entered_gives t t' out out' m p q e a b)

-- ---- 1 for the new store, 14 for its buffer

module _ (id : ℕ) (new : List ℕ) (l : List Range) (storeRoom room n : ℕ) (whole : n ≡ length new) where
  pub sized_long : longest_input < n → sized id new l storeRoom room ≡ refused (fault_at 1 0)
  unfolding sized
  sized_long h = let e : longest_input < length new = omega arith in rw (lt-ltb _ _ e)

  pub sized_short : n ≤ longest_input → storeRoom < n → sized id new l storeRoom room ≡ refused (too_short n)
  unfolding sized
  sized_short h g = let e : length new ≤ longest_input = omega arith in let f : storeRoom < length new = omega arith in rw (le-ltb _ _ e, lt-ltb _ _ f, whole)

  pub sized_fits : n ≤ longest_input → n ≤ storeRoom → sized id new l storeRoom room ≡ answered id new l room
  unfolding sized
  sized_fits h g = let e : length new ≤ longest_input = omega arith in let f : length new ≤ storeRoom = omega arith in rw (le-ltb _ _ e, le-ltb _ _ f)

-- ---- 9

module _ (id : ℕ) (new : List Kept) (storeRoom room n : ℕ) (many : n ≡ length new) where
  pub counted_over : most_elements < n → counted id new storeRoom room ≡ refused (fault_at 9 0)
  unfolding counted
  counted_over h = let e : most_elements < length new = omega arith in rw (lt-ltb _ _ e)

  pub counted_fits : n ≤ most_elements → counted id new storeRoom room ≡ sized id (new_store new) (ranges_of [] new) storeRoom room
  unfolding counted
  counted_fits h = let e : length new ≤ most_elements = omega arith in rw (le-ltb _ _ e)

-- ---- 16

module _ (s : List ℕ) (all : List Element) (q : List ℕ) (id : ℕ) (g : Guid) (storeRoom room : ℕ) where
  pub numbered_out : last_number < highest_under g all + length (put_walk q).elements → numbered s all q id g storeRoom room ≡ refused (fault_at 16 0)
  unfolding numbered
  numbered_out h = rw (lt-ltb _ _ h)

  pub numbered_left : highest_under g all + length (put_walk q).elements ≤ last_number
      → numbered s all q id g storeRoom room ≡ counted id (new_elements s all q (put_walk q).elements g) storeRoom room
  unfolding numbered
  numbered_left h = rw (le-ltb _ _ h)

  -- ---- 15

  pub expecting_other : (expected : ExtendedGuid) → same_id expected (storage_index all) ≡ false → expecting s all q id expected g storeRoom room ≡ refused (fault_at 15 0)
  unfolding expecting
  expecting_other expected e = rw e

  pub expecting_same : (expected : ExtendedGuid) → same_id expected (storage_index all) ≡ true → expecting s all q id expected g storeRoom room ≡ numbered s all q id g storeRoom room
  unfolding expecting
  expecting_same expected e = rw e

-- ---- the store's faults, then the put's

faulty_on : (s : List ℕ) (all : List Element) (q : List ℕ) (g : Guid) (storeRoom room m : ℕ) (r : Refusal) (c : Reading) → stored_of m c ≡ stored.Refused r
    → on_store s all q g storeRoom room c ≡ refused r
unfolding stored_of on_store
faulty_on s all q g storeRoom room m r (reading.At e v) h = impossible (cc)
faulty_on s all q g storeRoom room m r (reading.Refused t) h = let e : t ≡ r = cc in ap refused e

pub store_faulty : (s q : List ℕ) (g : Guid) (storeRoom room : ℕ) (r : Refusal) → store_answer (store_walk s) ≡ stored.Refused r → put_outcome s q g storeRoom room ≡ refused r
unfolding put_outcome
store_faulty s q g storeRoom room r h = faulty_on s (store_walk s).elements q g storeRoom room (length (store_walk s).elements) r (store_walk s).last h

fine_on : (s : List ℕ) (all : List Element) (q : List ℕ) (g : Guid) (storeRoom room m n : ℕ) (c : Reading) → stored_of m c ≡ stored.Holds n
    → on_store s all q g storeRoom room c ≡ on_put s all q g storeRoom room (put_in q)
unfolding stored_of on_store
fine_on s all q g storeRoom room m n (reading.At e v) h = refl
fine_on s all q g storeRoom room m n (reading.Refused t) h = impossible (cc)

pub store_fine : (s q : List ℕ) (g : Guid) (storeRoom room n : ℕ) → store_answer (store_walk s) ≡ stored.Holds n
    → put_outcome s q g storeRoom room ≡ on_put s (store_walk s).elements q g storeRoom room (put_in q)
unfolding put_outcome
store_fine s q g storeRoom room n h = fine_on s (store_walk s).elements q g storeRoom room (length (store_walk s).elements) n (store_walk s).last h
