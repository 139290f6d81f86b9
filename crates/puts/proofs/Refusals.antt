-- When a put is refused, where both inputs read (document 02, Q-1): "after the request's faults come 15, 16, 9, 1 for the new store, 14 for its
-- buffer, 14 for the output", each exactly where its test holds and none before it does; and nothing is refused exactly where none holds.
-- Assumes nothing.
use mathlib.Core.Path.{◌≡◌, refl, sym, ap, subst, ◌∙◌}
use mathlib.Core.Bool.{true, false}
use mathlib.Core.List.{List, []}
use mathlib.Core.Logic.{◌⊎◌, inl, inr, ⊎_elim, ◌↔◌}
use Prim.Native.Nat.{ℕ, ◌+◌, ◌≤◌, ◌<◌}
use lib.ListN.{length}
use lib.Dec.{eqb}
use Rattle.laws.specs.Pick.{pick}
use Rattle.laws.proofs.Cases.{by_bool, by_lt, impossible}
use Rattle.numbers.specs.Refusals.{fault_at, too_short, longest_input, refusal_number}
use Rattle.numbers.specs.declared.guid.Guid.{Guid}
use Rattle.numbers.specs.Results.ExtendedGuid.{ExtendedGuid, Named, Null}
use Rattle.objects.specs.Steps.{value_of}
use Rattle.objects.specs.Results.Reading.{Reading}
use Rattle.objects.specs.Results.Reading as reading
use Rattle.store.specs.Element.{key_of}
use Rattle.store.specs.Held.{storage_index}
use Rattle.store.specs.Store.{store_walk, Stands}
use Rattle.store.specs.Tables.{most_elements}
use Rattle.store.specs.Written.{key_guid}
use Rattle.store.specs.declared.element.Element.{Element}
use Rattle.store.specs.declared.element.Key.{Key}
use Rattle.request.specs.Message.{put_changes_request, identified}
use Rattle.puts.specs.Applied.{Outcome, refused, entered, put_answer_bytes, answered, sized, counted, last_number, numbered, same_id, expecting, on_put, on_store, put_outcome}
use Rattle.enter.specs.Entering.{Kept}
use Rattle.puts.specs.NewStore.{highest_under, new_elements, ranges_of, new_store}
use Rattle.puts.specs.Put.{put_front, put_walk, put_read, put_in}
use Rattle.store.proofs.Rows.{same_itself, same_equal}
use Rattle.puts.proofs.Outcomes.{answered_short, answered_fits, sized_long, sized_short, sized_fits, counted_over, counted_fits, numbered_out, numbered_left, expecting_other, expecting_same}

-- ---- what is tested, for a store, a put and the hub's GUID

module _ (s q : List ℕ) (g : Guid) where
  abbrev pub elements_after : List Kept
  elements_after = new_elements s (store_walk s).elements q (put_walk q).elements g

  abbrev pub store_bytes : List ℕ
  store_bytes = new_store elements_after

  abbrev pub answer : List ℕ
  answer = put_answer_bytes (value_of (identified put_changes_request q)) (ranges_of [] elements_after)

  -- 15, "another storage index"
  abbrev pub AnotherIndex : Type 0
  AnotherIndex = same_id (put_front q).expected (storage_index (store_walk s).elements) ≡ false

  abbrev pub IndexExpected : Type 0
  IndexExpected = same_id (put_front q).expected (storage_index (store_walk s).elements) ≡ true

  -- 16, "no serial number left"
  abbrev pub NoNumberLeft : Type 0
  NoNumberLeft = IndexExpected × (last_number < highest_under g (store_walk s).elements + length (put_walk q).elements)

  abbrev pub NumbersLeft : Type 0
  NumbersLeft = IndexExpected × (highest_under g (store_walk s).elements + length (put_walk q).elements ≤ last_number)

  -- 9, "over 256 elements"
  abbrev pub TooMany : Type 0
  TooMany = NumbersLeft × (most_elements < length elements_after)

  abbrev pub NotTooMany : Type 0
  NotTooMany = NumbersLeft × (length elements_after ≤ most_elements)

  -- 1 for the new store
  abbrev pub TooLong : Type 0
  TooLong = NotTooMany × (longest_input < length store_bytes)

  abbrev pub NotTooLong : Type 0
  NotTooLong = NotTooMany × (length store_bytes ≤ longest_input)

  -- 14 for its buffer, of so many bytes
  abbrev pub BufferShort : ℕ → Type 0
  BufferShort storeRoom = NotTooLong × (storeRoom < length store_bytes)

  abbrev pub BufferFits : ℕ → Type 0
  BufferFits storeRoom = NotTooLong × (length store_bytes ≤ storeRoom)

  -- 14 for the output, of so many bytes
  abbrev pub OutputShort : ℕ → ℕ → Type 0
  OutputShort storeRoom room = BufferFits storeRoom × (room < length answer)

  abbrev pub OutputFits : ℕ → ℕ → Type 0
  OutputFits storeRoom room = BufferFits storeRoom × (length answer ≤ room)

  -- 14 for either, with the length that is needed: both name the store, place 0
  abbrev pub Short : ℕ → ℕ → ℕ → Type 0
  Short storeRoom room needed = (BufferShort storeRoom × (needed ≡ length store_bytes)) ⊎ (OutputShort storeRoom room × (needed ≡ length answer))

-- the index is expected where the id that the put names is the store's, null for null
same_id_lem : (a b : ExtendedGuid) → same_id a b ≡ true → a ≡ b
unfolding same_id
same_id_lem Null Null e = refl
same_id_lem Null (Named h y) e = impossible (cc)
same_id_lem (Named g x) Null e = impossible (cc)
same_id_lem (Named g x) (Named h y) e = ap (λ (k : Key). Named (key_guid k) k.number) (same_equal (key_of g x) (key_of h y) e)

same_id_itself : (a : ExtendedGuid) → same_id a a ≡ true
unfolding same_id
same_id_itself Null = refl
same_id_itself (Named g x) = same_itself (key_of g x)

pub index_expected : (s q : List ℕ) (g : Guid) → IndexExpected s q g ↔ ((put_front q).expected ≡ storage_index (store_walk s).elements)
index_expected s q g = (same_id_lem (put_front q).expected (storage_index (store_walk s).elements), λ e. rw e (same_id_itself (storage_index (store_walk s).elements)))

-- ---- both inputs read

stored_on : (s : List ℕ) (all : List Element) (q : List ℕ) (g : Guid) (storeRoom room : ℕ) (c : Reading) → Stands c → on_store s all q g storeRoom room c ≡ on_put s all q g storeRoom room (put_in q)
unfolding on_store
stored_on s all q g storeRoom room (reading.At e v) h = refl
stored_on s all q g storeRoom room (reading.Refused r) h = absurd h

put_on : (s : List ℕ) (all : List Element) (q : List ℕ) (g : Guid) (storeRoom room id : ℕ) (expected : ExtendedGuid) (n : ℕ) (c : Reading) → Stands c
    → on_put s all q g storeRoom room (put_read c id expected n) ≡ expecting s all q id expected g storeRoom room
unfolding on_put put_read
put_on s all q g storeRoom room id expected n (reading.At e v) h = refl
put_on s all q g storeRoom room id expected n (reading.Refused r) h = absurd h

module _ (s q : List ℕ) (g : Guid) (storeRoom room : ℕ) (store_reads : Stands (store_walk s).last) (put_reads : Stands (put_walk q).last) where
  abbrev all : List Element
  all = (store_walk s).elements

  abbrev id : ℕ
  id = value_of (identified put_changes_request q)

  abbrev new : List Kept
  new = elements_after s q g

  abbrev outcome : Outcome
  outcome = put_outcome s q g storeRoom room

  both_read : outcome ≡ expecting s all q id (put_front q).expected g storeRoom room
  unfolding put_outcome put_in
  both_read =
      stored_on s all q g storeRoom room (store_walk s).last store_reads
      ∙ put_on s all q g storeRoom room id (put_front q).expected (length (put_walk q).elements) (put_walk q).last put_reads

  -- ---- each test, where none before it holds

  another : AnotherIndex s q g → outcome ≡ refused (fault_at 15 0)
  another h = both_read ∙ expecting_other s all q id g storeRoom room (put_front q).expected h

  on_numbers : IndexExpected s q g → outcome ≡ numbered s all q id g storeRoom room
  on_numbers h = both_read ∙ expecting_same s all q id g storeRoom room (put_front q).expected h

  no_number : NoNumberLeft s q g → outcome ≡ refused (fault_at 16 0)
  no_number h = on_numbers h.0 ∙ numbered_out s all q id g storeRoom room h.1

  on_count : NumbersLeft s q g → outcome ≡ counted id new storeRoom room
  on_count h = on_numbers h.0 ∙ numbered_left s all q id g storeRoom room h.1

  too_many : TooMany s q g → outcome ≡ refused (fault_at 9 0)
  too_many h = on_count h.0 ∙ counted_over id new storeRoom room (length new) refl h.1

  on_size : NotTooMany s q g → outcome ≡ sized id (new_store new) (ranges_of [] new) storeRoom room
  on_size h = on_count h.0 ∙ counted_fits id new storeRoom room (length new) refl h.1

  too_long : TooLong s q g → outcome ≡ refused (fault_at 1 0)
  too_long h = on_size h.0 ∙ sized_long id (new_store new) (ranges_of [] new) storeRoom room (length (new_store new)) refl h.1

  buffer_short : BufferShort s q g storeRoom → outcome ≡ refused (too_short (length (store_bytes s q g)))
  buffer_short h = on_size h.0.0 ∙ sized_short id (new_store new) (ranges_of [] new) storeRoom room (length (new_store new)) refl h.0.1 h.1

  on_answer_lem : BufferFits s q g storeRoom → outcome ≡ answered id (new_store new) (ranges_of [] new) room
  on_answer_lem h = on_size h.0.0 ∙ sized_fits id (new_store new) (ranges_of [] new) storeRoom room (length (new_store new)) refl h.0.1 h.1

  output_short : OutputShort s q g storeRoom room → outcome ≡ refused (too_short (length (answer s q g)))
  output_short h = on_answer_lem h.0 ∙ answered_short id (new_store new) (ranges_of [] new) room (length (answer s q g)) refl h.1

  output_fits : OutputFits s q g storeRoom room → outcome ≡ entered (answer s q g) (store_bytes s q g)
  output_fits h = on_answer_lem h.0 ∙ answered_fits id (new_store new) (ranges_of [] new) room (length (answer s q g)) refl h.1

  -- ---- what an outcome means: the number tells the test

  abbrev Meaning : Outcome → Type 0
  Meaning (refused r) =
      pick (eqb (refusal_number r) 15) (AnotherIndex s q g)
      (pick (eqb (refusal_number r) 16) (NoNumberLeft s q g)
      (pick (eqb (refusal_number r) 9) (TooMany s q g)
      (pick (eqb (refusal_number r) 1) (TooLong s q g) (Short s q g storeRoom room r.needed))))
  Meaning (entered a w) = OutputFits s q g storeRoom room × (a ≡ answer s q g) × (w ≡ store_bytes s q g)

  meant : (o : Outcome) → outcome ≡ o → Meaning o → Meaning outcome
  meant o e m = subst Meaning (sym e) m

  answer_meant : BufferFits s q g storeRoom → Meaning outcome
  answer_meant h =
      by_lt room (length (answer s q g)) (λ l. meant (refused (too_short (length (answer s q g)))) (output_short (h, l)) (inr ((h, l), refl)))
      (λ l. meant (entered (answer s q g) (store_bytes s q g)) (output_fits (h, l)) ((h, l), refl, refl))

  size_meant : NotTooMany s q g → Meaning outcome
  size_meant h =
      by_lt longest_input (length (store_bytes s q g)) (λ l. meant (refused (fault_at 1 0)) (too_long (h, l)) (h, l))
      (λ l.
      by_lt storeRoom (length (store_bytes s q g)) (λ k. meant (refused (too_short (length (store_bytes s q g)))) (buffer_short ((h, l), k)) (inl (((h, l), k), refl)))
      (λ k. answer_meant ((h, l), k)))

  numbers_meant : IndexExpected s q g → Meaning outcome
  numbers_meant h =
      by_lt last_number (highest_under g all + length (put_walk q).elements) (λ l. meant (refused (fault_at 16 0)) (no_number (h, l)) (h, l))
      (λ l. by_lt most_elements (length new) (λ k. meant (refused (fault_at 9 0)) (too_many ((h, l), k)) ((h, l), k)) (λ k. size_meant ((h, l), k)))

  meaning : Meaning outcome
  meaning =
      by_bool (same_id (put_front q).expected (storage_index all)) numbers_meant (λ e. meant (refused (fault_at 15 0)) (another e) e)

  only_if : (o : Outcome) → outcome ≡ o → Meaning o
  only_if o e = subst Meaning e meaning

  -- ---- exactly when

  pub fifteen : (put_outcome s q g storeRoom room ≡ refused (fault_at 15 0)) ↔ AnotherIndex s q g
  fifteen = (only_if (refused (fault_at 15 0)), another)

  pub sixteen : (put_outcome s q g storeRoom room ≡ refused (fault_at 16 0)) ↔ NoNumberLeft s q g
  sixteen = (only_if (refused (fault_at 16 0)), no_number)

  pub nine : (put_outcome s q g storeRoom room ≡ refused (fault_at 9 0)) ↔ TooMany s q g
  nine = (only_if (refused (fault_at 9 0)), too_many)

  pub one : (put_outcome s q g storeRoom room ≡ refused (fault_at 1 0)) ↔ TooLong s q g
  one = (only_if (refused (fault_at 1 0)), too_long)

  -- the needed length is the new store's, or else the answer's
  pub fourteen : (n : ℕ) → (put_outcome s q g storeRoom room ≡ refused (too_short n)) ↔ Short s q g storeRoom room n
  fourteen n = (
    only_if (refused (too_short n)),
    λ h. ⊎_elim (λ b. buffer_short b.0 ∙ ap (λ (m : ℕ). refused (too_short m)) (sym b.1)) (λ b. output_short b.0 ∙ ap (λ (m : ℕ). refused (too_short m)) (sym b.1)) h,
  )

  -- nothing is refused where no test holds, and then the answer and the new store are those of the definition
  pub nothing_refused : (a w : List ℕ) → (put_outcome s q g storeRoom room ≡ entered a w) ↔ (OutputFits s q g storeRoom room × (a ≡ answer s q g) × (w ≡ store_bytes s q g))
  nothing_refused a w = (only_if (entered a w), λ h. output_fits h.0 ∙ rw (h.1, h.2))
