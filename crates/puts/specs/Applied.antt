-- What a put does (document 02, Q-1), for the store's bytes, the put's bytes, the hub's GUID and the lengths of both buffers: the refusal,
-- or the answer's bytes and the new store's. "after the request's faults come 15, 16, 9, 1 for the new store, 14 for its buffer, 14 for
-- the output"; all six fall on no item: they name the store, place 0.
-- Assumes nothing.
use Rattle.std.specs.Prelude.{◌≡◌, ℕ, ◌+◌, Bool, true, false, List, [], ◌∷◌, ◌++◌, length, drop, ltb, Ok}
use Rattle.laws.specs.Pick.{pick}
use Rattle.numbers.specs.Refusals.{Told, gives, refuses, fault_at, too_short, longest_input}
use Rattle.numbers.specs.declared.guid.Guid.{Guid}
use Rattle.numbers.specs.declared.refusal.Refusal.{Refusal}
use Rattle.numbers.specs.Results.ExtendedGuid.{ExtendedGuid, Named, Null}
use Rattle.objects.specs.Types.{package_type}
use Rattle.objects.specs.Header.{end_bytes}
use Rattle.objects.specs.Results.Reading.{Reading}
use Rattle.objects.specs.Results.Reading as reading
use Rattle.talk.specs.declared.range.Range.{Range}
use Rattle.store.specs.Element.{key_of, same_key}
use Rattle.store.specs.Held.{storage_index}
use Rattle.store.specs.KnowledgeWritten.{knowledge_bytes}
use Rattle.store.specs.Store.{store_walk}
use Rattle.store.specs.Tables.{most_elements}
use Rattle.store.specs.declared.element.Element.{Element}
use Rattle.request.specs.Message.{put_changes_request}
use Rattle.request.specs.Response.{answer_front, sub_response_bytes, ends_bytes}
use Rattle.puts.specs.Entering.{Kept}
use Rattle.puts.specs.NewStore.{highest_under, new_elements, new_store, ranges_of}
use Rattle.puts.specs.Put.{put_walk, put_in}
use Rattle.puts.specs.Results.Put.{Put}
use Rattle.puts.specs.Results.Put as put
use Rattle.puts.specs.Results.Applied.{Applied}
use Rattle.puts.specs.Results.Applied as applied

pub data Outcome : Type 0 where
  refused : Refusal → Outcome
  entered : List ℕ → List ℕ → Outcome  -- the answer, the new store

-- ---- "The answer is document 01's with no elements, type 5 and, from 0x5F on, only the knowledge of every serial now stored.":
-- `answer_front` ends with the package's start, and its end follows at once

unfoldable pub put_answer_bytes : ℕ → List Range → List ℕ
put_answer_bytes id l = answer_front ++ (end_bytes package_type ++ (sub_response_bytes put_changes_request id ++ (knowledge_bytes l ++ ends_bytes)))

-- ---- the refusals behind those of both inputs, from the last to the first

-- 14 for the output
unfoldable pub answered : ℕ → List ℕ → List Range → ℕ → Outcome
answered id new l room = pick (ltb room (length (put_answer_bytes id l))) (refused (too_short (length (put_answer_bytes id l)))) (entered (put_answer_bytes id l) new)

-- 1 for the new store, 14 for its buffer
unfoldable pub sized : ℕ → List ℕ → List Range → ℕ → ℕ → Outcome
sized id new l storeRoom room =
    pick (ltb longest_input (length new)) (refused (fault_at 1 0))
    (pick (ltb storeRoom (length new)) (refused (too_short (length new))) (answered id new l room))

-- 9, "over 256 elements"
unfoldable pub counted : ℕ → List Kept → ℕ → ℕ → Outcome
counted id new storeRoom room = pick (ltb most_elements (length new)) (refused (fault_at 9 0)) (sized id (new_store new) (ranges_of [] new) storeRoom room)

-- 2^64-1
abbrev pub last_number : ℕ
last_number = 0xFFFFFFFFFFFFFFFF

-- 16, "no serial number left": the highest and the number of elements together pass it
unfoldable pub numbered : List ℕ → List Element → List ℕ → ℕ → Guid → ℕ → ℕ → Outcome
numbered s all q id g storeRoom room =
    pick (ltb last_number (highest_under g all + length (put_walk q).elements)) (refused (fault_at 16 0))
    (counted id (new_elements s all q (put_walk q).elements g) storeRoom room)

-- 15, "another storage index": "If that is the store's first type 1 element (null: it has none), its elements enter"
unfoldable pub same_id : ExtendedGuid → ExtendedGuid → Bool
same_id Null Null = true
same_id Null (Named h y) = false
same_id (Named g x) Null = false
same_id (Named g x) (Named h y) = same_key (key_of g x) (key_of h y)

unfoldable pub expecting : List ℕ → List Element → List ℕ → ℕ → ExtendedGuid → Guid → ℕ → ℕ → Outcome
expecting s all q id expected g storeRoom room =
    pick (same_id expected (storage_index all)) (numbered s all q id g storeRoom room) (refused (fault_at 15 0))

-- ---- the put's faults, then these

unfoldable pub on_put : List ℕ → List Element → List ℕ → Guid → ℕ → ℕ → Put → Outcome
on_put s all q g storeRoom room (Ok x) = expecting s all q x.id x.expected g storeRoom room
on_put s all q g storeRoom room (put.Refused r) = refused r

-- ---- the store's faults, then the put's

unfoldable pub on_store : List ℕ → List Element → List ℕ → Guid → ℕ → ℕ → Reading → Outcome
on_store s all q g storeRoom room (reading.At e v) = on_put s all q g storeRoom room (put_in q)
on_store s all q g storeRoom room (reading.Refused r) = refused r

unfoldable pub put_outcome : List ℕ → List ℕ → Guid → ℕ → ℕ → Outcome
put_outcome s q g storeRoom room = on_store s (store_walk s).elements q g storeRoom room (store_walk s).last

-- ---- what the call answers: the answer's length and the new store's

abbrev pub tell_applied : Applied → Told
tell_applied (applied.Entered n m) = gives (n ∷ m ∷ [])
tell_applied (applied.Refused r) = refuses r

unfoldable pub applied_told : Outcome → Applied
applied_told (refused r) = applied.Refused r
applied_told (entered w new) = applied.Entered (length w) (length new)

-- ---- and what both buffers then hold: on a refusal what they held; else what was written, and behind it what they held

unfoldable pub store_after : Outcome → List ℕ → List ℕ
store_after (refused r) t = t
store_after (entered w new) t = new ++ drop (length new) t

unfoldable pub output_after : Outcome → List ℕ → List ℕ
output_after (refused r) out = out
output_after (entered w new) out = w ++ drop (length w) out

-- what is promised where the outcome is o
abbrev pub GivesPut : Outcome → Applied → List ℕ → List ℕ → List ℕ → List ℕ → Type 0
GivesPut o r new new' out out' = (tell_applied r ≡ tell_applied (applied_told o)) × (new' ≡ store_after o new) × (out' ≡ output_after o out)

-- what the call promises
abbrev pub Puts : List ℕ → List ℕ → Guid → Applied → List ℕ → List ℕ → List ℕ → List ℕ → Type 0
Puts s q g r new new' out out' = GivesPut (put_outcome s q g (length new) (length out)) r new new' out out'
