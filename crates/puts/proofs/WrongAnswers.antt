-- For reading a put and for applying one, wrong answers that their promises rule out, each tried on a named input.
-- Assumes nothing.
use mathlib.Core.Path.{◌≡◌, ap}
use mathlib.Core.List.{List, [], ◌∷◌, map}
use Prim.Native.Nat.{ℕ}
use native.Mathlib.Omega.{arith}
use lib.ListN.{take}
use Rattle.std.specs.Prelude.{Ok}
use Rattle.laws.specs.Bytes.{le}
use Rattle.laws.specs.Once.{seen}
use Rattle.numbers.specs.Refusals.{Told, fault_at, refusal_number}
use Rattle.numbers.specs.declared.guid.Guid.{Guid}
use Rattle.objects.specs.Steps.{place_of, valued, fixed_in, skip, id_here, start_here, length_is, start_of_length, run_here, closed_at, inside, end_here, next_is, finish, on_field}
use Rattle.objects.specs.Header.{header_at, header_of}
use Rattle.store.specs.Element.{same_key}
use Rattle.store.specs.Store.{package_start, walk_from, store_walk}
use Rattle.store.specs.declared.element.Element.{Element}
use Rattle.request.specs.Message.{versions, id_in, user_agent, sub_request, identified, knowledge_part, in_request}
use Rattle.enter.specs.Entering.{Kept, replaced_by, new_to, enter}
use Rattle.puts.specs.NewStore.{under_guid, highest_under}
use Rattle.puts.specs.Put.{put_fields, put_changes, additional_flags, optional_bytes, client_knowledge, before_package, put_package, put_end, put_walk, put_read, put_in, ReadsPut}
use Rattle.puts.specs.Applied.{on_store, put_outcome, applied_told, store_after, Puts}
use Rattle.puts.specs.Results.Put.{Put}
use Rattle.puts.specs.Results.Put as put
use Rattle.puts.specs.Results.Applied.{Applied}
use Rattle.puts.specs.Results.Applied as applied

-- ---- reading a put of no bytes

abbrev handed_number : Put → ℕ
handed_number (Ok x) = 0
handed_number (put.Refused r) = refusal_number r

abbrev handed_input : Put → ℕ
handed_input (Ok x) = 0
handed_input (put.Refused r) = r.input

-- its version is missing: 2, and not 7
version_first : (rows rows' ids ids' : List ℕ) → ReadsPut [] (put.Refused (in_request (fault_at 7 0))) rows rows' ids ids' → ⊥
unfolding put_in put_read put_walk put_end put_package before_package additional_flags optional_bytes client_knowledge knowledge_part put_changes put_fields identified sub_request user_agent versions fixed_in valued skip id_here on_field id_in start_here length_is start_of_length run_here closed_at inside end_here next_is finish place_of le
version_first rows rows' ids ids' h = let z : ◌≡◌ {A = ℕ} 7 2 = ap handed_number h.0 in omega arith

-- and of the second input, not of the first
first_input : (rows rows' ids ids' : List ℕ) → ReadsPut [] (put.Refused (fault_at 2 0)) rows rows' ids ids' → ⊥
unfolding put_in put_read put_walk put_end put_package before_package additional_flags optional_bytes client_knowledge knowledge_part put_changes put_fields identified sub_request user_agent versions fixed_in valued skip id_here on_field id_in start_here length_is start_of_length run_here closed_at inside end_here next_is finish place_of le
first_input rows rows' ids ids' h = let z : ◌≡◌ {A = ℕ} 0 1 = ap handed_input h.0 in omega arith

-- ---- applying a put of no bytes to a store of no bytes: the store's fault comes first

abbrev hub : Guid
hub = record { low = 1; high = 0 }

put_first : (new' out' : List ℕ) → Puts [] [] hub (applied.Refused (in_request (fault_at 2 0))) [] new' [] out' → ⊥
unfolding put_outcome on_store store_walk package_start start_of_length length_is place_of start_here skip walk_from next_is end_here finish header_at header_of applied_told
put_first new' out' h = let z : ◌≡◌ {A = ℕ} 1 0 = ap (λ (t : Told). t.input) h.0 in omega arith

-- and a buffer that is lent stays as it was
store_cleared : (r : Applied) (out' : List ℕ) → Puts [] [] hub r (7 ∷ []) (0 ∷ []) [] out' → ⊥
unfolding put_outcome on_store store_walk package_start start_of_length length_is place_of start_here skip walk_from next_is end_here finish header_at header_of store_after le
store_cleared r out' h = let z : ◌≡◌ {A = ℕ} 0 7 = ap (λ (l : List ℕ). le (take 1 l)) h.1 in omega arith

-- ---- entering: of two that are there and one that comes with the id of the first

abbrev kept : ℕ → ℕ → Kept
kept id byte = record { id = record { low = id; high = 0; number = 1 }; serial = record { low = 1; high = 0; number = id }; bytes = byte ∷ [] }

abbrev bytes_in : List Kept → List ℕ
bytes_in l = map (λ (x : Kept). le x.bytes) l

-- what is replaced is not left in, and what replaces it does not stand at the end
left_in : bytes_in (enter (kept 1 10 ∷ kept 2 20 ∷ []) (kept 1 30 ∷ [])) ≡ 10 ∷ 20 ∷ 30 ∷ [] → ⊥
unfolding enter replaced_by new_to seen same_key le
left_in h = let z : ◌≡◌ {A = ℕ} 30 10 = ap (λ (l : List ℕ). le (take 1 l)) h in omega arith

at_the_end : bytes_in (enter (kept 1 10 ∷ kept 2 20 ∷ []) (kept 1 30 ∷ [])) ≡ 20 ∷ 30 ∷ [] → ⊥
unfolding enter replaced_by new_to seen same_key le
at_the_end h = let z : ◌≡◌ {A = ℕ} 30 20 = ap (λ (l : List ℕ). le (take 1 l)) h in omega arith

-- ---- the highest number: of two elements under the hub's GUID, whichever of them is replaced

abbrev stored : ℕ → Element
stored n = record { place = 0; length = 0; kind = 5; id = record { low = n; high = 0; number = 1 }; serial = record { low = 1; high = 0; number = n } }

-- 9, and not 4, though the element with 9 may be the one that goes
of_those_that_stay : highest_under hub (stored 9 ∷ stored 4 ∷ []) ≡ 4 → ⊥
unfolding highest_under under_guid
of_those_that_stay h = let z : ◌≡◌ {A = ℕ} 9 4 = h in omega arith
