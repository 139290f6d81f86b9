-- The parts of an answer that is read, to a query or to a put, stay within it, or give a fault from 2 to 12 within it; an over-long answer
-- gives 1.
-- Assumes nothing.
use mathlib.Core.Path.{◌≡◌}
use mathlib.Core.Bool.{true, false}
use mathlib.Core.List.{List, []}
use Prim.Native.Nat.{ℕ, ◌%◌}
use native.Mathlib.Omega.{arith}
use lib.ListN.{length}
use lib.Dec.{eqb}
use borrow.Author.Tests.{lt-ltb, le-ltb}
use Rattle.numbers.specs.declared.refusal.Refusal.{Refusal}
use Rattle.objects.specs.Steps.{nothing_open, place_of, value_of, fixed_in, start_here, run_here, Good, on_field}
use Rattle.objects.specs.Results.Reading.{At, Reading, Refused}
use Rattle.objects.proofs.Keep.{good_front, onward_fixed, onward_need, good_place, onward_valued, onward_number, onward_number_is, onward_id, onward_start, onward_closed, onward_end, onward_finish}
use Rattle.objects.proofs.InputFaults.{InputFault, input_fault}
use Rattle.request.proofs.Places.{good_versions}
use Rattle.store.specs.Knowledge.{most_said}
use Rattle.store.proofs.Places.{package_good}
use Rattle.store.proofs.KnowledgeHeld.{onward_knowledge}
use Rattle.request.specs.Message.{query_changes_request, put_changes_request}
use Rattle.request.specs.Response.{answer_signature}
use Rattle.client.specs.Read.{longest_answer, status_byte, response_fields, response_start, sub_response_fields, sub_response, index_field, changes_fields, changes_start, changes, knowledge_in, behind_knowledge, ends_of, mark_at, rest_of, package_end, answer_end, answer_padding, answer_strictness}
use Rattle.client.specs.ReadPut.{put_known, put_rest_of, put_answer_end}

-- ---- the fields of the data runs

pub good_status : (d : List ℕ) (c : Reading) → Good d c → Good d (status_byte d c)
unfolding status_byte
good_status d c g =
    (onward_need d (eqb (value_of (fixed_in d 1 0 255 5 c) % 2) 0) 5 (place_of c) _ (omega arith) (good_place d c g)).good ((onward_fixed d 1 0 255 5 c (omega arith)).good g)

pub good_response_fields : (d : List ℕ) → Good d (response_fields d)
unfolding response_fields
good_response_fields d = good_status d (At 0 0) (good_front d 0)

pub good_sub_response_fields : (kind : ℕ) (d : List ℕ) → Good d (sub_response_fields kind d)
unfolding sub_response_fields
good_sub_response_fields kind d =
    (onward_valued d _ _).good (good_status d _ ((onward_number_is answer_padding d kind 8 _ (omega arith)).good ((onward_number answer_padding d (At 0 0)).good (good_front d 0))))

pub good_changes_fields : (d : List ℕ) → Good d (changes_fields d)
unfolding changes_fields
good_changes_fields d = (onward_fixed d 1 0 255 5 (on_field (index_field d)) (omega arith)).good ((onward_id d (At 0 0)).good (good_front d 0))

-- ---- the parts

pub good_response_start : (s : List ℕ) → Good s (response_start s)
unfolding response_start
good_response_start s =
    let c = start_here answer_padding s nothing_open 0x62 true true _ in
    (onward_closed s c (response_fields (run_here s c)) (good_response_fields (run_here s c))).good ((onward_start answer_padding s nothing_open 0x62 true true _).good (good_versions answer_signature s))

good_sub_response : (kind : ℕ) (s : List ℕ) (c : Reading) → Good s c → Good s (sub_response kind s c)
unfolding sub_response
good_sub_response kind s c g =
    let o = start_here answer_padding s 0x62 0x41 true true c in
    (onward_closed s o (sub_response_fields kind (run_here s o)) (good_sub_response_fields kind (run_here s o))).good ((onward_start answer_padding s 0x62 0x41 true true c).good g)

good_changes : (s : List ℕ) (c : Reading) → Good s c → Good s (changes s c)
unfolding changes
good_changes s c g =
    let o = changes_start s c in
    (onward_closed s o (changes_fields (run_here s o)) (good_changes_fields (run_here s o))).good ((onward_start answer_padding s 0x41 0x5F false true c).good g)

good_knowledge_in : (s : List ℕ) (c : Reading) → Good s c → Good s (knowledge_in s c).last
unfolding knowledge_in
good_knowledge_in s c g = (onward_knowledge answer_padding most_said 13 0x41 s [] c).good g

good_ends : (s : List ℕ) (c : Reading) → Good s c → Good s (ends_of s c)
unfolding ends_of
good_ends s c g = (onward_finish s _).good ((onward_end s 0x62 _).good ((onward_end s 0x41 c).good g))

-- behind a knowledge, and the ends
good_known : (s : List ℕ) (c : Reading) → Good s c → Good s (ends_of s (behind_knowledge s c))
good_known s c g = good_ends s _ ((onward_valued s 0 _).good (good_knowledge_in s c g))

good_rest : (s : List ℕ) (c : Reading) → Good s c → Good s (rest_of s c)
unfolding rest_of
good_rest s c g = good_known s (mark_at s c) (good_changes s (sub_response query_changes_request s c) (good_sub_response query_changes_request s c g))

good_put_rest : (s : List ℕ) (c : Reading) → Good s c → Good s (put_rest_of s c)
unfolding put_rest_of
good_put_rest s c g = good_known s (put_known s c) (good_sub_response put_changes_request s c g)

-- ---- the whole

good_package : (s : List ℕ) → Good s (package_end s)
good_package s = (onward_valued s 0 _).good (package_good answer_strictness 0x62 s (response_start s) (good_response_start s))

pub answer_within : (s : List ℕ) (r : Refusal) → answer_end s ≡ Refused r → InputFault longest_answer s r
unfolding answer_end
answer_within s r h =
    input_fault longest_answer s (answer_end s) (rest_of s (package_end s)) r (λ l. rw (lt-ltb longest_answer (length s) l)) (λ l. rw (le-ltb longest_answer (length s) l))
    (good_rest s (package_end s) (good_package s)) h

pub put_answer_within : (s : List ℕ) (r : Refusal) → put_answer_end s ≡ Refused r → InputFault longest_answer s r
unfolding put_answer_end
put_answer_within s r h =
    input_fault longest_answer s (put_answer_end s) (put_rest_of s (package_end s)) r (λ l. rw (lt-ltb longest_answer (length s) l))
    (λ l. rw (le-ltb longest_answer (length s) l)) (good_put_rest s (package_end s) (good_package s)) h
