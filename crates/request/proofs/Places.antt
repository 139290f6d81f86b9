-- A request that is read lies within its bytes; a fault of it has a number from 2 to 12, its place within and the second input, or is 1
-- where the request is over-long.
-- Assumes nothing.
use mathlib.Core.Path.{◌≡◌, refl}
use mathlib.Core.Bool.{true, false}
use mathlib.Core.List.{List}
use Prim.Native.Nat.{ℕ, zero, suc, ◌-◌, ◌≤◌}
use native.Mathlib.Omega.{arith}
use lib.ListN.{length}
use borrow.Author.Tests.{lt-ltb, le-ltb}
use lib.Dec.{eqb}
use Rattle.laws.proofs.Cases.{pick_all, impossible}
use Rattle.numbers.specs.Refusals.{longest_input, over_long}
use Rattle.numbers.specs.declared.refusal.Refusal.{Refusal}
use Rattle.objects.specs.Steps.{place_of, nothing_open, start_here, run_here, closed, end_here, next_is, finish, Good}
use Rattle.objects.specs.Results.Reading.{At, Reading, Refused}
use Rattle.objects.proofs.Keep.{good_front, good_place, onward_fixed, onward_valued, onward_skip, onward_start, onward_start_of_length, onward_closed, onward_inside, onward_end, onward_finish}
use Rattle.objects.proofs.InputFaults.{InputFault, input_fault}
use Rattle.store.specs.Knowledge.{most_said, Knowing}
use Rattle.store.proofs.KnowledgeHeld.{onward_knowledge}
use Rattle.request.specs.Filter.{filter_fields, one_number, type_part, ids_field, ids_part, kind_part, filter_start, filter_kind, filter_opened, filter_at, filters_from, request_padding}
use Rattle.request.specs.Message.{versions, request_signature, user_agent, sub_request_fields, sub_request, query_changes, argument_fields, arguments, constraint, knowledge_part, package_part, query_changes_request, identified, constrained_from, constrained, filtered, request_end, request_knowing, in_request, request_answer, request_in}
use Rattle.request.specs.Results.Request as request
use Rattle.request.proofs.Inside.{good_one_number, good_sub_request_fields, good_argument_fields, good_filter_fields, good_ids_field}

-- a start, and its data run read by fields that stay within it
good_run : (s : List ℕ) (outer kind : ℕ) (fields : List ℕ → Reading) → ((d : List ℕ) → Good d (fields d)) → (c : Reading) → Good s c
    → Good s (closed s (start_here request_padding s outer kind false true c) (fields (run_here s (start_here request_padding s outer kind false true c))))
good_run s outer kind fields f c g = (onward_closed s (start_here request_padding s outer kind false true c) _ (f (run_here s (start_here request_padding s outer kind false true c)))).good ((onward_start request_padding s outer kind false true c).good g)

-- ---- filters

good_kind_part : (s : List ℕ) (kind : ℕ) (c : Reading) → Good s c → Good s (kind_part s kind c)
unfolding kind_part type_part ids_part
good_kind_part s kind c g =
    pick_all (Good s) (eqb kind 2) _ _ (λ e. good_run s 0x47 0x57 one_number good_one_number c g)
    (λ e. pick_all (Good s) (eqb kind 6) _ _ (λ f. good_run s 0x47 0x54 ids_field good_ids_field c g) (λ f. g))

good_filter : (s : List ℕ) (c : Reading) → Good s c → Good s (filter_at s c)
unfolding filter_at filter_opened
good_filter s c g =
    let o = filter_start s c in
    (onward_end s 0x47 _).good (good_kind_part s (filter_kind s c) _ ((onward_closed s o (filter_fields (run_here s o)).last (good_filter_fields (run_here s o))).good ((onward_start request_padding s 0x42 0x47 true true c).good g)))

pub good_filters : (left : ℕ) (s : List ℕ) (c : Reading) → Good s c → Good s (filters_from left s c)
unfolding filters_from
good_filters zero s c g = pick_all (Good s) (next_is s 0x47 c) _ _ (λ e. (onward_start request_padding s 0x42 0x47 true false c).good g) (λ e. (onward_valued s 16 c).good g)
good_filters (suc left) s c g =
    pick_all (Good s) (next_is s 0x47 c) _ _ (λ e. good_filters left s (filter_at s c) (good_filter s c g)) (λ e. (onward_valued s (16 - suc left) c).good g)

-- ---- the parts

pub good_versions : (signature : ℕ) (s : List ℕ) → Good s (versions signature s)
unfolding versions
good_versions signature s =
    (onward_fixed s 8 signature signature 7 _ (omega arith)).good
    ((onward_fixed s 2 0 12 7 _ (omega arith)).good ((onward_fixed s 2 12 0xFFFF 7 (At 0 0) (omega arith)).good (good_front s 0)))

good_user_agent : (s : List ℕ) (c : Reading) → Good s c → Good s (user_agent s c)
unfolding user_agent
good_user_agent s c g =
    (onward_inside request_padding s 14 0x5D _).good ((onward_start_of_length request_padding s 0x40 0x5D true true 0 _).good ((onward_start_of_length request_padding s nothing_open 0x40 true true 0 c).good g))

good_sub_request : (kind : ℕ) (s : List ℕ) (c : Reading) → Good s c → Good s (sub_request kind s c)
unfolding sub_request
good_sub_request kind s c g =
    let o = start_here request_padding s 0x40 0x42 true true c in
    (onward_closed s o (sub_request_fields kind (run_here s o)) (good_sub_request_fields kind (run_here s o))).good ((onward_start request_padding s 0x40 0x42 true true c).good g)

pub good_identified : (kind : ℕ) (s : List ℕ) → Good s (identified kind s)
unfolding identified
good_identified kind s = good_sub_request kind s _ (good_user_agent s _ (good_versions request_signature s))

good_constrained_from : (s : List ℕ) (c : Reading) → Good s c → Good s (constrained_from s c)
unfolding constrained_from query_changes arguments constraint
good_constrained_from s c g =
    let a = (onward_skip s 1 _).good ((onward_start_of_length request_padding s 0x42 0x51 false true 1 c).good g) in
    let b = good_run s 0x42 0x5B argument_fields good_argument_fields _ a in
    pick_all (Good s) (next_is s 0x59 _) _ _ (λ e. good_run s 0x42 0x59 one_number good_one_number _ b) (λ e. (onward_valued s 0xFFFFFFFFFFFFFFFF _).good b)

good_constrained : (s : List ℕ) → Good s (constrained s)
good_constrained s = good_constrained_from s (identified query_changes_request s) (good_identified query_changes_request s)

good_filtered : (s : List ℕ) → Good s (filtered s)
good_filtered s = good_filters 16 s (constrained s) (good_constrained s)

good_knowledge_part : (s t : List ℕ) (c : Reading) → Good s c → Good s (knowledge_part s t c).last
unfolding knowledge_part
good_knowledge_part s t c g = pick_all (λ (k : Knowing). Good s k.last) (next_is s 0x10 c) _ _ (λ e. (onward_knowledge request_padding most_said 12 0x42 s t c).good g) (λ e. g)

good_package_part : (s : List ℕ) (c : Reading) → Good s c → Good s (package_part s c)
unfolding package_part
good_package_part s c g =
    pick_all (Good s) (next_is s 0x15 c) _ _ (λ e. (onward_inside request_padding s 14 0x15 _).good ((onward_skip s 1 _).good ((onward_start_of_length request_padding s 0x40 0x15 true true 1 c).good g))) (λ e. g)

good_ended : (s : List ℕ) (c : Reading) → Good s c → Good s (request_end s c)
unfolding request_end
good_ended s c g = (onward_finish s _).good ((onward_end s 0x40 _).good (good_package_part s _ ((onward_end s 0x42 c).good g)))

-- ---- the whole

-- the filters stand within the request
pub filters_within : (s : List ℕ) → place_of (constrained s) ≤ length s
filters_within s = good_place s (constrained s) (good_constrained s)

-- a fault of the request is told of the second input
answer_fault : (c : Reading) (a b p n m : ℕ) (r : Refusal) → request_answer c a b p n m ≡ request.Refused r → (q : Refusal) × (c ≡ Refused q) × (r ≡ in_request q)
unfolding request_answer
answer_fault (At e v) a b p n m r h = impossible (cc)
answer_fault (Refused q) a b p n m r h = (q, refl, cc)

-- an over-long request is refused to the end
over_ended : (s : List ℕ) → request_end s (Refused over_long) ≡ Refused over_long
unfolding request_end end_here package_part next_is finish
over_ended s = refl

pub request_fault : (s t : List ℕ) (r : Refusal) → request_in s t ≡ request.Refused r → (q : Refusal) × (r ≡ in_request q) × InputFault longest_input s q
unfolding request_in request_knowing
request_fault s t r h =
    let c = (knowledge_part s t (filtered s)).last in
    let (q, e, i) = answer_fault (request_end s (request_knowing s t).last) _ _ _ _ _ r h in
    let g = good_ended s c (good_knowledge_part s t (filtered s) (good_filtered s)) in
    let f = input_fault longest_input s (request_end s (request_knowing s t).last) (request_end s c) q (λ l. rw (lt-ltb longest_input (length s) l) (over_ended s))
    (λ l. rw (le-ltb longest_input (length s) l)) g e in
    (q, i, f)
