-- For read_request, wrong answers that its promise rules out, each tried on a named input.
-- Assumes nothing.
use mathlib.Core.Path.{◌≡◌, ap}
use Prim.Native.Nat.{ℕ}
use mathlib.Core.List.{List, [], ◌∷◌}
use native.Mathlib.Omega.{arith}
use lib.ListN.{get_or}
use lib.Count.{count_trailing_zeros}
use Rattle.laws.specs.Bytes.{le}
use Rattle.laws.specs.Loop.{turns, iterate}
use Rattle.numbers.specs.Refusals.{fault_at}
use Rattle.numbers.specs.Compact.{size_of, read_form, read_compact, compact_for}
use Rattle.numbers.specs.Compact as compact
use Rattle.numbers.specs.ExtendedGuid.{read_extended_guid, form_of_id}
use Rattle.objects.specs.Header.{start_of, end_of, sized, header_of, header_at, length_at}
use Rattle.objects.specs.Nesting.{run_at}
use Rattle.objects.specs.Steps.{value_of, need, number, number_is, null_id, valued, fixed_in, skip, start_here, length_is, start_of_length, run_here, closed_at, inside, end_here, next_is, finish, place_of}
use Rattle.request.specs.Filter.{filters_from}
use Rattle.request.specs.Message.{versions, user_agent, sub_request_fields, sub_request, query_changes, argument_fields, arguments, constraint, knowledge_part, package_part, identified, constrained_from, request_end, request_knowing, in_request, request_answer, request_in, ReadsRequest, tell_request}
use Rattle.request.specs.Results.Request.{Asked, Refused, Request}

-- an empty request lacks its version: 2, and not 7
version_first : ReadsRequest [] (7 ∷ []) (Refused (in_request (fault_at 7 0))) (7 ∷ []) → ⊥
unfolding request_knowing knowledge_part versions user_agent sub_request query_changes arguments constraint package_part identified constrained_from filters_from request_end request_answer request_in fixed_in valued skip start_here length_is start_of_length run_here closed_at inside end_here next_is finish place_of le
version_first h = let z : ◌≡◌ {A = ℕ} 7 2 = ap (λ (r : Request). (tell_request r).number) h.0 in omega arith

-- and of the second input, not of the first
first_input : ReadsRequest [] (7 ∷ []) (Refused (fault_at 2 0)) (7 ∷ []) → ⊥
unfolding request_knowing knowledge_part versions user_agent sub_request query_changes arguments constraint package_part identified constrained_from filters_from request_end request_answer request_in fixed_in valued skip start_here length_is start_of_length run_here closed_at inside end_here next_is finish place_of le
first_input h = let z : ◌≡◌ {A = ℕ} 0 1 = ap (λ (r : Request). (tell_request r).input) h.0 in omega arith

-- ---- the shortest request, of 45 bytes, which leaves out all that may be absent

abbrev shortest : List ℕ
shortest =
    0x0C ∷ 0x00 ∷ 0x0B ∷ 0x00 ∷ 0x9C ∷ 0xCF ∷ 0x29 ∷ 0xF3 ∷ 0x39 ∷ 0x94 ∷ 0x06 ∷ 0x9B ∷ 0x06 ∷ 0x02 ∷ 0x00 ∷ 0x00 ∷ 0xEE ∷ 0x02 ∷ 0x00 ∷ 0x00 ∷ 0x77 ∷ 0x01 ∷ 0x16 ∷ 0x02 ∷ 0x06 ∷ 0x00 ∷ 0x03 ∷ 0x05 ∷ 0x00 ∷ 0x8A ∷ 0x02 ∷ 0x02 ∷ 0x00 ∷ 0x00 ∷ 0xDA ∷ 0x02 ∷ 0x06 ∷ 0x00 ∷ 0x03 ∷ 0x00 ∷ 0x00 ∷ 0x0B ∷ 0x01 ∷ 0x03 ∷ 0x01 ∷ []

-- its limit is 2^64-1, and not 0
no_limit : ReadsRequest shortest (7 ∷ []) (Asked 1 0 41 0 0) (7 ∷ []) → ⊥
unfolding request_knowing knowledge_part versions user_agent sub_request_fields sub_request query_changes argument_fields arguments constraint package_part identified constrained_from filters_from request_end request_answer request_in number number_is null_id need value_of fixed_in valued skip start_here length_is start_of_length run_here closed_at inside end_here next_is finish place_of header_at header_of sized start_of end_of length_at run_at iterate turns read_compact compact_for read_form compact.compact_value size_of read_extended_guid form_of_id count_trailing_zeros le
no_limit h = let z : ◌≡◌ {A = ℕ} 0 0xFFFFFFFFFFFFFFFF = ap (λ (r : Request). get_or (tell_request r).values 1 0) h.0 in omega arith

-- a constraint may be absent: the end that stands in its place is not at fault
constraint_missed : ReadsRequest shortest (7 ∷ []) (Refused (in_request (fault_at 5 41))) (7 ∷ []) → ⊥
unfolding request_knowing knowledge_part versions user_agent sub_request_fields sub_request query_changes argument_fields arguments constraint package_part identified constrained_from filters_from request_end request_answer request_in number number_is null_id need value_of fixed_in valued skip start_here length_is start_of_length run_here closed_at inside end_here next_is finish place_of header_at header_of sized start_of end_of length_at run_at iterate turns read_compact compact_for read_form compact.compact_value size_of read_extended_guid form_of_id count_trailing_zeros le
constraint_missed h = let z : ◌≡◌ {A = ℕ} 5 0 = ap (λ (r : Request). (tell_request r).number) h.0 in omega arith

-- with the low flag bit alone it is refused with 8, and not read: both must be set
abbrev one_flag : List ℕ
one_flag =
    0x0C ∷ 0x00 ∷ 0x0B ∷ 0x00 ∷ 0x9C ∷ 0xCF ∷ 0x29 ∷ 0xF3 ∷ 0x39 ∷ 0x94 ∷ 0x06 ∷ 0x9B ∷ 0x06 ∷ 0x02 ∷ 0x00 ∷ 0x00 ∷ 0xEE ∷ 0x02 ∷ 0x00 ∷ 0x00 ∷ 0x77 ∷ 0x01 ∷ 0x16 ∷ 0x02 ∷ 0x06 ∷ 0x00 ∷ 0x03 ∷ 0x05 ∷ 0x00 ∷ 0x8A ∷ 0x02 ∷ 0x02 ∷ 0x00 ∷ 0x00 ∷ 0xDA ∷ 0x02 ∷ 0x06 ∷ 0x00 ∷ 0x01 ∷ 0x00 ∷ 0x00 ∷ 0x0B ∷ 0x01 ∷ 0x03 ∷ 0x01 ∷ []

one_flag_enough : (id limit place count known : ℕ) → ReadsRequest one_flag (7 ∷ []) (Asked id limit place count known) (7 ∷ []) → ⊥
unfolding request_knowing knowledge_part versions user_agent sub_request_fields sub_request query_changes argument_fields arguments constraint package_part identified constrained_from filters_from request_end request_answer request_in number number_is null_id need value_of fixed_in valued skip start_here length_is start_of_length run_here closed_at inside end_here next_is finish place_of header_at header_of sized start_of end_of length_at run_at iterate turns read_compact compact_for read_form compact.compact_value size_of read_extended_guid form_of_id count_trailing_zeros le
one_flag_enough id limit place count known h =
    let z : ◌≡◌ {A = ℕ} 0 8 = ap (λ (r : Request). (tell_request r).number) h.0 in omega arith

-- with a priority of 0 that is padded it is refused with 3, and not read
abbrev padded_priority : List ℕ
padded_priority =
    0x0C ∷ 0x00 ∷ 0x0B ∷ 0x00 ∷ 0x9C ∷ 0xCF ∷ 0x29 ∷ 0xF3 ∷ 0x39 ∷ 0x94 ∷ 0x06 ∷ 0x9B ∷ 0x06 ∷ 0x02 ∷ 0x00 ∷ 0x00 ∷ 0xEE ∷ 0x02 ∷ 0x00 ∷ 0x00 ∷ 0x77 ∷ 0x01 ∷ 0x16 ∷ 0x02 ∷ 0x06 ∷ 0x00 ∷ 0x03 ∷ 0x05 ∷ 0x01 ∷ 0x8A ∷ 0x02 ∷ 0x02 ∷ 0x00 ∷ 0x00 ∷ 0xDA ∷ 0x02 ∷ 0x06 ∷ 0x00 ∷ 0x03 ∷ 0x00 ∷ 0x00 ∷ 0x0B ∷ 0x01 ∷ 0x03 ∷ 0x01 ∷ []

padding_taken_lem : (id limit place count known : ℕ) → ReadsRequest padded_priority (7 ∷ []) (Asked id limit place count known) (7 ∷ []) → ⊥
unfolding request_knowing knowledge_part versions user_agent sub_request_fields sub_request query_changes argument_fields arguments constraint package_part identified constrained_from filters_from request_end request_answer request_in number number_is null_id need value_of fixed_in valued skip start_here length_is start_of_length run_here closed_at inside end_here next_is finish place_of header_at header_of sized start_of end_of length_at run_at iterate turns read_compact compact_for read_form compact.compact_value size_of read_extended_guid form_of_id count_trailing_zeros le
padding_taken_lem id limit place count known h =
    let z : ◌≡◌ {A = ℕ} 0 3 = ap (λ (r : Request). (tell_request r).number) h.0 in omega arith
