-- How long the parts of a request that is written are, and the whole.
-- Assumes nothing.
use mathlib.Core.Path.{◌≡◌, refl, ap, ◌∙◌}
use mathlib.Core.Bool.{true, false}
use mathlib.Core.List.{List, [], ◌++◌}
use Prim.Native.Nat.{ℕ, ◌+◌}
use native.Mathlib.Omega.{arith}
use lib.ListN.{length, length-append}
use borrow.Author.Tests.{eq-eqb, ne_eqb}
use Rattle.laws.specs.Bytes.{bytes}
use Rattle.numbers.specs.Compact.{size_of, form_from, form_of, compact_bytes}
use Rattle.numbers.specs.ExtendedGuid.{extended_guid_bytes}
use Rattle.objects.specs.Header.{start_bytes, long_start, end_bytes}
use Rattle.objects.proofs.HeaderForms.{length_own}
use Rattle.store.proofs.ElementWritten.{compact_most}
use Rattle.request.specs.Message.{request_signature}
use Rattle.request.specs.Response.{version_bytes}
use Rattle.request.proofs.ResponseLengths.{length_versions, length_two}
use Rattle.client.specs.AskWritten.{user_agent_bytes, sub_request_data, sub_request_bytes, identified_bytes, query_bytes, argument_data, argument_bytes, constraint_bytes, ask_front, ask_ends, ask_bytes}

-- ---- what is the same in each request

pub length_agent : (length (start_bytes 0x40 true 0) ≡ 4) × (length (start_bytes 0x5D true 0) ≡ 4) × (length (end_bytes 0x5D) ≡ 2) × (length user_agent_bytes ≡ 10)
unfolding user_agent_bytes start_bytes long_start end_bytes bytes
length_agent = (refl, refl, refl, refl)

pub length_query : (length (start_bytes 0x51 false 1) ≡ 4) × (length query_bytes ≡ 5)
unfolding query_bytes start_bytes long_start bytes
length_query = (refl, refl)

pub length_arguments : (length argument_data ≡ 3) × (length (start_bytes 0x5B false 3) ≡ 4) × (length argument_bytes ≡ 7)
unfolding argument_bytes argument_data extended_guid_bytes start_bytes long_start bytes
length_arguments = (refl, refl, refl)

pub length_ends : (length (end_bytes 0x42) ≡ 2) × (length (end_bytes 0x40) ≡ 2) × (length ask_ends ≡ 4)
unfolding ask_ends end_bytes bytes
length_ends = (refl, refl, refl)

-- ---- the sub-request

pub length_zero : length (compact_bytes 0) ≡ 1
unfolding compact_bytes size_of form_of form_from bytes
length_zero = refl

pub length_sub_data : (kind id : ℕ) → length (sub_request_data kind id) ≡ length (compact_bytes id) + length (compact_bytes kind) + 1
unfolding sub_request_data
length_sub_data kind id =
    length-append (compact_bytes id) (compact_bytes kind ++ compact_bytes 0)
    ∙ (let a = length-append (compact_bytes kind) (compact_bytes 0) in let d = length_zero in omega arith)

-- where its data is as long as was told
pub length_sub_start : (kind id n m : ℕ) → n ≡ length (compact_bytes id) → m ≡ length (compact_bytes kind) → length (start_bytes 0x42 true (n + m + 1)) ≡ 4
length_sub_start kind id n m e f = length_own 0x42 true (n + m + 1) refl (let i = compact_most id in let k = compact_most kind in omega arith)

pub length_sub : (kind id : ℕ) → length (sub_request_bytes kind id) ≡ 5 + length (compact_bytes id) + length (compact_bytes kind)
unfolding sub_request_bytes
length_sub kind id =
    length-append (start_bytes 0x42 true (length (sub_request_data kind id))) (sub_request_data kind id)
    ∙ (let d = length_sub_data kind id in
    let m = compact_most id in
    let k = compact_most kind in
    let a = length_own 0x42 true (length (sub_request_data kind id)) refl (omega arith) in
    omega arith)

pub length_identified : (kind id : ℕ) → length (identified_bytes kind id) ≡ 27 + length (compact_bytes id) + length (compact_bytes kind)
unfolding identified_bytes
length_identified kind id =
    let s = sub_request_bytes kind id in
    let a = length-append (version_bytes request_signature) (user_agent_bytes ++ s) in
    let b = length-append user_agent_bytes s in
    omega (arith, a, b, length_versions request_signature, length_agent, length_sub kind id)

-- ---- up to the constraint

pub length_front : (id : ℕ) → length (ask_front id) ≡ 40 + length (compact_bytes id)
unfolding ask_front
length_front id =
    let a = length-append (identified_bytes 2 id) (query_bytes ++ argument_bytes) in
    let b = length-append query_bytes argument_bytes in
    omega (arith, a, b, length_identified 2 id, length_two, length_query, length_arguments)

-- ---- the constraint

pub no_constraint : (limit : ℕ) → limit ≡ 0xFFFFFFFFFFFFFFFF → constraint_bytes limit ≡ []
unfolding constraint_bytes
no_constraint limit e = rw (eq-eqb limit 0xFFFFFFFFFFFFFFFF e)

pub a_constraint : (limit : ℕ) → (limit ≡ 0xFFFFFFFFFFFFFFFF → ⊥) → constraint_bytes limit ≡ start_bytes 0x59 false (length (compact_bytes limit)) ++ compact_bytes limit
unfolding constraint_bytes
a_constraint limit n = rw (ne_eqb limit 0xFFFFFFFFFFFFFFFF n)

pub length_constraint_start : (limit n : ℕ) → n ≡ length (compact_bytes limit) → length (start_bytes 0x59 false n) ≡ 4
length_constraint_start limit n e = length_own 0x59 false n refl (let m = compact_most limit in omega arith)

pub length_none : (limit : ℕ) → limit ≡ 0xFFFFFFFFFFFFFFFF → length (constraint_bytes limit) ≡ 0
length_none limit e = ap length (no_constraint limit e)

pub length_constraint : (limit : ℕ) → (limit ≡ 0xFFFFFFFFFFFFFFFF → ⊥) → length (constraint_bytes limit) ≡ 4 + length (compact_bytes limit)
length_constraint limit n =
    ap length (a_constraint limit n) ∙ length-append (start_bytes 0x59 false (length (compact_bytes limit))) (compact_bytes limit)
    ∙ (let a = length_constraint_start limit (length (compact_bytes limit)) refl in omega arith)

-- ---- the whole

pub length_parts : (id limit : ℕ) (f k : List ℕ)
    → length (ask_bytes id limit f k) ≡ length (ask_front id) + (length (constraint_bytes limit) + (length f + (length k + length ask_ends)))
unfolding ask_bytes
length_parts id limit f k =
    let w = constraint_bytes limit in
    let a = length-append (ask_front id) (w ++ (f ++ (k ++ ask_ends))) in
    let b = length-append w (f ++ (k ++ ask_ends)) in
    let d = length-append f (k ++ ask_ends) in
    let e = length-append k ask_ends in
    omega (arith, a, b, d, e)

pub length_ask : (id limit : ℕ) (f k : List ℕ)
    → length (ask_bytes id limit f k) ≡ 44 + length (compact_bytes id) + length (constraint_bytes limit) + length f + length k
length_ask id limit f k = omega (arith, length_parts id limit f k, length_front id, length_ends)
