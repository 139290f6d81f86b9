-- How long the parts of a response's frame are.
-- Assumes nothing.
use mathlib.Core.Path.{◌≡◌, refl, ◌∙◌}
use mathlib.Core.Bool.{true}
use mathlib.Core.List.{[], ◌∷◌, ◌++◌}
use Prim.Native.Nat.{ℕ, ◌+◌}
use native.Mathlib.Omega.{arith}
use lib.ListN.{length, length-append}
use Rattle.laws.specs.Bytes.{bytes}
use Rattle.numbers.specs.Compact.{size_of, form_from, form_of, compact_bytes}
use Rattle.objects.specs.Header.{start_bytes, long_start, end_bytes}
use Rattle.objects.proofs.HeaderForms.{length_own}
use Rattle.store.specs.Written.{package_front}
use Rattle.store.proofs.ElementWritten.{compact_most}
use Rattle.request.specs.Response.{version_bytes, answer_signature, response_bytes, answer_front, sub_response_data, sub_response_bytes, ends_bytes}

-- ---- what is the same in each response

pub length_versions : (signature : ℕ) → length (version_bytes signature) ≡ 12
unfolding version_bytes bytes
length_versions signature = refl

pub length_front : (length (version_bytes answer_signature) ≡ 12) × (length (start_bytes 0x62 true 1) ≡ 4) × (length (start_bytes 0x15 true 1) ≡ 2) × (length answer_front ≡ 20)
unfolding answer_front version_bytes response_bytes package_front start_bytes long_start bytes
length_front = (refl, refl, refl, refl)

pub length_back : (length (end_bytes 0x15) ≡ 1) × (length (end_bytes 0x41) ≡ 2) × (length (end_bytes 0x62) ≡ 2) × (length ends_bytes ≡ 4)
unfolding ends_bytes end_bytes bytes
length_back = (refl, refl, refl, refl)

-- ---- the sub-response

pub length_two : length (compact_bytes 2) ≡ 1
unfolding compact_bytes size_of form_of form_from bytes
length_two = refl

pub length_sub_data : (kind id : ℕ) → length (sub_response_data kind id) ≡ length (compact_bytes id) + length (compact_bytes kind) + 1
unfolding sub_response_data
length_sub_data kind id =
    length-append (compact_bytes id) (compact_bytes kind ++ (0 ∷ []))
    ∙ (let a = length-append (compact_bytes kind) (0 ∷ []) in omega arith)

-- where its data is as long as was told
pub length_sub_start : (kind id n m : ℕ) → n ≡ length (compact_bytes id) → m ≡ length (compact_bytes kind) → length (start_bytes 0x41 true (n + m + 1)) ≡ 4
length_sub_start kind id n m e f = length_own 0x41 true (n + m + 1) refl (let i = compact_most id in let k = compact_most kind in omega arith)

pub length_sub : (kind id : ℕ) → length (sub_response_bytes kind id) ≡ 5 + length (compact_bytes id) + length (compact_bytes kind)
unfolding sub_response_bytes
length_sub kind id =
    length-append (start_bytes 0x41 true (length (sub_response_data kind id))) (sub_response_data kind id)
    ∙ (let d = length_sub_data kind id in
    let m = compact_most id in
    let k = compact_most kind in
    let a = length_own 0x41 true (length (sub_response_data kind id)) refl (omega arith) in
    omega arith)
