-- How long the parts of a put that is written are, and the whole.
-- Assumes nothing.
use mathlib.Core.Path.{◌≡◌, refl, ◌∙◌}
use mathlib.Core.Bool.{true, false}
use mathlib.Core.List.{List, [], ◌∷◌, ◌++◌}
use Prim.Native.Nat.{ℕ, ◌+◌}
use native.Mathlib.Omega.{arith}
use lib.ListN.{length, length-append}
use Rattle.laws.specs.Bytes.{bytes}
use Rattle.numbers.specs.Compact.{compact_bytes}
use Rattle.numbers.specs.ExtendedGuid.{extended_guid_bytes}
use Rattle.numbers.specs.Results.ExtendedGuid.{ExtendedGuid}
use Rattle.objects.specs.Header.{start_bytes, long_start, end_bytes}
use Rattle.objects.proofs.HeaderForms.{length_own}
use Rattle.store.specs.Written.{package_front}
use Rattle.pages.proofs.Lengths.{extended_most}
use Rattle.puts.proofs.NewLengths.{length_five}
use Rattle.client.specs.AskWritten.{identified_bytes}
use Rattle.client.specs.PutWritten.{put_changes_data, put_changes_bytes, put_front_bytes, put_ends_bytes, put_bytes}
use Rattle.client.proofs.AskLengths.{length_identified}

-- ---- what is the same in each put

pub length_package : (length (end_bytes 0x42) ≡ 2) × (length (start_bytes 0x15 true 1) ≡ 2) × (length package_front ≡ 3)
unfolding package_front start_bytes end_bytes long_start bytes
length_package = (refl, refl, refl)

pub length_put_ends : (length (end_bytes 0x15) ≡ 1) × (length (end_bytes 0x40) ≡ 2) × (length put_ends_bytes ≡ 3)
unfolding put_ends_bytes end_bytes bytes
length_put_ends = (refl, refl, refl)

-- ---- 0x5A

pub length_put_data : (x : ExtendedGuid) → length (put_changes_data x) ≡ length (extended_guid_bytes x) + 2
unfolding put_changes_data extended_guid_bytes
length_put_data x = let a = length-append (extended_guid_bytes x) (0 ∷ []) in omega arith

-- where its data is as long as was told
pub length_put_start : (x : ExtendedGuid) (n : ℕ) → n ≡ length (extended_guid_bytes x) → length (start_bytes 0x5A false (n + 2)) ≡ 4
length_put_start x n e = length_own 0x5A false (n + 2) refl (let m = extended_most x in omega arith)

pub length_put_changes : (x : ExtendedGuid) → length (put_changes_bytes x) ≡ 6 + length (extended_guid_bytes x)
unfolding put_changes_bytes
length_put_changes x =
    length-append (start_bytes 0x5A false (length (put_changes_data x))) (put_changes_data x)
    ∙ (let d = length_put_data x in let m = extended_most x in let a = length_own 0x5A false (length (put_changes_data x)) refl (omega arith) in omega arith)

-- ---- the whole

pub length_put_front : (id : ℕ) (x : ExtendedGuid) → length (put_front_bytes id x) ≡ 39 + length (compact_bytes id) + length (extended_guid_bytes x)
unfolding put_front_bytes
length_put_front id x =
    let a = length-append (identified_bytes 5 id) (put_changes_bytes x ++ (end_bytes 0x42 ++ package_front)) in
    let b = length-append (put_changes_bytes x) (end_bytes 0x42 ++ package_front) in
    let d = length-append (end_bytes 0x42) package_front in
    omega (arith, a, b, d, length_identified 5 id, length_five, length_put_changes x, length_package)

pub length_put_parts : (id : ℕ) (x : ExtendedGuid) (s : List ℕ) → length (put_bytes id x s) ≡ length (put_front_bytes id x) + (length s + length put_ends_bytes)
unfolding put_bytes
length_put_parts id x s =
    let a = length-append (put_front_bytes id x) (s ++ put_ends_bytes) in let b = length-append s put_ends_bytes in omega (arith, a, b)

pub length_put : (id : ℕ) (x : ExtendedGuid) (s : List ℕ) → length (put_bytes id x s) ≡ 42 + length (compact_bytes id) + length (extended_guid_bytes x) + length s
length_put id x s = omega (arith, length_put_parts id x s, length_put_front id x, length_put_ends)
