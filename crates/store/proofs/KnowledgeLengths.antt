-- Knowledge as it is written: how many bytes each part takes, and the ranges of the rows still to come.
-- Assumes nothing.
use mathlib.Core.Path.{◌≡◌, refl, ap, ◌∙◌}
use mathlib.Core.Bool.{Bool, true, false}
use mathlib.Core.List.{List, [], ◌++◌}
use Prim.Native.Nat.{ℕ, zero, suc, ◌+◌, ◌-◌, ◌≤◌, ◌<◌}
use native.Mathlib.Omega.{arith}
use lib.ListN.{length, length-append}
use borrow.Author.Tests.{lt-ltb}
use Rattle.laws.specs.Bytes.{bytes}
use Rattle.numbers.specs.Compact.{compact_bytes}
use Rattle.numbers.specs.Guid.{guid_bytes}
use Rattle.numbers.proofs.Guids.{length_guid}
use Rattle.objects.specs.Header.{start_bytes, long_start, end_bytes}
use Rattle.objects.proofs.HeaderForms.{length_short}
use Rattle.talk.specs.declared.range.Range.{Range}
use Rattle.ranges.specs.RangeTable.{range_at, ranges_at}
use Rattle.store.specs.KnowledgeWritten.{range_guid, range_data, range_bytes, ranges_bytes, cell_front, cell_back, knowledge_bytes}
use Rattle.store.proofs.ElementWritten.{compact_most}
use Rattle.ranges.proofs.RangeRows.{rows_step, rows_none}

-- ---- one range

pub length_data : (x : Range) → length (range_data x) ≡ 16 + (length (compact_bytes x.from) + length (compact_bytes x.to))
unfolding range_data
length_data x =
    length-append (guid_bytes (range_guid x)) (compact_bytes x.from ++ compact_bytes x.to)
    ∙ (let a = length_guid (range_guid x) in let b = length-append (compact_bytes x.from) (compact_bytes x.to) in omega arith)

pub data_most : (x : Range) → length (range_data x) ≤ 34
data_most x = omega (arith, length_data x, compact_most x.from, compact_most x.to)

-- its header takes two bytes
pub length_range_start : (n : ℕ) → n < 128 → length (start_bytes 0x0F false n) ≡ 2
length_range_start n h = length_short 0x0F false n (lt-ltb n 128 h)

pub range_is : (x : Range) → length (range_bytes x) ≡ 2 + length (range_data x)
unfolding range_bytes
range_is x =
    length-append (start_bytes 0x0F false (length (range_data x))) (range_data x) ∙ (let a = length_range_start (length (range_data x)) (omega (arith, data_most x)) in omega arith)

pub length_range : (x : Range) → length (range_bytes x) ≡ 18 + length (compact_bytes x.from) + length (compact_bytes x.to)
length_range x = omega (arith, range_is x, length_data x)

-- ---- what stands around the ranges

pub length_front : (length (start_bytes 0x10 true 0) ≡ 2) × (length (start_bytes 0x44 true 16) ≡ 4) × (length (start_bytes 0x14 true 0) ≡ 2) × (length cell_front ≡ 24)
unfolding cell_front start_bytes long_start guid_bytes bytes
length_front = (refl, refl, refl, refl)

pub length_back : (length (end_bytes 0x14) ≡ 1) × (length (end_bytes 0x44) ≡ 2) × (length (end_bytes 0x10) ≡ 1) × (length cell_back ≡ 4)
unfolding cell_back end_bytes bytes
length_back = (refl, refl, refl, refl)

-- ---- the rows still to come

pub rows_front : (t : List ℕ) (n : ℕ) → ranges_at t 0 n ≡ ranges_at t 0 (n - 0)
rows_front t n = let e : n - 0 ≡ n = omega arith in rw e

-- their bytes
pub bytes_turn : (t : List ℕ) (i n : ℕ) → i < n → ranges_bytes (ranges_at t i (n - i)) ≡ range_bytes (range_at t i) ++ ranges_bytes (ranges_at t (i + 1) (n - (i + 1)))
unfolding ranges_bytes
bytes_turn t i n h = rw (rows_step t i n h)

pub bytes_end : (t : List ℕ) (i n : ℕ) → n ≤ i → ranges_bytes (ranges_at t i (n - i)) ≡ []
unfolding ranges_bytes
bytes_end t i n h = rw (rows_none t i n h)

pub length_turn : (t : List ℕ) (i n : ℕ) → i < n
    → length (ranges_bytes (ranges_at t i (n - i))) ≡ length (range_bytes (range_at t i)) + length (ranges_bytes (ranges_at t (i + 1) (n - (i + 1))))
length_turn t i n h = ap length (bytes_turn t i n h) ∙ length-append (range_bytes (range_at t i)) (ranges_bytes (ranges_at t (i + 1) (n - (i + 1))))

pub length_end : (t : List ℕ) (i n : ℕ) → n ≤ i → length (ranges_bytes (ranges_at t i (n - i))) ≡ 0
length_end t i n h = ap length (bytes_end t i n h)

-- ---- the whole: without rows, and with some

pub knowledge_none : (t : List ℕ) (n : ℕ) → n ≡ 0 → knowledge_bytes (ranges_at t 0 n) ≡ start_bytes 0x10 true 0 ++ end_bytes 0x10
unfolding knowledge_bytes ranges_at
knowledge_none t n e = rw e

pub knowledge_some : (t : List ℕ) (n : ℕ) → (n ≡ 0 → ⊥) → knowledge_bytes (ranges_at t 0 n) ≡ cell_front ++ (ranges_bytes (ranges_at t 0 n) ++ cell_back)
unfolding knowledge_bytes ranges_at
knowledge_some t zero h = absurd (h refl)
knowledge_some t (suc n) h = refl

pub length_none : (t : List ℕ) (n : ℕ) → n ≡ 0 → length (knowledge_bytes (ranges_at t 0 n)) ≡ 3
length_none t n e =
    ap length (knowledge_none t n e) ∙ length-append (start_bytes 0x10 true 0) (end_bytes 0x10)
    ∙ (let a = length_front in let b = length_back in omega arith)

pub length_some : (t : List ℕ) (n : ℕ) → (n ≡ 0 → ⊥) → length (knowledge_bytes (ranges_at t 0 n)) ≡ 28 + length (ranges_bytes (ranges_at t 0 n))
length_some t n h =
    ap length (knowledge_some t n h) ∙ length-append cell_front (ranges_bytes (ranges_at t 0 n) ++ cell_back)
    ∙ (let a = length-append (ranges_bytes (ranges_at t 0 n)) cell_back in let b = length_front in let d = length_back in omega arith)

-- ---- one of two starts, by the compound bit

pub length_either : (r k n : ℕ) (c : Bool) → r ≡ length (start_bytes k true n) → r ≡ length (start_bytes k false n) → r ≡ length (start_bytes k c n)
length_either r k n true a b = a
length_either r k n false a b = b
