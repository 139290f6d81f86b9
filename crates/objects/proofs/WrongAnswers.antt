-- For each call for a single header, for the reading of an object and of a run, and for the way back from a data run, two wrong answers that its promise rules
-- out, each tried on a named input.
-- Assumes nothing.
use Rattle.laws.specs.Loop.{turns, iterate}
use Rattle.laws.proofs.Cases.{impossible}
use Rattle.objects.specs.Nesting.{data_past, object_d, object_at, run_at}
use Rattle.objects.specs.Results.Passed as passed
use mathlib.Core.Path.{◌≡◌, ap}
use mathlib.Core.Bool.{true, false}
use Prim.Native.Nat.{ℕ}
use mathlib.Core.List.{List, [], ◌∷◌}
use native.Mathlib.Omega.{arith}
use lib.Count.{count_trailing_zeros}
use Rattle.laws.specs.Bytes.{le, bytes}
use Rattle.laws.specs.Placed.{placed}
use Rattle.numbers.specs.Refusals.{Told, fault_at, too_short}
use Rattle.numbers.specs.Compact.{padding_taken, read_form, read_compact, compact_for, form_from, form_of, with_form, size_of, compact_bytes}
use Rattle.numbers.specs.Compact as compact
use Rattle.numbers.specs.Calls.{single, written}
use Rattle.numbers.specs.Results.Wrote as wrote
use Rattle.objects.specs.Header.{start_of, end_of, sized, header_of, header_at, length_at, whole_header, start_number, long_start, start_bytes, end_bytes}
use Rattle.objects.specs.Steps.{no, run_here, closed_at, closed}
use Rattle.objects.specs.Results.Reading.{At, Reading}
use Rattle.objects.specs.Results.Reading as reading
use Rattle.objects.specs.Calls.{ReadsHeader, WritesStart, WritesEnd}
use Rattle.objects.specs.Results.Header.{Refused, Start}

-- ---- read_header

-- `7A 02 08 00` is of type 0x4F, not 0x2F
other_type : ReadsHeader (0x7A ∷ 0x02 ∷ 0x08 ∷ 0x00 ∷ []) (Start 0x2F false 4 4) → ⊥
unfolding single whole_header header_of sized start_of length_at le
other_type h =
    let z : ◌≡◌ {A = List ℕ} (0x2F ∷ 0 ∷ 4 ∷ 4 ∷ []) (0x4F ∷ 0 ∷ 4 ∷ 4 ∷ []) = ap (λ (t : Told). t.values) h in
    let y : ◌≡◌ {A = ℕ} 0x2F 0x4F = cc in omega arith

-- `0C 56` has 43 bytes of data: its second byte is twice that, with the type's highest bit lowest
twice_the_length : ReadsHeader (0x0C ∷ 0x56 ∷ []) (Start 1 true 86 2) → ⊥
unfolding single whole_header header_of sized start_of length_at le
twice_the_length h =
    let z : ◌≡◌ {A = List ℕ} (1 ∷ 1 ∷ 86 ∷ 2 ∷ []) (1 ∷ 1 ∷ 43 ∷ 2 ∷ []) = ap (λ (t : Told). t.values) h in
    let y : ◌≡◌ {A = ℕ} 86 43 = cc in omega arith

-- the true length that `02 00 FE FF` lacks would stand at 4, not at 0
lacks_at_front : ReadsHeader (0x02 ∷ 0x00 ∷ 0xFE ∷ 0xFF ∷ []) (Refused (fault_at 2 0)) → ⊥
unfolding single whole_header header_of sized start_of length_at le read_compact compact_for
lacks_at_front h = let z : ◌≡◌ {A = ℕ} 0 4 = ap (λ (t : Told). t.place) h in omega arith

-- a padded true length is taken, and not refused with 3
padding_refused_lem : ReadsHeader (0x02 ∷ 0x00 ∷ 0xFE ∷ 0xFF ∷ 0x01 ∷ []) (Refused (fault_at 3 4)) → ⊥
unfolding single whole_header header_of sized start_of length_at le read_compact compact_for read_form compact.compact_value size_of count_trailing_zeros
padding_refused_lem h = let z : ◌≡◌ {A = ℕ} 3 0 = ap (λ (t : Told). t.number) h in omega arith

-- ---- write_start

-- a type of 64 does not go into 16 bits
sixteen_bits : (exit : List ℕ) → WritesStart 64 false 0 (9 ∷ 9 ∷ 9 ∷ 9 ∷ []) (wrote.Done 2) exit → ⊥
unfolding written start_bytes long_start start_number bytes
sixteen_bits exit h =
    let z : ◌≡◌ {A = List ℕ} (2 ∷ []) (4 ∷ []) = ap (λ (t : Told). t.values) h.0 in
    let y : ◌≡◌ {A = ℕ} 2 4 = cc in omega arith

-- a length of 32767 has its compact integer behind the header: 7 bytes, not 4
needs_header : WritesStart 1 true 32767 [] (wrote.Refused (too_short 4)) [] → ⊥
unfolding written start_bytes long_start start_number bytes compact_bytes form_of form_from with_form size_of
needs_header h = let z : ◌≡◌ {A = ℕ} 4 7 = ap (λ (t : Told). t.needed) h.0 in omega arith

-- ---- write_end

-- a type of 0x4000 is 3, also where there is no room
room_first : WritesEnd 0x4000 [] (wrote.Refused (too_short 2)) [] → ⊥
room_first h = let z : ◌≡◌ {A = ℕ} 14 3 = ap (λ (t : Told). t.number) h.0 in omega arith

-- the end of type 1 is one byte: what stands behind it stays
byte_behind : WritesEnd 1 (9 ∷ 9 ∷ []) (wrote.Done 1) (0x05 ∷ 0x00 ∷ []) → ⊥
unfolding placed end_bytes bytes
byte_behind h = let z = h.1 in let y : ◌≡◌ {A = ℕ} 0 9 = cc in omega arith

-- ---- pass_object

-- `0C 00 05` ends behind its end, not behind its own data
end_left_out : object_at padding_taken (0x0C ∷ 0x00 ∷ 0x05 ∷ []) 0 16 ≡ passed.To 2 → ⊥
unfolding object_at object_d data_past length_at header_at header_of sized start_of end_of le iterate turns
end_left_out h = let z : ◌≡◌ {A = ℕ} 3 2 = cc in omega arith

-- with no level left it is 6
too_deep : object_at padding_taken (0x0C ∷ 0x00 ∷ 0x05 ∷ []) 0 0 ≡ passed.To 3 → ⊥
unfolding object_at object_d data_past length_at header_at header_of sized start_of end_of le iterate turns
too_deep h = impossible (cc)

-- with one level left it is taken, and not refused one level before the depth
one_level_less : object_at padding_taken (0x0C ∷ 0x00 ∷ 0x05 ∷ []) 0 1 ≡ passed.Refused (fault_at 6 0) → ⊥
unfolding object_at object_d data_past length_at header_at header_of sized start_of end_of le iterate turns
one_level_less h = impossible (cc)

-- ---- pass_run

-- `09` ends type 2, and not the open object of type 1
other_end : run_at padding_taken (0x09 ∷ []) 0 16 1 ≡ passed.To 1 → ⊥
unfolding run_at object_at object_d data_past length_at header_at header_of sized start_of end_of le iterate turns
other_end h = impossible (cc)

-- a run that the input ends in has no end: 2, and not behind the input
no_end : run_at padding_taken (0x08 ∷ 0x00 ∷ []) 0 16 1 ≡ passed.To 2 → ⊥
unfolding run_at object_at object_d data_past length_at header_at header_of sized start_of end_of le iterate turns
no_end h = impossible (cc)

-- ---- Reading::closed

abbrev fault_place : Reading → ℕ
fault_place (At p v) = 0
fault_place (reading.Refused r) = r.place

-- of two bytes at 1 one was read: the other is left over at 2, its own place, and not at 3, behind the run
left_over_behind : closed (0 ∷ 0 ∷ 0 ∷ []) (At 1 2) (At 1 0) ≡ no 5 3 → ⊥
unfolding run_here closed_at
left_over_behind h = let z : ◌≡◌ {A = ℕ} 2 3 = ap fault_place h in omega arith

-- and the run is not taken with a byte left over
left_over_taken : closed (0 ∷ 0 ∷ 0 ∷ []) (At 1 2) (At 1 0) ≡ At 3 0 → ⊥
unfolding run_here closed_at
left_over_taken h = impossible (cc)
