-- For read_elements, read_package, read_store, begin_store, find_element, element_bytes, lay_part, id_in_row, element_in_row and serials_once, wrong answers
-- that their promises rule out, each tried on a named input.
-- Assumes nothing.
use mathlib.Core.Path.{◌≡◌, refl, ap}
use mathlib.Core.Bool.{true, false}
use Prim.Native.Nat.{ℕ, ◌+◌, ◌≤◌}
use mathlib.Core.List.{List, [], ◌∷◌, map}
use lib.Count.{count_trailing_zeros}
use lib.ListN.{length, get_or}
use native.Mathlib.Omega.{arith}
use Rattle.laws.specs.Bytes.{le, bytes}
use Rattle.laws.specs.Loop.{turns, iterate}
use Rattle.laws.specs.Once.{once, seen}
use Rattle.laws.specs.Placed.{Lays}
use Rattle.laws.proofs.Cases.{impossible}
use Rattle.numbers.specs.Refusals.{Told, longest_input, fault_at}
use Rattle.numbers.specs.declared.refusal.Refusal.{Refusal}
use Rattle.numbers.specs.Compact.{read_form, read_compact, compact_for, compact_bytes, form_of, form_from, size_of}
use Rattle.numbers.specs.Compact as compact
use Rattle.numbers.specs.Guid.{guid_bytes, tagged_bytes}
use Rattle.numbers.specs.ExtendedGuid.{extended_guid_bytes, named_bytes, short_bytes}
use Rattle.numbers.specs.Serial.{serial_bytes}
use Rattle.objects.specs.Header.{start_bytes, end_bytes, start_of, end_of, sized, header_of, header_at, length_at}
use Rattle.objects.specs.Steps.{place_of, start_here, length_is, start_of_length, skip, end_here, next_is, finish}
use Rattle.store.specs.Store.{package_start, Walk, walk_from, elements_walk, package_walk, store_walk, packaged_of, stored_of, nothing_of, beginning_of, PackageTo, WalkedTo, store_padding, store_strictness}
use Rattle.store.specs.Element.{same_key}
use Rattle.store.specs.Tables.{key_at, keys_at, serial_keys, row_of, id_of, flat, id_in_row, element_in_row}
use Rattle.store.specs.Written.{Content, ContentFits, AllFit, field_bytes, written_element, written_elements, package_front, package_bytes, elements_from}
use Rattle.store.specs.Accessor.{element_in, found_in, FindsElement, element_bytes}
use Rattle.store.specs.declared.element.Key.{Key}
use Rattle.store.specs.declared.element.Element.{Element}
use Rattle.store.specs.Results.Found as found
use Rattle.store.specs.Results.Beginning as beginning
use Rattle.store.specs.Results.Packaged as packaged
use Rattle.store.specs.Results.Stored as stored
use Rattle.objects.specs.Results.Reading as reading
use Rattle.objects.specs.Nesting.{object_at, run_at}
use Rattle.store.proofs.PackageWritten.{package_written}

-- ---- find_element

-- `AC 02 00 55` holds no element
none_there : FindsElement (0xAC ∷ 0x02 ∷ 0x00 ∷ 0x55 ∷ []) 0 (found.At 3 1) → ⊥
unfolding found_in store_walk package_start start_of_length length_is place_of start_here skip walk_from next_is end_here finish element_in header_at header_of sized start_of end_of length_at le
none_there h = let z : ◌≡◌ {A = ℕ} 0 9 = ap (λ (t : Told). t.number) h in omega arith

-- `55` is at fault, which comes before any position
fault_later : FindsElement (0x55 ∷ []) 0 (found.Refused (fault_at 9 0)) → ⊥
unfolding found_in store_walk package_start start_of_length length_is place_of start_here skip walk_from next_is end_here finish element_in header_at header_of sized start_of end_of length_at le
fault_later h = let z : ◌≡◌ {A = ℕ} 9 4 = ap (λ (t : Told). t.number) h in omega arith

-- ---- read_store, on the same store and on two tables of one number each

-- it holds no element, and not one
one_held : WalkedTo (store_walk (0xAC ∷ 0x02 ∷ 0x00 ∷ 0x55 ∷ [])) (stored.Holds 1) (7 ∷ []) (7 ∷ []) (8 ∷ []) (8 ∷ []) → ⊥
unfolding stored_of store_walk package_start start_of_length length_is place_of start_here skip walk_from next_is end_here finish header_at header_of sized start_of end_of length_at le
one_held h = impossible (cc)

-- with the padded true length 1 of its package it is read, and not refused with 3
padding_refused_lem : WalkedTo (store_walk (0xAE ∷ 0x00 ∷ 0xFE ∷ 0xFF ∷ 0x06 ∷ 0x00 ∷ 0x00 ∷ 0x55 ∷ [])) (stored.Refused (fault_at 3 4)) (7 ∷ []) (7 ∷ []) (8 ∷ []) (8 ∷ []) → ⊥
unfolding stored_of store_walk package_start start_of_length length_is place_of start_here skip walk_from next_is end_here finish header_at header_of sized start_of end_of length_at le compact_for read_compact read_form compact.compact_value size_of count_trailing_zeros
padding_refused_lem h = impossible (cc)

-- what stands behind the rows stays, and is not put to 0
rows_cleared : WalkedTo (store_walk (0xAC ∷ 0x02 ∷ 0x00 ∷ 0x55 ∷ [])) (stored.Holds 0) (7 ∷ []) (0 ∷ []) (8 ∷ []) (8 ∷ []) → ⊥
unfolding flat stored_of store_walk package_start start_of_length length_is place_of start_here skip walk_from next_is end_here finish header_at header_of sized start_of end_of length_at le
rows_cleared h = impossible (cc)

-- ---- read_package, on the same bytes inside the object of a response, with one byte before them and one behind

abbrev in_response : Walk
in_response = package_walk store_strictness 0x62 (0x07 ∷ 0xAC ∷ 0x02 ∷ 0x00 ∷ 0x55 ∷ 0x08 ∷ []) (reading.At 1 0)

-- it holds no element, and not one
one_packaged : PackageTo in_response (packaged.Holds 5 1) (7 ∷ []) (7 ∷ []) (8 ∷ []) (8 ∷ []) → ⊥
unfolding packaged_of package_start start_of_length length_is place_of start_here skip walk_from next_is end_here header_at header_of sized start_of end_of length_at le
one_packaged h = impossible (grind arith)

-- the place behind its end, and not that of its end
place_of_end : PackageTo in_response (packaged.Holds 4 0) (7 ∷ []) (7 ∷ []) (8 ∷ []) (8 ∷ []) → ⊥
unfolding packaged_of package_start start_of_length length_is place_of start_here skip walk_from next_is end_here header_at header_of sized start_of end_of length_at le
place_of_end h = let z : ◌≡◌ {A = ℕ} 4 5 = cc in omega arith

-- ---- read_elements, of no bytes

abbrev nothing_stands : Walk
nothing_stands = elements_walk store_strictness 256 [] [] (reading.At 0 0)

-- nothing is missing: no element, and not 2
missing_element : PackageTo nothing_stands (packaged.Refused (fault_at 2 0)) (7 ∷ []) (7 ∷ []) (8 ∷ []) (8 ∷ []) → ⊥
unfolding packaged_of elements_walk next_is header_at header_of
missing_element h = impossible (cc)

-- no element, and not one
one_alone : PackageTo nothing_stands (packaged.Holds 0 1) (7 ∷ []) (7 ∷ []) (8 ∷ []) (8 ∷ []) → ⊥
unfolding packaged_of elements_walk next_is header_at header_of
one_alone h = impossible (grind arith)

-- ---- element_bytes

-- a store without elements has no bytes to give, and not its own
whole_store : 0xAC ∷ 0x02 ∷ 0x00 ∷ 0x55 ∷ [] ≡ element_bytes (0xAC ∷ 0x02 ∷ 0x00 ∷ 0x55 ∷ []) 0 → ⊥
unfolding element_bytes found_in store_walk package_start start_of_length length_is place_of start_here skip walk_from next_is end_here finish element_in header_at header_of sized start_of end_of length_at le
whole_store h = impossible (cc)

-- the empty part, and not a byte of it
one_byte : 0xAC ∷ [] ≡ element_bytes (0xAC ∷ 0x02 ∷ 0x00 ∷ 0x55 ∷ []) 0 → ⊥
unfolding element_bytes found_in store_walk package_start start_of_length length_is place_of start_here skip walk_from next_is end_here finish element_in header_at header_of sized start_of end_of length_at le
one_byte h = impossible (cc)

-- ---- a store of one element is read: by no call may it be refused, or left out of the rows

-- id 1, 2 with number 3, serial number 4, 5 with number 6, type 7, and nothing inside
abbrev one : Content
one =
    record {
      id = record { low = 1; high = 2; number = 3 };
      serial = record { low = 4; high = 5; number = 6 };
      kind = 7;
      inner = 0x05 ∷ [];
    }

one_fits : AllFit store_padding 14 (one ∷ [])
unfolding run_at object_at header_at header_of sized start_of end_of le iterate turns
one_fits = (
  record {
    id_low = omega arith;
    id_high = omega arith;
    id_number = omega arith;
    serial_low = omega arith;
    serial_high = omega arith;
    serial_number = omega arith;
    kind = omega arith;
    nested = refl;
  },
  tt,
)

short : length (package_bytes (one ∷ [])) ≤ longest_input
unfolding package_bytes package_front written_elements written_element field_bytes start_bytes end_bytes extended_guid_bytes named_bytes short_bytes serial_bytes tagged_bytes guid_bytes compact_bytes form_of form_from size_of bytes
short = let z : length (package_bytes (one ∷ [])) ≡ 50 = refl in omega arith

one_read : ((store_walk (package_bytes (one ∷ []))).elements ≡ elements_from (length package_front) (one ∷ []))
    × ((store_walk (package_bytes (one ∷ []))).last ≡ reading.At (length (package_bytes (one ∷ []))) 0)
unfolding once seen
one_read = package_written (one ∷ []) (omega arith) one_fits refl short

-- find_element: 9, though it is there
refused_there : FindsElement (package_bytes (one ∷ [])) 0 (found.Refused (fault_at 9 0)) → ⊥
unfolding found_in element_in elements_from
refused_there h = let e = rw (one_read.0, one_read.1) at h in let z : ◌≡◌ {A = ℕ} 9 0 = ap (λ (t : Told). t.number) e in omega arith

-- nor has it a length that is counted from the store's front: it is 46 bytes from place 3 on
length_from_the_front : FindsElement (package_bytes (one ∷ [])) 0 (found.At 3 49) → ⊥
unfolding found_in element_in elements_from written_element field_bytes start_bytes end_bytes extended_guid_bytes named_bytes short_bytes serial_bytes tagged_bytes guid_bytes compact_bytes form_of form_from size_of bytes
length_from_the_front h =
    let e = rw (one_read.0, one_read.1) at h in
    let z : ◌≡◌ {A = ℕ} 49 46 = ap (λ (t : Told). get_or t.values 1 0) e in
    omega arith

-- read_store: none held, and one held with its row not written
none_held : (rows ids : List ℕ) → WalkedTo (store_walk (package_bytes (one ∷ []))) (stored.Holds 0) rows rows ids ids → ⊥
unfolding stored_of elements_from
none_held rows ids h = let e : stored.Holds 0 ≡ stored.Holds 1 = rw (one_read.0, one_read.1) at h.0 in impossible (cc)

nothing_written : (ids : List ℕ) → WalkedTo (store_walk (package_bytes (one ∷ []))) (stored.Holds 1) (0 ∷ 0 ∷ 0 ∷ []) (0 ∷ 0 ∷ 0 ∷ []) ids ids → ⊥
unfolding flat elements_from
nothing_written ids h = let e = rw one_read.0 at h.1 in impossible (cc)

-- ---- two elements with one serial number are read: "11 is kept for ids only" (document 02, Q-3)

-- another id, and the same serial number
abbrev sharing : Content
sharing = record { id = record { low = 1; high = 2; number = 4 }; serial = one.serial; kind = 7; inner = 0x05 ∷ [] }

two_fit : AllFit store_padding 14 (one ∷ sharing ∷ [])
two_fit =
    let f = one_fits.0 in
    let g : ContentFits store_padding 14 sharing =
    record {
      id_low = omega arith;
      id_high = omega arith;
      id_number = omega arith;
      serial_low = f.serial_low;
      serial_high = f.serial_high;
      serial_number = f.serial_number;
      kind = f.kind;
      nested = f.nested;
    } in
    (f, (g, tt))

two_short : length (package_bytes (one ∷ sharing ∷ [])) ≤ longest_input
unfolding package_bytes package_front written_elements written_element field_bytes start_bytes end_bytes extended_guid_bytes named_bytes short_bytes serial_bytes tagged_bytes guid_bytes compact_bytes form_of form_from size_of bytes
two_short = let z : length (package_bytes (one ∷ sharing ∷ [])) ≡ 96 = refl in omega arith

-- read_store: refused, with 11 or with any other number
shared_refused : (r : Refusal) (rows ids : List ℕ) → WalkedTo (store_walk (package_bytes (one ∷ sharing ∷ []))) (stored.Refused r) rows rows ids ids → ⊥
unfolding stored_of once seen same_key
shared_refused r rows ids h =
    let e = rw (package_written (one ∷ sharing ∷ []) (omega arith) two_fit refl two_short).1 at h.0 in impossible (cc)

-- ---- lay_part, of one byte: the byte behind it put to 0; the place of its front answered

byte_behind : Lays 1 (5 ∷ []) (7 ∷ 8 ∷ 9 ∷ []) 2 (7 ∷ 5 ∷ 0 ∷ []) → ⊥
byte_behind h = impossible (cc h.1)

front_answered : Lays 1 (5 ∷ []) (7 ∷ 8 ∷ 9 ∷ []) 1 (7 ∷ 5 ∷ 9 ∷ []) → ⊥
front_answered h = let z = h.0 in omega arith

-- ---- id_in_row, of the ids 7 to 9 and 10 to 12: the other one; its halves turned

abbrev key : ℕ → ℕ → ℕ → Key
key low high number = record { low = low; high = high; number = number }

other_id : key 10 11 12 ≡ id_in_row (7 ∷ 8 ∷ 9 ∷ 10 ∷ 11 ∷ 12 ∷ []) 0 → ⊥
unfolding key_at
other_id h = let z : ◌≡◌ {A = ℕ} 12 9 = ap (λ (k : Key). k.number) h in omega arith

halves_turned : key 8 7 9 ≡ id_in_row (7 ∷ 8 ∷ 9 ∷ 10 ∷ 11 ∷ 12 ∷ []) 0 → ⊥
unfolding key_at
halves_turned h = let z : ◌≡◌ {A = ℕ} 8 7 = ap (λ (k : Key). k.low) h in omega arith

-- ---- element_in_row, of one row 1 to 6 and the ids 7 to 9 and 10 to 12: its length for its place; the id of the other row

abbrev element_of_lem : ℕ → ℕ → ℕ → Element
element_of_lem place low number =
    record {
      place = place;
      length = 2;
      kind = 3;
      id = key low (low + 1) number;
      serial = record { low = 4; high = 5; number = 6 };
    }

abbrev in_row : Element
in_row = element_in_row (1 ∷ 2 ∷ 3 ∷ 4 ∷ 5 ∷ 6 ∷ []) (7 ∷ 8 ∷ 9 ∷ 10 ∷ 11 ∷ 12 ∷ []) 0

columns_turned : element_of_lem 2 7 9 ≡ in_row → ⊥
unfolding element_in_row key_at
columns_turned h = let z : ◌≡◌ {A = ℕ} 2 1 = ap (λ (x : Element). x.place) h in omega arith

other_row : element_of_lem 1 10 12 ≡ in_row → ⊥
unfolding element_in_row key_at
other_row h = let z : ◌≡◌ {A = ℕ} 12 9 = ap (λ (x : Element). x.id.number) h in omega arith

-- ---- serials_once: yes, of two rows with the serial number 4 to 6; no, of two with other numbers under one GUID

twice_passed : true ≡ once same_key (serial_keys (1 ∷ 2 ∷ 3 ∷ 4 ∷ 5 ∷ 6 ∷ 7 ∷ 8 ∷ 9 ∷ 4 ∷ 5 ∷ 6 ∷ []) 2) → ⊥
unfolding once seen same_key keys_at key_at
twice_passed h = impossible (cc)

one_guid_found : false ≡ once same_key (serial_keys (1 ∷ 2 ∷ 3 ∷ 4 ∷ 5 ∷ 6 ∷ 7 ∷ 8 ∷ 9 ∷ 4 ∷ 5 ∷ 7 ∷ []) 2) → ⊥
unfolding once seen same_key keys_at key_at
one_guid_found h = impossible (cc)

-- ---- a store of 256 elements, whatever they are, is not refused

full_refused : (cs : List Content) → length cs ≡ 256 → AllFit store_padding 14 cs → once same_key (map (λ (c : Content). c.id) cs) ≡ true
    → length (package_bytes cs) ≤ longest_input
    → (r : Refusal) (rows ids : List ℕ) → WalkedTo (store_walk (package_bytes cs)) (stored.Refused r) rows rows ids ids
    → ⊥
unfolding stored_of
full_refused cs l fit i few r rows ids h = let e = rw (package_written cs (omega arith) fit i few).1 at h.0 in impossible (cc)

-- ---- begin_store

-- no bytes are at fault, and so is what is not told of them: nothing
nothing_of_none : beginning.Nothing ≡ beginning_of [] → ⊥
unfolding beginning_of nothing_of package_start start_of_length length_is place_of start_here skip next_is end_here finish header_at header_of
nothing_of_none h = impossible (cc)

-- `AC 02 00 55` begins with no element
element_of_none : beginning.Elements ≡ beginning_of (0xAC ∷ 0x02 ∷ 0x00 ∷ 0x55 ∷ []) → ⊥
unfolding beginning_of nothing_of package_start start_of_length length_is place_of start_here skip next_is end_here finish header_at header_of sized start_of end_of length_at le
element_of_none h = impossible (cc)

-- ---- put_row, of an element of 46 bytes at 3: the length for the place; no serial number. put_id: the halves turned; the number alone

abbrev rowed : Element
rowed = record { place = 3; length = 46; kind = 5; id = key 7 8 9; serial = key 10 11 12 }

length_for_place : row_of rowed ≡ 46 ∷ 3 ∷ 5 ∷ 10 ∷ 11 ∷ 12 ∷ [] → ⊥
length_for_place h = impossible (cc)

row_without_serial : row_of rowed ≡ 3 ∷ 46 ∷ 5 ∷ [] → ⊥
row_without_serial h = impossible (cc)

id_turned : id_of (key 7 8 9) ≡ 8 ∷ 7 ∷ 9 ∷ [] → ⊥
id_turned h = impossible (cc)

number_alone : id_of (key 7 8 9) ≡ 9 ∷ [] → ⊥
number_alone h = impossible (cc)
