-- What was written for an element is read as that element, wherever its bytes stand and whatever follows.
-- Assumes nothing.
use mathlib.Core.Path.{◌≡◌, refl, sym, ap, ◌∙◌}
use mathlib.Core.Bool.{Bool, true, false}
use mathlib.Core.List.{List, [], ◌++◌, append_assoc, append-nil}
use Prim.Native.Nat.{ℕ, ◌+◌, ◌-◌, ◌≤◌}
use native.Mathlib.Omega.{arith}
use lib.ListN.{length, drop, length-append}
use native.Mathlib.Nat.{zero-add}
use lib.Seq.{take-append_seam, drop-append_seam, drop-append-add}
use borrow.Author.Tests.{le-ltb}
use Rattle.laws.specs.Once.{seen}
use Rattle.laws.proofs.Cases.{by_lt, by_eq}
use Rattle.numbers.specs.Compact.{compact_bytes}
use Rattle.numbers.specs.ExtendedGuid.{named_bytes, extended_guid_bytes}
use Rattle.numbers.specs.Serial.{serial_bytes}
use Rattle.numbers.specs.declared.guid.Guid.{Guid}
use Rattle.numbers.specs.Results.ExtendedGuid.{Named}
use Rattle.numbers.specs.Results.Serial.{Numbered}
use Rattle.numbers.proofs.Forms.{size_le, form_of_le, length_compact}
use Rattle.numbers.proofs.Guids.{length_tagged}
use Rattle.numbers.proofs.ExtendedGuids.{length_short, named_5, named_10, named_17, named_32}
use Rattle.objects.specs.Header.{start_bytes}
use Rattle.objects.specs.Steps.{place_of, value_of, number, serial_here, run_here, closed_at, inside, on_field}
use Rattle.objects.specs.Results.Reading as reading
use Rattle.objects.specs.Results.ReadingSerial as serial'
use Rattle.objects.proofs.Written.{behind, id_written, serial_written, reads_number}
use Rattle.objects.proofs.ObjectsWritten.{reads_start, reads_inside}
use Rattle.store.specs.Element.{same_key, named_key, numbered_key, any_key, fresh_key, key_here, id_field, serial_field, fields_of, opened, data_of, element_on, element_at}
use Rattle.store.specs.Written.{Content, key_guid, field_bytes, written_element, ContentFits, element_of}
use Rattle.store.specs.declared.element.Key.{Key}
use Rattle.store.specs.Results.ReadingKey.{At}
use Rattle.store.specs.Results.ReadElement.{Is}
use Rattle.store.specs.declared.element.Strictness.{Strictness}

-- ---- how long the fields are

pub compact_most : (v : ℕ) → length (compact_bytes v) ≤ 9
unfolding compact_bytes
compact_most v =
    by_eq v 0 (λ e. rw e (omega arith)) (λ n. rw (length_compact v n) (size_le _ (form_of_le v)))

pub named_most : (g : Guid) (x : ℕ) → length (named_bytes g x) ≤ 21
named_most g x =
    by_lt x 0x20
    (λ h. rw (named_5 g x h, length_short) (omega arith))
    (λ l.
    by_lt x 0x400
    (λ h. rw (named_10 g x l h, length_short) (omega arith))
    (λ m.
    by_lt x 0x20000
    (λ h. rw (named_17 g x m h, length_short) (omega arith))
    (λ n. rw (named_32 g x n, length_tagged) (omega arith))))

pub fields_most : (c : Content) → length (field_bytes c) ≤ 55
unfolding field_bytes extended_guid_bytes serial_bytes
fields_most c =
    rw (length-append, length-append, length_tagged)
    (omega (arith, named_most (key_guid c.id) c.id.number, compact_most c.kind))

-- ---- the fields in their run

module _ (strict : Strictness) (c : Content) (f : ContentFits strict.padding strict.levels c) where
  abbrev id_bytes : List ℕ
  id_bytes = extended_guid_bytes (Named (key_guid c.id) c.id.number)

  abbrev number_bytes : List ℕ
  number_bytes = serial_bytes (Numbered (key_guid c.serial) c.serial.number)

  id_is : (ids : List Key) → seen same_key c.id ids ≡ false → id_field ids (field_bytes c) ≡ At (length id_bytes) c.id
  unfolding id_field named_key fresh_key key_here field_bytes
  id_is ids h =
      rw (
        id_written (field_bytes c) 0 0 (Named (key_guid c.id) c.id.number) (number_bytes ++ compact_bytes c.kind) ((f.id_low, f.id_high), f.id_number) refl,
        h,
        zero-add (length id_bytes),
      )

  serial_stands : serial_here (field_bytes c) (reading.At (length id_bytes) 0) ≡ serial'.At (length id_bytes + length number_bytes) (Numbered (key_guid c.serial) c.serial.number)
  unfolding field_bytes
  serial_stands =
      serial_written (field_bytes c) (length id_bytes) 0 (Numbered (key_guid c.serial) c.serial.number) (compact_bytes c.kind)
      ((f.serial_low, f.serial_high), f.serial_number) (drop-append_seam id_bytes (number_bytes ++ compact_bytes c.kind))

  serial_is : (judges : Bool) → serial_field judges (field_bytes c) (reading.At (length id_bytes) 0) ≡ At (length id_bytes + length number_bytes) c.serial
  unfolding serial_field numbered_key any_key place_of
  serial_is true = rw serial_stands
  serial_is false = rw serial_stands

  kind_is : number strict.padding (field_bytes c) (reading.At (length id_bytes + length number_bytes) 0) ≡ reading.At (length (field_bytes c)) c.kind
  unfolding field_bytes
  kind_is =
      let k = compact_bytes c.kind in
      let e : drop (length id_bytes + length number_bytes) (field_bytes c) ≡ k ++ [] =
      drop-append-add id_bytes (number_bytes ++ k) (length number_bytes) ∙ drop-append_seam number_bytes k ∙ sym (append-nil k) in
      (reads_number strict.padding 0 c.kind f.kind).here (field_bytes c) (length id_bytes + length number_bytes) [] e
      ∙ ap (λ (n : ℕ). reading.At n c.kind)
      (let a = length-append id_bytes (number_bytes ++ k) in let b = length-append number_bytes k in omega arith)

  fields_are : (ids : List Key) → seen same_key c.id ids ≡ false
      → fields_of strict ids (field_bytes c) ≡ record { id = c.id; serial = c.serial; last = reading.At (length (field_bytes c)) c.kind }
  unfolding fields_of on_field key_here
  fields_are ids h = rw (id_is ids h, serial_is strict.serials, kind_is)

-- ---- the element

module _ (strict : Strictness) (ids : List Key) (s : List ℕ) (at u : ℕ) (c : Content) (t : List ℕ) (f : ContentFits strict.padding strict.levels c)
    (stands : drop at s ≡ written_element c ++ t) (h : seen same_key c.id ids ≡ false) where
  abbrev start : List ℕ
  start = start_bytes 0x01 true (length (field_bytes c))

  stands' : drop at s ≡ start ++ (field_bytes c ++ (c.inner ++ t))
  unfolding written_element
  stands' = stands ∙ append_assoc start (field_bytes c ++ c.inner) t ∙ ap (λ (l : List ℕ). start ++ l) (append_assoc (field_bytes c) c.inner t)

  opens : opened strict.padding s (reading.At at u) ≡ reading.At (at + length start) (length (field_bytes c))
  opens =
      (reads_start strict.padding u 0x15 0x01 true (length (field_bytes c)) (omega arith) (let m = fields_most c in omega arith)).here s at (field_bytes c ++ (c.inner ++ t)) stands'

  data_stands : drop (at + length start) s ≡ field_bytes c ++ (c.inner ++ t)
  data_stands = behind s at start (field_bytes c ++ (c.inner ++ t)) stands'

  run_is : run_here s (opened strict.padding s (reading.At at u)) ≡ field_bytes c
  unfolding run_here
  run_is = rw (opens, data_stands) (take-append_seam (field_bytes c) (c.inner ++ t))

  data_is : data_of strict ids s (reading.At at u) ≡ reading.At (at + length start + length (field_bytes c)) c.kind
  unfolding data_of closed_at
  data_is =
      let l : length (field_bytes c) ≤ length (field_bytes c) = omega arith in
      rw (run_is, fields_are strict c f ids h, opens, le-ltb _ _ l)

  inside_is : inside strict.padding s strict.levels 0x01 (data_of strict ids s (reading.At at u)) ≡ reading.At (at + length start + length (field_bytes c) + length c.inner) 0
  inside_is =
      rw data_is
      ((reads_inside strict.padding c.kind strict.levels 0x01 c.inner f.nested).here s (at + length start + length (field_bytes c)) t
      (behind s (at + length start) (field_bytes c) (c.inner ++ t) data_stands))

  length_is : at + length start + length (field_bytes c) + length c.inner - at ≡ length (written_element c)
  unfolding written_element
  length_is =
      let a = length-append start (field_bytes c ++ c.inner) in
      let b = length-append (field_bytes c) c.inner in
      omega arith

  pub element_written : element_at strict ids s (reading.At at u) ≡ Is (element_of at c)
  unfolding element_at element_on place_of value_of
  element_written = rw (inside_is, run_is, fields_are strict c f ids h, data_is, length_is)
