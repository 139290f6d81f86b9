-- How long an element is as it enters, and the parts in which it is laid.
-- Assumes nothing.
use mathlib.Core.Path.{◌≡◌, refl, ap, ◌∙◌}
use mathlib.Core.Bool.{true}
use mathlib.Core.List.{List, ◌++◌}
use Prim.Native.Nat.{ℕ, ◌+◌, ◌-◌}
use native.Mathlib.Omega.{arith}
use lib.ListN.{length, length-append}
use Rattle.laws.proofs.Parts.{part_length}
use Rattle.numbers.specs.Compact.{compact_bytes}
use Rattle.numbers.specs.ExtendedGuid.{extended_guid_bytes}
use Rattle.numbers.specs.Serial.{serial_bytes}
use Rattle.numbers.specs.declared.guid.Guid.{Guid}
use Rattle.numbers.specs.Results.ExtendedGuid.{Named}
use Rattle.numbers.specs.Results.Serial.{Numbered}
use Rattle.numbers.proofs.Guids.{length_tagged}
use Rattle.objects.specs.Header.{start_bytes}
use Rattle.store.specs.Written.{key_guid, field_bytes, written_element, inside_of, content_in}
use Rattle.store.specs.declared.element.Key.{Key}
use Rattle.store.specs.declared.element.Element.{Element}
use Rattle.puts.specs.Plan.{inside_from, entering_data, data_length, entering_length, Enters}

pub length_serial : (g : Guid) (n : ℕ) → length (serial_bytes (Numbered g n)) ≡ 25
unfolding serial_bytes
length_serial g n = rw length_tagged

pub length_data : (k : Key) (x : Element) → length (entering_data k x) ≡ data_length x
unfolding entering_data data_length
length_data k x =
    let i = extended_guid_bytes (Named (key_guid x.id) x.id.number) in
    let n = serial_bytes (Numbered (key_guid k) k.number) in
    let a = length-append i (n ++ compact_bytes x.kind) in
    let b = length-append n (compact_bytes x.kind) in
    let c = length_serial (key_guid k) k.number in
    omega arith

pub length_inside : (q : List ℕ) (x : Element) → Enters q x → length (inside_of q x) ≡ x.place + x.length - inside_from q x
length_inside q x h =
    let a = h.within in
    let b = h.inside in
    ap length h.inner
    ∙ part_length (inside_from q x) (x.place + x.length - inside_from q x) q (omega arith)

-- the parts, one behind the other
fields_are : (q : List ℕ) (k : Key) (x : Element) → field_bytes (content_in q x k) ≡ entering_data k x
unfolding field_bytes entering_data
fields_are q k x = refl

pub entering_parts : (q : List ℕ) (k : Key) (x : Element) → written_element (content_in q x k) ≡ start_bytes 0x01 true (data_length x) ++ (entering_data k x ++ inside_of q x)
unfolding written_element
entering_parts q k x = rw (fields_are q k x, length_data k x)

pub length_parts : (q : List ℕ) (k : Key) (x : Element)
    → length (written_element (content_in q x k)) ≡ length (start_bytes 0x01 true (data_length x)) + (data_length x + length (inside_of q x))
length_parts q k x =
    let s = start_bytes 0x01 true (data_length x) in
    let d = entering_data k x in
    let a = ap length (entering_parts q k x) in
    let b = length-append s (d ++ inside_of q x) in
    let c = length-append d (inside_of q x) in
    let e = length_data k x in
    omega arith

pub length_entering : (q : List ℕ) (k : Key) (x : Element) → Enters q x → length (written_element (content_in q x k)) ≡ entering_length q x
unfolding entering_length
length_entering q k x h = let a = length_parts q k x in let b = length_inside q x h in omega arith
