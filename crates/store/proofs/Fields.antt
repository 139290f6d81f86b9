-- The fields of an element stay within its data run, and the element goes forward and stays within the store.
-- Assumes nothing.
use mathlib.Core.Path.{◌≡◌, refl, subst}
use mathlib.Core.Bool.{Bool, true, false}
use mathlib.Core.List.{List}
use Prim.Native.Nat.{ℕ, ◌-◌, ◌+◌, ◌≤◌}
use native.Mathlib.Omega.{arith}
use lib.ListN.{length}
use Rattle.laws.specs.Once.{seen}
use Rattle.laws.proofs.Cases.{impossible}
use Rattle.numbers.specs.Results.ExtendedGuid as id
use Rattle.numbers.specs.Results.Serial as number
use Rattle.objects.specs.Steps.{place_of, value_of, id_here, serial_here, run_here, closed, inside, Good, Behind, on_field}
use Rattle.objects.specs.Results.Reading.{Reading}
use Rattle.objects.specs.Results.Reading as reading
use Rattle.objects.specs.Results.ReadingId.{ReadingId}
use Rattle.objects.specs.Results.ReadingId as id'
use Rattle.objects.specs.Results.ReadingSerial.{ReadingSerial}
use Rattle.objects.specs.Results.ReadingSerial as serial'
use Rattle.objects.proofs.Keep.{Onward, onto, fault_within, good_front, good_place, behind_place, onward_id, onward_serial, onward_number, onward_start, onward_closed, onward_inside}
use Rattle.store.specs.Element.{same_key, named_key, numbered_key, any_key, fresh_key, key_here, id_field, serial_field, fields_of, opened, data_of, element_on, element_at}
use Rattle.store.specs.declared.element.Key.{Key}
use Rattle.store.specs.declared.element.Element.{Element}
use Rattle.store.specs.Results.ReadingKey.{At, ReadingKey, Refused}
use Rattle.store.specs.Results.ReadElement as element
use Rattle.store.specs.declared.element.Strictness.{Strictness}

-- ---- the fields

good_named : (d : List ℕ) (p : ℕ) (c : ReadingId) → p ≤ length d → Good d (on_field c) → Good d (on_field (named_key p c))
unfolding on_field named_key
good_named d p (id'.At q id.Null) h g = fault_within (length d) 10 p (omega arith) h
good_named d p (id'.At q (id.Named i x)) h g = g
good_named d p (id'.Refused r) h g = g

good_numbered : (d : List ℕ) (p : ℕ) (c : ReadingSerial) → p ≤ length d → Good d (on_field c) → Good d (on_field (numbered_key p c))
unfolding on_field numbered_key
good_numbered d p (serial'.At q number.Null) h g = fault_within (length d) 10 p (omega arith) h
good_numbered d p (serial'.At q (number.Numbered i x)) h g = g
good_numbered d p (serial'.Refused r) h g = g

good_any : (d : List ℕ) (c : ReadingSerial) → Good d (on_field c) → Good d (on_field (any_key c))
unfolding on_field any_key
good_any d (serial'.At q number.Null) g = g
good_any d (serial'.At q (number.Numbered i x)) g = g
good_any d (serial'.Refused r) g = g

good_fresh : (d : List ℕ) (p : ℕ) (was : Bool) (c : ReadingKey) → p ≤ length d → Good d (on_field c) → Good d (on_field (fresh_key p was c))
unfolding fresh_key on_field
good_fresh d p true (At q k) h g = fault_within (length d) 11 p (omega arith) h
good_fresh d p false (At q k) h g = g
good_fresh d p was (Refused r) h g = g

pub good_id_field : (ids : List Key) (d : List ℕ) → Good d (on_field (id_field ids d))
unfolding id_field
good_id_field ids d =
    let c = named_key 0 (id_here d (reading.At 0 0)) in
    good_fresh d 0 (seen same_key (key_here c) ids) c (omega arith)
    (good_named d 0 (id_here d (reading.At 0 0)) (omega arith) ((onward_id d (reading.At 0 0)).good (good_front d 0)))

pub good_serial_field : (judges : Bool) (d : List ℕ) (c : Reading) → Good d c → Good d (on_field (serial_field judges d c))
unfolding serial_field
good_serial_field true d c g = good_numbered d (place_of c) (serial_here d c) (good_place d c g) ((onward_serial d c).good g)
good_serial_field false d c g = good_any d (serial_here d c) ((onward_serial d c).good g)

pub good_fields : (strict : Strictness) (ids : List Key) (d : List ℕ) → Good d (fields_of strict ids d).last
unfolding fields_of
good_fields strict ids d =
    (onward_number strict.padding d (on_field (serial_field strict.serials d (on_field (id_field ids d))))).good (good_serial_field strict.serials d (on_field (id_field ids d)) (good_id_field ids d))

-- ---- the element

pub onward_data : (strict : Strictness) (ids : List Key) (s : List ℕ) (c : Reading) → Onward s c (data_of strict ids s c)
unfolding data_of
onward_data strict ids s c =
    let o = opened strict.padding s c in
    onto (onward_start strict.padding s 0x15 0x01 true true c) (onward_closed s o (fields_of strict ids (run_here s o)).last (good_fields strict ids (run_here s o)))

pub onward_element : (strict : Strictness) (ids : List Key) (s : List ℕ) (c : Reading) → Onward s c (inside strict.padding s strict.levels 0x01 (data_of strict ids s c))
onward_element strict ids s c = onto (onward_data strict ids s c) (onward_inside strict.padding s strict.levels 0x01 (data_of strict ids s c))

-- the same, with what the element's data is made of written out
pub data_behind : (strict : Strictness) (ids : List Key) (s : List ℕ) (c : Reading)
    → Behind (place_of c) (inside strict.padding s strict.levels 0x01 (closed s (opened strict.padding s c) (fields_of strict ids (run_here s (opened strict.padding s c))).last))
unfolding data_of
data_behind strict ids s c = (onward_element strict ids s c).behind (place_of c) (behind_place c)

-- what an element that was read is made of
pub record Parts (strict : Strictness) (ids : List Key) (s : List ℕ) (c : Reading) (x : Element) : Type 0 where
  pub end : ℕ
  pub stop : ℕ
  pub reached : inside strict.padding s strict.levels 0x01 (data_of strict ids s c) ≡ reading.At end stop
  pub place : x.place ≡ place_of c
  pub length' : x.length ≡ end - place_of c
  pub kind : x.kind ≡ value_of (data_of strict ids s c)
  pub id : x.id ≡ (fields_of strict ids (run_here s (opened strict.padding s c))).id
  pub serial : x.serial ≡ (fields_of strict ids (run_here s (opened strict.padding s c))).serial

parts_on : (strict : Strictness) (ids : List Key) (s : List ℕ) (c e : Reading) (x : Element) → inside strict.padding s strict.levels 0x01 (data_of strict ids s c) ≡ e
    → element_on (place_of c) (fields_of strict ids (run_here s (opened strict.padding s c))) (value_of (data_of strict ids s c)) e ≡ element.Is x
    → Parts strict ids s c x
unfolding element_on
parts_on strict ids s c (reading.At e v) x q h =
    record { end = e; stop = v; reached = q; place = cc; length' = cc; kind = cc; id = cc; serial = cc }
parts_on strict ids s c (reading.Refused r) x q h = impossible (cc)

pub element_parts : (strict : Strictness) (ids : List Key) (s : List ℕ) (c : Reading) (x : Element) → element_at strict ids s c ≡ element.Is x
    → Parts strict ids s c x
unfolding element_at
element_parts strict ids s c x h = parts_on strict ids s c (inside strict.padding s strict.levels 0x01 (data_of strict ids s c)) x refl h

-- it ends within the store
pub element_within : (strict : Strictness) (ids : List Key) (s : List ℕ) (c : Reading) (x : Element) → element_at strict ids s c ≡ element.Is x
    → Good s c → (x.place ≡ place_of c) × (x.place + x.length ≤ length s)
element_within strict ids s c x h g =
    let p = element_parts strict ids s c x h in
    let o = onward_element strict ids s c in
    let w : Good s (reading.At p.end p.stop) = subst (Good s) p.reached (o.good g) in
    let b : Behind (place_of c) (reading.At p.end p.stop) = subst (Behind (place_of c)) p.reached (o.behind (place_of c) (behind_place c)) in
    (p.place, omega arith)
