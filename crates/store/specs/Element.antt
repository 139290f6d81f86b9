-- "Element: compound; data = extended GUID, serial number, element type; inside, any well-nested objects. No null id or
-- serial, no id twice" (document 01); a serial number may stand twice, for "11 is kept for ids only" (document 02, Q-3). From left to right:
-- the id (2, 3, then 10, then 11), the serial number (2, 3, then 10), the type, bytes left over, the inside. What the package stands in
-- says how strictly it is read (`Strictness`): whether padding is taken, in its headers and in its type; how many levels are left inside it;
-- and whether its serial number is judged.
-- Assumes nothing.
use Rattle.std.specs.Prelude.{ℕ, ◌-◌, Bool, false, List, [], ◌∷◌, map, eqb}
use Rattle.laws.specs.Pick.{pick}
use Rattle.laws.specs.Once.{seen}
use Rattle.numbers.specs.Refusals.{Told, gives, refuses, fault_at}
use Rattle.numbers.specs.declared.guid.Guid.{Guid}
use Rattle.numbers.specs.Results.ExtendedGuid as id
use Rattle.numbers.specs.Results.Serial as number
use Rattle.objects.specs.Types.{package_type, element_type, compound_bit, with_room}
use Rattle.objects.specs.Steps.{place_of, value_of, id_here, serial_here, start_here, run_here, closed, inside, on_field}
use Rattle.objects.specs.Steps as steps
use Rattle.objects.specs.Results.Reading.{Reading}
use Rattle.objects.specs.Results.Reading as reading
use Rattle.objects.specs.Results.ReadingId.{ReadingId}
use Rattle.objects.specs.Results.ReadingId as id'
use Rattle.objects.specs.Results.ReadingSerial.{ReadingSerial}
use Rattle.objects.specs.Results.ReadingSerial as serial'
use Rattle.store.specs.declared.element.Key.{Key}
use Rattle.store.specs.declared.element.Element.{Element}
use Rattle.store.specs.declared.element.Fields.{Fields}
use Rattle.store.specs.declared.element.Strictness.{Strictness}
use Rattle.store.specs.Results.ReadingKey.{At, ReadingKey, Refused}
use Rattle.store.specs.Results.ReadElement.{ReadElement}
use Rattle.store.specs.Results.ReadElement as element

-- ---- ids and serial numbers that are not null

abbrev pub key_of : Guid → ℕ → Key
key_of g x = record { low = g.low; high = g.high; number = x }

-- 11 compares values, not the bytes that stand for them (D-12)
unfoldable pub same_key : Key → Key → Bool
same_key a b = pick (eqb a.low b.low) (pick (eqb a.high b.high) (eqb a.number b.number) false) false

-- the ids of the elements before
abbrev pub ids_in : List Element → List Key
ids_in done = map (λ (x : Element). x.id) done

-- an id that stands at p: 10 where it is null
unfoldable pub named_key : ℕ → ReadingId → ReadingKey
named_key p (id'.At q id.Null) = Refused (fault_at 10 p)
named_key p (id'.At q (id.Named g x)) = At q (key_of g x)
named_key p (id'.Refused r) = Refused r

-- the same of a serial number
unfoldable pub numbered_key : ℕ → ReadingSerial → ReadingKey
numbered_key p (serial'.At q number.Null) = Refused (fault_at 10 p)
numbered_key p (serial'.At q (number.Numbered g x)) = At q (key_of g x)
numbered_key p (serial'.Refused r) = Refused r

-- a serial number that is not judged: "serials that came are ignored and meet no 10 or 11" (document 02, Q-1). So it may be null, which
-- is a key of zeros; its own 2 and 3 stay
unfoldable pub any_key : ReadingSerial → ReadingKey
any_key (serial'.At q number.Null) = At q (record { low = 0; high = 0; number = 0 })
any_key (serial'.At q (number.Numbered g x)) = At q (key_of g x)
any_key (serial'.Refused r) = Refused r

-- 11 at p, if it was seen before
unfoldable pub fresh_key : ℕ → Bool → ReadingKey → ReadingKey
fresh_key p was (At q k) = pick was (Refused (fault_at 11 p)) (At q k)
fresh_key p was (Refused r) = Refused r

unfoldable pub key_here : ReadingKey → Key
key_here (At q k) = k
key_here (Refused r) = record { low = 0; high = 0; number = 0 }

-- judged against the keys before it
abbrev pub judged : List Key → ℕ → ReadingKey → ReadingKey
judged before p c = fresh_key p (seen same_key (key_here c) before) c

-- ---- the fields, in the element's data run d

-- the id stands at its front
unfoldable pub id_field : List Key → List ℕ → ReadingKey
id_field ids d = judged ids 0 (named_key 0 (id_here d (reading.At 0 0)))

-- the serial number stands at c, and is judged or not. It is not compared with those before it: "11 is kept for ids only" (document 02, Q-3)
unfoldable pub serial_field : Bool → List ℕ → Reading → ReadingKey
serial_field judges d c = pick judges (numbered_key (place_of c) (serial_here d c)) (any_key (serial_here d c))

-- the type is the number at the last
unfoldable pub fields_of : Strictness → List Key → List ℕ → Fields
fields_of strict ids d =
    record {
      id = key_here (id_field ids d);
      serial = key_here (serial_field strict.serials d (on_field (id_field ids d)));
      last = steps.number strict.padding d (on_field (serial_field strict.serials d (on_field (id_field ids d))));
    }

-- ---- the element at c, in a package

abbrev pub opened : Bool → List ℕ → Reading → Reading
opened padding s c = start_here padding s package_type element_type compound_bit with_room c

-- behind its data, with its type as the number
unfoldable pub data_of : Strictness → List Key → List ℕ → Reading → Reading
data_of strict ids s c =
    closed s (opened strict.padding s c) (fields_of strict ids (run_here s (opened strict.padding s c))).last

unfoldable pub element_on : ℕ → Fields → ℕ → Reading → ReadElement
element_on at f kind (reading.At e v) =
    element.Is (record { place = at; length = e - at; kind = kind; id = f.id; serial = f.serial })
element_on at f kind (reading.Refused r) = element.Refused r

unfoldable pub element_at : Strictness → List Key → List ℕ → Reading → ReadElement
element_at strict ids s c =
    element_on (place_of c) (fields_of strict ids (run_here s (opened strict.padding s c))) (value_of (data_of strict ids s c))
    (inside strict.padding s strict.levels element_type (data_of strict ids s c))

-- ---- what the answers tell: the values in the order of the type, or the refusal

-- the place behind, and the key
abbrev pub tell_reading_key : ReadingKey → Told
tell_reading_key (At q k) = gives (q ∷ k.low ∷ k.high ∷ k.number ∷ [])
tell_reading_key (Refused r) = refuses r

-- place, length, type, id and serial number
abbrev pub tell_read_element : ReadElement → Told
tell_read_element (element.Is x) =
    gives
    (x.place
    ∷ x.length
    ∷ x.kind
    ∷ x.id.low
    ∷ x.id.high
    ∷ x.id.number
    ∷ x.serial.low
    ∷ x.serial.high
    ∷ x.serial.number
    ∷ [])
tell_read_element (element.Refused r) = refuses r
