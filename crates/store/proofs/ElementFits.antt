-- The elements of a package that was read from bytes: each lies within the input, and its id and its serial number can be written;
-- so the number of its id is one of 32 bits.
-- Assumes nothing.
use mathlib.Core.Path.{◌≡◌, refl, sym, subst}
use mathlib.Core.Bool.{Bool, true, false}
use mathlib.Core.List.{List, [], ◌∷◌, ◌++◌}
use Prim.Native.Nat.{ℕ, ◌+◌, ◌^◌, ◌≤◌, ◌<◌}
use native.Mathlib.Omega.{arith}
use lib.ListN.{length, drop}
use Rattle.laws.specs.Bytes.{AllBytes}
use Rattle.laws.specs.Once.{seen}
use Rattle.laws.proofs.Numbers.{drop_bytes}
use Rattle.numbers.specs.ExtendedGuid.{read_extended_guid, ExtendedGuidFits}
use Rattle.numbers.specs.Serial.{read_serial, SerialFits}
use Rattle.numbers.specs.Results.ExtendedGuid as id
use Rattle.numbers.specs.Results.ReadExtendedGuid.{ReadExtendedGuid}
use Rattle.numbers.specs.Results.ReadExtendedGuid as extended
use Rattle.numbers.specs.Results.Serial as number
use Rattle.numbers.specs.Results.ReadSerial.{ReadSerial}
use Rattle.numbers.specs.Results.ReadSerial as serial
use Rattle.numbers.proofs.ExtendedGuids.{extended_guid_written_read}
use Rattle.numbers.proofs.Serials.{serial_written_read}
use Rattle.objects.specs.Steps.{nothing_open, place_of, id_on, id_here, serial_on, serial_here, run_here, on_field}
use Rattle.objects.specs.Results.Reading.{Reading}
use Rattle.objects.specs.Results.Reading as reading
use Rattle.objects.specs.Results.ReadingSerial.{ReadingSerial}
use Rattle.objects.specs.Results.ReadingSerial as serial'
use Rattle.objects.proofs.Keep.{good_front, good_place}
use Rattle.talk.specs.Each.{Each}
use Rattle.talk.proofs.Things.{each_so}
use Rattle.store.specs.Chain.{Follows}
use Rattle.store.specs.Element.{same_key, ids_in, named_key, numbered_key, any_key, fresh_key, key_here, id_field, serial_field, fields_of, opened}
use Rattle.store.specs.Store.{package_start, store_walk, store_padding, store_strictness}
use Rattle.store.specs.Written.{key_guid}
use Rattle.store.specs.declared.element.Key.{Key}
use Rattle.store.specs.declared.element.Element.{Element}
use Rattle.store.specs.Results.ReadingKey.{At, ReadingKey, Refused}
use Rattle.store.specs.declared.element.Strictness.{Strictness}
use Rattle.store.proofs.Fields.{element_parts, element_within}
use Rattle.store.proofs.KnowledgeFits.{run_bytes}
use Rattle.store.proofs.Walks.{good_package}
use Rattle.store.proofs.Chains.{StoreRead}

-- ---- the keys

-- an id that can be written, and a serial number
abbrev pub NamedFits : Key → Type 0
NamedFits k = ExtendedGuidFits (id.Named (key_guid k) k.number)

abbrev pub NumberedFits : Key → Type 0
NumberedFits k = SerialFits (number.Numbered (key_guid k) k.number)

named_fits : (d : List ℕ) (r : ReadExtendedGuid) → AllBytes d → read_extended_guid (drop 0 d) ≡ r → NamedFits (key_here (named_key 0 (id_on 0 r)))
unfolding named_key key_here
named_fits d (extended.Value id.Null n) b e = ((omega arith, omega arith), omega arith)
named_fits d (extended.Value (id.Named g x) n) b e = (extended_guid_written_read (drop 0 d) (id.Named g x) n (drop_bytes 0 d b) e).1
named_fits d (extended.Refused r) b e = ((omega arith, omega arith), omega arith)

numbered_fits : (d : List ℕ) (p at : ℕ) (r : ReadSerial) → AllBytes d → read_serial (drop at d) ≡ r → NumberedFits (key_here (numbered_key p (serial_on at r)))
unfolding numbered_key key_here
numbered_fits d p at (serial.Value number.Null n) b e = ((omega arith, omega arith), omega arith)
numbered_fits d p at (serial.Value (number.Numbered g x) n) b e = (serial_written_read (drop at d) (number.Numbered g x) n (drop_bytes at d b) e).1
numbered_fits d p at (serial.Refused r) b e = ((omega arith, omega arith), omega arith)

-- what a key that was read keeps, it keeps where it was judged; after a fault it is made of zeros
judged_fits : (P : Key → Type 0) (p : ℕ) (was : Bool) (c : ReadingKey) → P (record { low = 0; high = 0; number = 0 }) → P (key_here c) → P (key_here (fresh_key p was c))
unfolding fresh_key key_here
judged_fits P p true (At q k) z h = z
judged_fits P p false (At q k) z h = h
judged_fits P p was (Refused r) z h = z

pub id_fits : (strict : Strictness) (ids : List Key) (d : List ℕ) → AllBytes d → NamedFits (fields_of strict ids d).id
unfolding fields_of id_field id_here
id_fits strict ids d b =
    judged_fits NamedFits 0 (seen same_key (key_here (named_key 0 (id_on 0 (read_extended_guid (drop 0 d))))) ids) (named_key 0 (id_on 0 (read_extended_guid (drop 0 d))))
    ((omega arith, omega arith), omega arith) (named_fits d (read_extended_guid (drop 0 d)) b refl)

serial_here_fits : (d : List ℕ) (c : Reading) → AllBytes d → NumberedFits (key_here (numbered_key (place_of c) (serial_here d c)))
unfolding serial_here numbered_key key_here
serial_here_fits d (reading.At at v) b = numbered_fits d (place_of (reading.At at v)) at (read_serial (drop at d)) b refl
serial_here_fits d (reading.Refused r) b = ((omega arith, omega arith), omega arith)

-- the key is the same, judged or not: zeros for a null one
any_key_lem : (p : ℕ) (c : ReadingSerial) → key_here (any_key c) ≡ key_here (numbered_key p c)
unfolding any_key numbered_key key_here
any_key_lem p (serial'.At q number.Null) = refl
any_key_lem p (serial'.At q (number.Numbered g x)) = refl
any_key_lem p (serial'.Refused r) = refl

serial_field_fits : (judges : Bool) (d : List ℕ) (c : Reading) → AllBytes d → NumberedFits (key_here (serial_field judges d c))
unfolding serial_field
serial_field_fits true d c b = serial_here_fits d c b
serial_field_fits false d c b = subst NumberedFits (sym (any_key_lem (place_of c) (serial_here d c))) (serial_here_fits d c b)

serial_fits : (strict : Strictness) (ids : List Key) (d : List ℕ) → AllBytes d → NumberedFits (fields_of strict ids d).serial
unfolding fields_of
serial_fits strict ids d b = serial_field_fits strict.serials d (on_field (id_field ids d)) b

-- ---- each element of a package

abbrev pub ElementFits : List ℕ → Element → Type 0
ElementFits s x = (x.place + x.length ≤ length s) × (x.id.number < 2 ^ 32)

abbrev pub KeysFit : Element → Type 0
KeysFit x = NamedFits x.id × NumberedFits x.serial

-- where it lies, and its keys
abbrev Fits : List ℕ → Element → Type 0
Fits s x = (x.place + x.length ≤ length s) × KeysFit x

chain_fits : (strict : Strictness) (s : List ℕ) (done xs : List Element) (at e : ℕ) → AllBytes s → at ≤ length s → Follows strict s done at xs e → Each (Fits s) xs
chain_fits strict s done [] at e b h c = tt
chain_fits strict s done (x ∷ xs) at e b h c =
    let o = opened strict.padding s (reading.At at 0) in
    let p = element_parts strict (ids_in done) s (reading.At at 0) x c.0 in
    let w = element_within strict (ids_in done) s (reading.At at 0) x c.0 h in
    let i : NamedFits x.id = rw p.id (id_fits strict (ids_in done) (run_here s o) (run_bytes s o b)) in
    let n : NumberedFits x.serial = rw p.serial (serial_fits strict (ids_in done) (run_here s o) (run_bytes s o b)) in
    ((w.1, (i, n)), chain_fits strict s (done ++ (x ∷ [])) xs (x.place + x.length) e b w.1 c.1)

each_fits : (s : List ℕ) (xs : List Element) → Each (Fits s) xs → Each (ElementFits s) xs
each_fits s xs f = each_so (Fits s) (ElementFits s) xs (λ x h. (h.0, h.1.0.1)) f

-- a store's elements begin within it
pub store_front : (s : List ℕ) (r : StoreRead s) → r.first ≤ length s
store_front s r =
    let g = good_place s (package_start store_padding nothing_open s (reading.At 0 0)) (good_package store_padding nothing_open s (reading.At 0 0) (good_front s 0)) in
    let e = r.start in
    omega arith

store_fits : (s : List ℕ) → AllBytes s → (r : StoreRead s) → Each (Fits s) (store_walk s).elements
store_fits s b r = chain_fits store_strictness s [] (store_walk s).elements r.first r.end b (store_front s r) r.chain

pub elements_fit : (s : List ℕ) → AllBytes s → StoreRead s → Each (ElementFits s) (store_walk s).elements
elements_fit s b r = each_fits s (store_walk s).elements (store_fits s b r)

pub keys_fit : (s : List ℕ) → AllBytes s → StoreRead s → Each KeysFit (store_walk s).elements
keys_fit s b r = each_so (Fits s) KeysFit (store_walk s).elements (λ x h. h.1) (store_fits s b r)
