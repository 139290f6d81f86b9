-- How short an element can be: one of a store has 46 bytes at least. Its start has 2, its id, which is not null, 17, its serial number,
-- which is not null, 25, its type 1, and its end 1. And each lies within the store.
-- Assumes nothing.
use mathlib.Core.Path.{◌≡◌, refl, subst}
use mathlib.Core.Bool.{Bool, true, false}
use mathlib.Core.List.{List, [], ◌∷◌, ◌++◌}
use Prim.Native.Nat.{ℕ, ◌+◌, ◌%◌, ◌≤◌}
use native.Mathlib.Omega.{arith}
use lib.ListN.{length, get_or, drop}
use lib.Count.{count_trailing_zeros}
use lib.Dec.{ltb, eqb}
use Rattle.laws.specs.Once.{seen}
use Rattle.laws.proofs.Cases.{pick_all, impossible}
use Rattle.numbers.specs.Compact.{compact_for}
use Rattle.numbers.specs.ExtendedGuid.{named_of, short_form, long_form, form_of_id, read_extended_guid}
use Rattle.numbers.specs.Serial.{numbered, read_serial}
use Rattle.numbers.specs.Results.Compact.{Compact}
use Rattle.numbers.specs.Results.Compact as compact
use Rattle.numbers.specs.Results.ExtendedGuid as id
use Rattle.numbers.specs.Results.ReadExtendedGuid.{ReadExtendedGuid}
use Rattle.numbers.specs.Results.ReadExtendedGuid as extended
use Rattle.numbers.specs.Results.Serial as number
use Rattle.numbers.specs.Results.ReadSerial.{ReadSerial}
use Rattle.numbers.specs.Results.ReadSerial as serial
use Rattle.numbers.proofs.Within.{CompactWithin, compact_within}
use Rattle.objects.specs.Header.{start_of, end_of, sized, header_of, header_at}
use Rattle.objects.specs.Steps.{place_of, id_on, id_here, serial_on, serial_here, number_on, run_here, closed_at, closed, Good, Behind, on_field}
use Rattle.objects.specs.Steps as steps
use Rattle.objects.specs.Results.Header.{ReadHeader}
use Rattle.objects.specs.Results.Header as header
use Rattle.objects.specs.Results.Reading.{Reading}
use Rattle.objects.specs.Results.Reading as reading
use Rattle.objects.proofs.StepsCarry.{opened_from}
use Rattle.talk.specs.Each.{Each}
use Rattle.talk.proofs.Things.{each_so}
use Rattle.store.specs.Chain.{Follows}
use Rattle.store.specs.Element.{same_key, named_key, numbered_key, fresh_key, key_here, id_field, serial_field, fields_of, opened, data_of, element_at, ids_in}
use Rattle.store.specs.Store.{store_walk, store_strictness, Stands}
use Rattle.store.specs.declared.element.Key.{Key}
use Rattle.store.specs.declared.element.Element.{Element}
use Rattle.store.specs.Results.ReadingKey.{At, ReadingKey, Refused}
use Rattle.store.specs.Results.ReadElement as element
use Rattle.store.specs.declared.element.Strictness.{Strictness}
use Rattle.store.proofs.Fields.{good_fields, element_parts}
use Rattle.store.proofs.Taken.{inside_past, element_some}
use Rattle.store.proofs.Chains.{store_read}

-- ---- a start has two bytes or four

abbrev pub StartLeast : ReadHeader → Type 0
StartLeast (header.Start k c n u) = 2 ≤ u
StartLeast (header.End k u) = Unit {0}
StartLeast (header.Refused r) = Unit {0}

sized_start : (at n span : ℕ) (t : List ℕ) → 2 ≤ n → StartLeast (sized at n (start_of span) t)
unfolding sized start_of
sized_start at n span t h = pick_all StartLeast (ltb (length t) n) _ _ (λ e. tt) (λ e. h)

sized_end : (at n : ℕ) (t : List ℕ) → StartLeast (sized at n end_of t)
unfolding sized end_of
sized_end at n t = pick_all StartLeast (ltb (length t) n) _ _ (λ e. tt) (λ e. tt)

pub header_least : (s : List ℕ) (at : ℕ) → StartLeast (header_at s at)
unfolding header_at header_of
header_least s at =
    let t = drop at s in
    pick_all StartLeast (eqb (length t) 0) _ _ (λ a. tt)
    (λ a.
    pick_all StartLeast (eqb (get_or t 0 0 % 4) 0) _ _ (λ b. sized_start at 2 64 t (omega arith))
    (λ b.
    pick_all StartLeast (eqb (get_or t 0 0 % 4) 1) _ _ (λ c. sized_end at 1 t)
    (λ c. pick_all StartLeast (eqb (get_or t 0 0 % 4) 2) _ _ (λ d. sized_start at 4 16384 t (omega arith)) (λ d. sized_end at 2 t))))

start_behind : (padding : Bool) (s : List ℕ) (at v : ℕ) (c : Reading) → opened padding s (reading.At at v) ≡ c → Behind (at + 2) c
start_behind padding s at v (reading.At from n) e =
    let o = opened_from padding s 0x15 0x01 true true at v from n e in
    let h : 2 ≤ o.used = subst StartLeast o.start (header_least s at) in
    let p = o.past in
    omega arith
start_behind padding s at v (reading.Refused r) e = tt

-- ---- an id that is not null

abbrev NamedLeast : ReadExtendedGuid → Type 0
NamedLeast (extended.Value id.Null n) = Unit {0}
NamedLeast (extended.Value (id.Named g x) n) = 17 ≤ n
NamedLeast (extended.Refused r) = Unit {0}

named_least : (n g x least : ℕ) (s : List ℕ) → 17 ≤ n → NamedLeast (named_of n g x least s)
unfolding named_of
named_least n g x least s h = pick_all NamedLeast (ltb (length s) n) _ _ (λ e. tt) (λ e. pick_all NamedLeast (ltb x least) _ _ (λ f. tt) (λ f. h))

form_least : (k : ℕ) (s : List ℕ) → NamedLeast (form_of_id k s)
unfolding form_of_id short_form long_form
form_least k s =
    pick_all NamedLeast (eqb k 2) _ _ (λ e. named_least 17 1 _ 0 s (omega arith))
    (λ e.
    pick_all NamedLeast (eqb k 5) _ _ (λ f. named_least 18 2 _ 0x20 s (omega arith))
    (λ f.
    pick_all NamedLeast (eqb k 6) _ _ (λ g. named_least 19 3 _ 0x400 s (omega arith))
    (λ g. pick_all NamedLeast (eqb k 7) _ _ (λ h. named_least 21 1 _ 0x20000 s (omega arith)) (λ h. tt))))

id_least : (s : List ℕ) → NamedLeast (read_extended_guid s)
unfolding read_extended_guid
id_least s =
    pick_all NamedLeast (eqb (length s) 0) _ _ (λ e. tt)
    (λ e. pick_all NamedLeast (eqb (get_or s 0 0) 0) _ _ (λ f. tt) (λ f. form_least (count_trailing_zeros 8 (get_or s 0 0)) s))

named_behind : (r : ReadExtendedGuid) → NamedLeast r → Behind 17 (on_field (named_key 0 (id_on 0 r)))
unfolding named_key on_field
named_behind (extended.Value id.Null n) h = tt
named_behind (extended.Value (id.Named g x) n) h = omega arith
named_behind (extended.Refused r) h = tt

-- what was read is where it was, or refused
fresh_behind : (p at : ℕ) (was : Bool) (c : ReadingKey) → Behind p (on_field c) → Behind p (on_field (fresh_key at was c))
unfolding fresh_key on_field
fresh_behind p at true (At q k) h = tt
fresh_behind p at false (At q k) h = h
fresh_behind p at was (Refused r) h = tt

id_behind : (ids : List Key) (d : List ℕ) → Behind 17 (on_field (id_field ids d))
unfolding id_field id_here
id_behind ids d =
    let c = named_key 0 (id_on 0 (read_extended_guid (drop 0 d))) in
    fresh_behind 17 0 (seen same_key (key_here c) ids) c (named_behind (read_extended_guid (drop 0 d)) (id_least (drop 0 d)))

-- ---- a serial number that is not null

abbrev NumberedLeast : ReadSerial → Type 0
NumberedLeast (serial.Value number.Null n) = Unit {0}
NumberedLeast (serial.Value (number.Numbered g x) n) = 25 ≤ n
NumberedLeast (serial.Refused r) = Unit {0}

serial_least : (s : List ℕ) → NumberedLeast (read_serial s)
unfolding read_serial numbered
serial_least s =
    let P = NumberedLeast in
    pick_all P (eqb (length s) 0) _ _ (λ e. tt)
    (λ e.
    pick_all P (eqb (get_or s 0 0) 0) _ _ (λ f. tt)
    (λ f. pick_all P (eqb (get_or s 0 0) 128) _ _ (λ g. pick_all P (ltb (length s) 25) _ _ (λ h. tt) (λ h. omega arith)) (λ g. tt)))

numbered_behind : (p place at : ℕ) (r : ReadSerial) → p ≤ at → NumberedLeast r → Behind (p + 25) (on_field (numbered_key place (serial_on at r)))
unfolding numbered_key on_field
numbered_behind p place at (serial.Value number.Null n) l h = tt
numbered_behind p place at (serial.Value (number.Numbered g x) n) l h = omega arith
numbered_behind p place at (serial.Refused r) l h = tt

serial_here_behind : (p : ℕ) (d : List ℕ) (c : Reading) → Behind p c → Behind (p + 25) (on_field (numbered_key (place_of c) (serial_here d c)))
unfolding serial_here numbered_key on_field
serial_here_behind p d (reading.At at v) h = numbered_behind p (place_of (reading.At at v)) at (read_serial (drop at d)) h (serial_least (drop at d))
serial_here_behind p d (reading.Refused r) h = tt

-- one that is judged
serial_behind : (p : ℕ) (judges : Bool) (d : List ℕ) (c : Reading) → judges ≡ true → Behind p c → Behind (p + 25) (on_field (serial_field judges d c))
unfolding serial_field
serial_behind p true d c j h = serial_here_behind p d c h
serial_behind p false d c j h = impossible (cc)

-- ---- the type, and the data

number_on_behind : (p at m : ℕ) (r : Compact) → p ≤ at → CompactWithin m r → Behind (p + 1) (number_on at r)
number_on_behind p at m (compact.Value v n padded) h w = omega arith
number_on_behind p at m (compact.Refused r) h w = tt

number_behind : (p : ℕ) (padding : Bool) (d : List ℕ) (c : Reading) → Behind p c → Behind (p + 1) (steps.number padding d c)
unfolding steps.number
number_behind p padding d (reading.At at v) h = number_on_behind p at (length (drop at d)) (compact_for padding (drop at d)) h (compact_within padding (drop at d))
number_behind p padding d (reading.Refused r) h = tt

fields_behind : (strict : Strictness) → strict.serials ≡ true → (ids : List Key) (d : List ℕ) → Behind 43 (fields_of strict ids d).last
unfolding fields_of
fields_behind strict j ids d =
    let c = on_field (id_field ids d) in
    number_behind 42 strict.padding d (on_field (serial_field strict.serials d c)) (serial_behind 17 strict.serials d c j (id_behind ids d))

closed_behind : (p n : ℕ) (s : List ℕ) (c f : Reading) → Behind p c → Behind n f → Good (run_here s c) f → Behind (p + n) (closed s c f)
unfolding closed_at
closed_behind p n s (reading.Refused r) f h g w = tt
closed_behind p n s (reading.At from k) (reading.Refused r) h g w = tt
closed_behind p n s (reading.At from k) (reading.At i v) h g w =
    let m = length (run_here s (reading.At from k)) in
    pick_all (Behind (p + n)) (ltb i m) _ _ (λ e. tt) (λ e. pick_all (Behind (p + n)) (ltb m k) _ _ (λ q. tt) (λ q. omega arith))

data_least : (strict : Strictness) → strict.serials ≡ true → (ids : List Key) (s : List ℕ) (at v : ℕ) → Behind (at + 45) (data_of strict ids s (reading.At at v))
unfolding data_of
data_least strict j ids s at v =
    let o = opened strict.padding s (reading.At at v) in
    let z : at + 2 + 43 ≡ at + 45 = omega arith in
    rw z
    at (closed_behind (at + 2) 43 s o (fields_of strict ids (run_here s o)).last (start_behind strict.padding s at v o refl)
    (fields_behind strict j ids (run_here s o)) (good_fields strict ids (run_here s o)))

-- ---- the element, and each of a store

-- it lies within, and has 46 bytes at least
abbrev Standing : List ℕ → Element → Type 0
Standing s x = (x.place + x.length ≤ length s) × (46 ≤ x.length)

element_least : (strict : Strictness) → strict.serials ≡ true → (ids : List Key) (s : List ℕ) (at v : ℕ) (x : Element)
    → element_at strict ids s (reading.At at v) ≡ element.Is x → Standing s x
unfolding place_of
element_least strict j ids s at v x h =
    let p = element_parts strict ids s (reading.At at v) x h in
    let w = element_some strict ids s at v x h in
    let b = inside_past strict.padding s (at + 45) strict.levels p.end p.stop (data_of strict ids s (reading.At at v)) (data_least strict j ids s at v) p.reached in
    let n = p.length' in
    (omega arith, omega arith)

chain_least : (strict : Strictness) → strict.serials ≡ true → (s : List ℕ) (done xs : List Element) (at e : ℕ) → Follows strict s done at xs e → Each (Standing s) xs
chain_least strict j s done [] at e c = tt
chain_least strict j s done (x ∷ xs) at e c =
    (element_least strict j (ids_in done) s at 0 x c.0, chain_least strict j s (done ++ (x ∷ [])) xs (x.place + x.length) e c.1)

store_standing : (s : List ℕ) → Stands (store_walk s).last → Each (Standing s) (store_walk s).elements
store_standing s h =
    let r = store_read s h in
    chain_least store_strictness refl s [] (store_walk s).elements r.first r.end r.chain

pub elements_within : (s : List ℕ) → Stands (store_walk s).last → Each (λ (x : Element). x.place + x.length ≤ length s) (store_walk s).elements
elements_within s h = each_so (Standing s) _ (store_walk s).elements (λ x w. w.0) (store_standing s h)

pub elements_least : (s : List ℕ) → Stands (store_walk s).last → Each (λ (x : Element). 46 ≤ x.length) (store_walk s).elements
elements_least s h = each_so (Standing s) _ (store_walk s).elements (λ x w. w.1) (store_standing s h)
