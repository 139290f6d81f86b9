-- An element that was read had no fault on the way: its id was not seen before. It stands where it was looked for, is not empty and ends
-- within the input.
-- Assumes nothing.
use mathlib.Core.Path.{◌≡◌, refl, sym, subst}
use mathlib.Core.Bool.{Bool, true, false}
use mathlib.Core.List.{List}
use Prim.Native.Nat.{ℕ, ◌+◌, ◌<◌, ◌≤◌}
use native.Mathlib.Omega.{arith}
use lib.ListN.{length}
use Rattle.laws.specs.Once.{seen}
use Rattle.laws.proofs.Cases.{impossible}
use Rattle.numbers.specs.declared.refusal.Refusal.{Refusal}
use Rattle.objects.specs.Nesting.{run_at}
use Rattle.objects.specs.Steps.{place_of, serial_here, id_here, run_here, closed_at, closed, inside, number, Behind, on_field}
use Rattle.objects.specs.Results.Reading.{Reading}
use Rattle.objects.specs.Results.Reading as reading
use Rattle.objects.proofs.Ahead.{run_next}
use Rattle.objects.proofs.Keep.{behind_place}
use Rattle.objects.proofs.StepsCarry.{inside_on_lem}
use Rattle.store.specs.Element.{same_key, named_key, numbered_key, any_key, fresh_key, key_here, judged, id_field, serial_field, fields_of, opened, data_of, element_at}
use Rattle.store.specs.Store.{Stands}
use Rattle.store.specs.declared.element.Key.{Key}
use Rattle.store.specs.declared.element.Element.{Element}
use Rattle.store.specs.Results.ReadingKey.{At, ReadingKey, Refused}
use Rattle.store.specs.Results.ReadElement as element
use Rattle.store.specs.declared.element.Strictness.{Strictness}
use Rattle.store.proofs.Fields.{onward_data, element_parts}

-- no fault stands
abbrev pub StandsKey : ReadingKey → Type 0
StandsKey (At q k) = Unit {0}
StandsKey (Refused r) = ⊥

-- ---- no step takes a fault away

pub stands_before : (step : Reading → Reading) → ((r : Refusal) → step (reading.Refused r) ≡ reading.Refused r) → (c : Reading) → Stands (step c) → Stands c
stands_before step fault (reading.At p v) h = tt
stands_before step fault (reading.Refused r) h = subst Stands (fault r) h

pub stands_inside : (padding : Bool) (s : List ℕ) (depth kind : ℕ) (c : Reading) → Stands (inside padding s depth kind c) → Stands c
unfolding inside
stands_inside padding s depth kind = stands_before (inside padding s depth kind) (λ r. refl)

pub stands_closed : (s : List ℕ) (c f : Reading) → Stands (closed s c f) → Stands c × Stands f
unfolding closed_at
stands_closed s (reading.Refused r) f h = absurd h
stands_closed s (reading.At from n) (reading.Refused r) h = absurd h
stands_closed s (reading.At from n) (reading.At p v) h = (tt, tt)

pub stands_number : (padding : Bool) (d : List ℕ) (c : Reading) → Stands (number padding d c) → Stands c
unfolding number
stands_number padding d = stands_before (number padding d) (λ r. refl)

stands_on : (k : ReadingKey) → Stands (on_field k) → StandsKey k
unfolding on_field
stands_on (At q k) h = tt
stands_on (Refused r) h = h

-- a key that was judged and stands was not seen before, and is the one that was read
pub fresh_stands : (p : ℕ) (was : Bool) (c : ReadingKey) → StandsKey (fresh_key p was c) → (was ≡ false) × (fresh_key p was c ≡ c) × StandsKey c
unfolding fresh_key
fresh_stands p true (At q k) h = absurd h
fresh_stands p false (At q k) h = (refl, refl, tt)
fresh_stands p was (Refused r) h = absurd h

unseen : (p : ℕ) (before : List Key) (c : ReadingKey) → StandsKey (judged before p c) → seen same_key (key_here (judged before p c)) before ≡ false
unseen p before c h =
    let f = fresh_stands p (seen same_key (key_here c) before) c h in
    rw f.1 f.0

stands_serial_field : (judges : Bool) (d : List ℕ) (c : Reading) → StandsKey (serial_field judges d c) → Stands c
unfolding serial_field numbered_key any_key serial_here
stands_serial_field judges d (reading.At p v) h = tt
stands_serial_field true d (reading.Refused r) h = h
stands_serial_field false d (reading.Refused r) h = h

-- ---- the fields

pub keys_stand : (strict : Strictness) (ids : List Key) (d : List ℕ) → Stands (fields_of strict ids d).last
    → StandsKey (id_field ids d) × StandsKey (serial_field strict.serials d (on_field (id_field ids d)))
unfolding fields_of
keys_stand strict ids d h =
    let c = on_field (id_field ids d) in
    let f = serial_field strict.serials d c in
    let k = stands_on f (stands_number strict.padding d (on_field f) h) in
    (stands_on (id_field ids d) (stands_serial_field strict.serials d c k), k)

pub fields_unseen : (strict : Strictness) (ids : List Key) (d : List ℕ) → Stands (fields_of strict ids d).last → seen same_key (fields_of strict ids d).id ids ≡ false
unfolding fields_of id_field
fields_unseen strict ids d h = unseen 0 ids (named_key 0 (id_here d (reading.At 0 0))) (keys_stand strict ids d h).0

-- ---- the element

pub data_stands : (strict : Strictness) (ids : List Key) (s : List ℕ) (c : Reading) (x : Element) → element_at strict ids s c ≡ element.Is x
    → Stands (data_of strict ids s c)
data_stands strict ids s c x h =
    let p = element_parts strict ids s c x h in
    stands_inside strict.padding s strict.levels 0x01 (data_of strict ids s c) (subst Stands (sym p.reached) tt)

pub element_unseen : (strict : Strictness) (ids : List Key) (s : List ℕ) (c : Reading) (x : Element) → element_at strict ids s c ≡ element.Is x
    → seen same_key x.id ids ≡ false
unfolding data_of
element_unseen strict ids s c x h =
    let p = element_parts strict ids s c x h in
    let o = opened strict.padding s c in
    let f = fields_of strict ids (run_here s o) in
    let w = stands_closed s o f.last (data_stands strict ids s c x h) in
    rw p.id (fields_unseen strict ids (run_here s o) w.1)

-- ---- where it stands

pub inside_past : (padding : Bool) (s : List ℕ) (p depth e v : ℕ) (c : Reading) → Behind p c → inside padding s depth 0x01 c ≡ reading.At e v → (p < e) × (e ≤ length s)
unfolding inside
inside_past padding s p depth e v (reading.At q u) h i =
    let w = run_next padding s q depth 0x01 e (inside_on_lem (run_at padding s q depth 0x01) e v i).0 in
    (omega arith, omega arith)
inside_past padding s p depth e v (reading.Refused r) h i = impossible (cc)

pub element_some : (strict : Strictness) (ids : List Key) (s : List ℕ) (at v : ℕ) (x : Element) → element_at strict ids s (reading.At at v) ≡ element.Is x
    → (x.place ≡ at) × (0 < x.length) × (at + x.length ≤ length s)
unfolding place_of
element_some strict ids s at v x h =
    let p = element_parts strict ids s (reading.At at v) x h in
    let b = inside_past strict.padding s at strict.levels p.end p.stop (data_of strict ids s (reading.At at v)) ((onward_data strict ids s (reading.At at v)).behind at (behind_place (reading.At at v))) p.reached in
    let n = p.length' in
    (p.place, omega arith, omega arith)
