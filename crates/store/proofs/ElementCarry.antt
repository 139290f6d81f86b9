-- The bytes of an element that was read, set down anywhere, are read as the same element: with as many levels left or more, beside any
-- ids among which its own is not, and by whoever takes the numbers that its reader took and judges no serial numbers that it did not.
-- Assumes nothing.
use mathlib.Core.Path.{◌≡◌, refl, sym, ap, ◌∙◌}
use mathlib.Core.Bool.{Bool, true, false}
use mathlib.Core.List.{List, ◌++◌}
use Prim.Native.Nat.{ℕ, ◌+◌, ◌-◌, ◌≤◌}
use native.Mathlib.Omega.{arith}
use lib.ListN.{length, take, drop}
use lib.Seq.{drop-append_seam}
use Rattle.laws.specs.Once.{seen}
use Rattle.laws.proofs.Agreement.{Same, same_front}
use Rattle.laws.proofs.Cases.{impossible}
use Rattle.laws.proofs.Parts.{part_length}
use Rattle.numbers.specs.Results.Serial as number'
use Rattle.numbers.proofs.Padding.{Takes, takes_same}
use Rattle.objects.specs.Steps.{place_of, value_of, number, id_here, serial_here, start_here, run_here, inside, on_field}
use Rattle.objects.specs.Results.Reading.{Reading}
use Rattle.objects.specs.Results.Reading as reading
use Rattle.objects.specs.Results.ReadingSerial.{ReadingSerial}
use Rattle.objects.specs.Results.ReadingSerial as serial'
use Rattle.objects.proofs.StepsCarry.{Carries, Gives, carries_to, carries_then, gives_first, gives_next, gives_value, carries_start, carries_inside, carries_run, gives_run}
use Rattle.objects.proofs.StepsTaken.{number_taken, start_taken, inside_deeper}
use Rattle.store.specs.Element.{same_key, named_key, numbered_key, any_key, fresh_key, key_here, judged, id_field, serial_field, fields_of, opened, data_of, element_on, element_at}
use Rattle.store.specs.Store.{Stands}
use Rattle.store.specs.declared.element.Key.{Key}
use Rattle.store.specs.declared.element.Element.{Element}
use Rattle.store.specs.Results.ReadingKey.{At, ReadingKey, Refused}
use Rattle.store.specs.Results.ReadElement.{Is}
use Rattle.store.specs.declared.element.Strictness.{Strictness}
use Rattle.store.proofs.Fields.{element_parts}
use Rattle.store.proofs.Taken.{StandsKey, stands_closed, fresh_stands, keys_stand, data_stands, element_some}

-- ---- beside other keys, for whoever is no stricter than its reader

-- what stands is the same, if it is wherever it is a place
pub stands_same : (c d : Reading) → Stands c → ((q v : ℕ) → c ≡ reading.At q v → d ≡ reading.At q v) → d ≡ c
stands_same (reading.At q v) d h f = f q v refl
stands_same (reading.Refused r) d h f = absurd h

new_key : (p : ℕ) (c : ReadingKey) → fresh_key p false c ≡ c
unfolding fresh_key
new_key p (At q k) = refl
new_key p (Refused r) = refl

judged_beside : (before before' : List Key) (p : ℕ) (c : ReadingKey) → StandsKey (judged before p c) → seen same_key (key_here (judged before p c)) before' ≡ false
    → judged before' p c ≡ judged before p c
judged_beside before before' p c h e =
    let f = (fresh_stands p (seen same_key (key_here c) before) c h).1 in
    let g : seen same_key (key_here c) before' ≡ false = rw f at e in
    rw g (new_key p c ∙ sym f)

-- a serial number that stands and is not null is the same key, judged or not
numbered_any : (p : ℕ) (c : ReadingSerial) → StandsKey (numbered_key p c) → any_key c ≡ numbered_key p c
unfolding numbered_key any_key
numbered_any p (serial'.At q number'.Null) h = absurd h
numbered_any p (serial'.At q (number'.Numbered g x)) h = refl
numbered_any p (serial'.Refused r) h = refl

pub serial_beside : (judges other : Bool) → (other ≡ true → judges ≡ true) → (d : List ℕ) (c : Reading) → StandsKey (serial_field judges d c)
    → serial_field other d c ≡ serial_field judges d c
unfolding serial_field
serial_beside true true m d c h = refl
serial_beside true false m d c h = numbered_any (place_of c) (serial_here d c) h
serial_beside false true m d c h = let e = m refl in impossible (cc)
serial_beside false false m d c h = refl

-- `other` takes the numbers that `strict` takes, leaves as many levels or more, and judges serial numbers only where `strict` does
pub record Wider (strict other : Strictness) : Type 0 where
  pub takes : Takes strict.padding other.padding
  pub deeper : strict.levels ≤ other.levels
  pub judges : other.serials ≡ true → strict.serials ≡ true

pub wider_same : (strict : Strictness) → Wider strict strict
wider_same strict = record { takes = takes_same strict.padding; deeper = omega arith; judges = λ j. j }

fields_beside : (strict other : Strictness) → Wider strict other → (ids ids' : List Key) (d : List ℕ) → Stands (fields_of strict ids d).last
    → seen same_key (fields_of strict ids d).id ids' ≡ false → fields_of other ids' d ≡ fields_of strict ids d
unfolding fields_of id_field
fields_beside strict other wider ids ids' d h i =
    let w = keys_stand strict ids d h in
    let c = on_field (id_field ids d) in
    let a : id_field ids' d ≡ id_field ids d = judged_beside ids ids' 0 (named_key 0 (id_here d (reading.At 0 0))) w.0 i in
    let b : serial_field other.serials d c ≡ serial_field strict.serials d c =
    serial_beside strict.serials other.serials wider.judges d c w.1 in
    let k = on_field (serial_field strict.serials d c) in
    let n : number other.padding d k ≡ number strict.padding d k =
    stands_same (number strict.padding d k) (number other.padding d k) h (number_taken strict.padding other.padding wider.takes d k) in
    rw (a, b, n)

-- where it stands, and whatever number was read before
pub element_beside : (strict other : Strictness) → Wider strict other → (s : List ℕ) (p u v : ℕ) (ids ids' : List Key) (x : Element)
    → element_at strict ids s (reading.At p u) ≡ Is x → seen same_key x.id ids' ≡ false
    → element_at other ids' s (reading.At p v) ≡ Is x
unfolding element_at data_of start_here place_of
element_beside strict other wider s p u v ids ids' x h i =
    let c = reading.At p u in
    let g = element_parts strict ids s c x h in
    let o = opened strict.padding s c in
    let k = run_here s o in
    let w = stands_closed s o (fields_of strict ids k).last (data_stands strict ids s c x h) in
    let a : opened other.padding s c ≡ o = stands_same o (opened other.padding s c) w.0 (start_taken strict.padding other.padding wider.takes s 0x15 0x01 true true c) in
    let f = fields_beside strict other wider ids ids' k w.1 (rw g.id at i) in
    let n = inside_deeper strict.padding other.padding wider.takes s strict.levels other.levels 0x01 (data_of strict ids s c) g.end g.stop wider.deeper g.reached in
    rw (a, f, n) (rw g.reached at h)

-- ---- at another place

module _ (strict : Strictness) (ids : List Key) where
  abbrev step : List ℕ → Reading → Reading
  step s c = inside strict.padding s strict.levels 0x01 (data_of strict ids s c)

  carries_data : Carries (data_of strict ids)
  unfolding data_of
  carries_data = carries_then (carries_start strict.padding 0x15 0x01 true true) (carries_run (λ d. (fields_of strict ids d).last))

  carries_element : Carries step
  carries_element = carries_then carries_data (carries_inside strict.padding strict.levels 0x01)

  gives_kind : Gives step (λ s c. value_of (data_of strict ids s c))
  gives_kind = gives_first carries_data (carries_inside strict.padding strict.levels 0x01) (gives_value carries_data)

  gives_data_run : Gives (data_of strict ids) (λ s c. run_here s (opened strict.padding s c))
  unfolding data_of
  gives_data_run = let f : List ℕ → Reading = λ d. (fields_of strict ids d).last in gives_next (carries_start strict.padding 0x15 0x01 true true) (carries_run f) (gives_run f)

  pub element_there : (s : List ℕ) (p u : ℕ) (x : Element) → element_at strict ids s (reading.At p u) ≡ Is x → (t : List ℕ) (p' : ℕ) → Same s p t p' x.length
      → element_at strict ids t (reading.At p' u) ≡ Is (record { place = p'; length = x.length; kind = x.kind; id = x.id; serial = x.serial })
  unfolding element_at element_on place_of
  element_there s p u x h t p' a =
      let c = reading.At p u in
      let g = element_parts strict ids s c x h in
      let n = x.length in
      let y = (element_some strict ids s p u x h).1 in
      let q : g.end ≡ p + n = let z = g.length' in omega arith in
      let e : step s c ≡ reading.At (p + n) g.stop = g.reached ∙ ap (λ (m : ℕ). reading.At m g.stop) q in
      let r = (gives_first carries_data (carries_inside strict.padding strict.levels 0x01) gives_data_run).alike s p u n g.stop e t p' a in
      let k = gives_kind.alike s p u n g.stop e t p' a in
      let o : p' + n - p' ≡ n = omega arith in
      rw (r, k, carries_to carries_element s p u n g.stop e t p' a, o, g.kind, g.id, g.serial)

pub element_carry : (strict other : Strictness) → Wider strict other → (s : List ℕ) (p u v : ℕ) (ids ids' : List Key) (x : Element)
    → element_at strict ids s (reading.At p u) ≡ Is x → (pre post : List ℕ) → seen same_key x.id ids' ≡ false
    → element_at other ids' (pre ++ (take x.length (drop p s) ++ post)) (reading.At (length pre) v)
    ≡ Is (record { place = length pre; length = x.length; kind = x.kind; id = x.id; serial = x.serial })
element_carry strict other wider s p u v ids ids' x h pre post i =
    let w = take x.length (drop p s) in
    let g = element_some strict ids s p u x h in
    let n : length w ≡ x.length = part_length p x.length s g.2 in
    element_there other ids' s p v x (element_beside strict other wider s p u v ids ids' x h i) (pre ++ (w ++ post)) (length pre)
    (same_front s p x.length (pre ++ (w ++ post)) (length pre) post n (drop-append_seam pre (w ++ post)))
