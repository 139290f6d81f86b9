-- A store in which no serial number stands twice is read as it was when that was refused with 11 (`base_walk` in specs/Base.antt): the same
-- elements, to the same place. A reader needs `read_unshared` alone.
-- Assumes nothing.
use mathlib.Core.Path.{◌≡◌, refl, sym, ap, ◌∙◌}
use mathlib.Core.Bool.{Bool, true, false}
use mathlib.Core.List.{List, [], ◌∷◌, ◌++◌, map, append_assoc, append-nil, map-append}
use Prim.Native.Nat.{ℕ, zero, suc, ◌+◌}
use lib.ListN.{length}
use lib.Dec.{ltb}
use Rattle.laws.specs.Once.{seen, once}
use Rattle.laws.proofs.Cases.{by_bool}
use Rattle.laws.proofs.Twice.{once_before}
use Rattle.laws.specs.Pick.{pick}
use Rattle.numbers.specs.Refusals.{longest_input, over_long}
use Rattle.objects.specs.Steps.{run_here, nothing_open, finish, next_is, on_field}
use Rattle.objects.specs.Types.{element_type}
use Rattle.objects.specs.Results.Reading.{Reading}
use Rattle.objects.specs.Results.Reading as reading
use Rattle.store.specs.Element.{same_key, fresh_key, key_here, id_field, serial_field, fields_of, opened, data_of, element_on, element_at, ids_in}
use Rattle.store.specs.Store.{store_padding, store_strictness, package_start, Walk, walked, on_element, finished, walk_from, store_walk, Stands}
use Rattle.store.specs.Tables.{most_elements}
use Rattle.store.specs.declared.element.Element.{Element}
use Rattle.store.specs.declared.element.Fields.{Fields}
use Rattle.store.specs.declared.element.Key.{Key}
use Rattle.store.specs.Results.ReadElement.{ReadElement}
use Rattle.store.specs.Results.ReadElement as element
use Rattle.store.specs.Results.ReadingKey.{At, ReadingKey, Refused}
use Rattle.store.proofs.Chains.{same_turn}
use Rattle.evidence.specs.Base.{base_serial_field, base_fields_of, base_data_of, base_element_at, base_walk_from, base_walk}
use Rattle.evidence.specs.Talk.{serial_of, elements_of}
use Rattle.evidence.proofs.Unshared.{Unshared}

-- ---- one element

-- a key that was not seen is as it was read
fresh_unseen : (p : ℕ) (k : ReadingKey) → fresh_key p false k ≡ k
unfolding fresh_key
fresh_unseen p (At q k) = refl
fresh_unseen p (Refused r) = refl

-- the serial number of an element that was read is that of its fields
serial_read : (at : ℕ) (f : Fields) (kind : ℕ) (c : Reading) (x : Element) → element_on at f kind c ≡ element.Is x → x.serial ≡ f.serial
unfolding element_on
serial_read at f kind (reading.At e v) x h = sym (ap told h)
  where
    told : ReadElement → Key
    told (element.Is y) = y.serial
    told (element.Refused r) = f.serial
serial_read at f kind (reading.Refused r) x h = sym (ap told h)
  where
    told : ReadElement → Key
    told (element.Is y) = y.serial
    told (element.Refused r) = f.serial

module _ (ids serials : List Key) (s : List ℕ) (c : Reading) where
  abbrev data_run : List ℕ
  data_run = run_here s (opened store_padding s c)

  abbrev now_read : ReadingKey
  now_read = serial_field true data_run (on_field (id_field ids data_run))

  module _ (unseen : seen same_key (key_here now_read) serials ≡ false) where
    same_serial : base_serial_field serials data_run (on_field (id_field ids data_run)) ≡ now_read
    unfolding base_serial_field
    same_serial = rw unseen (fresh_unseen _ now_read)

    same_fields : base_fields_of ids serials data_run ≡ fields_of store_strictness ids data_run
    unfolding base_fields_of fields_of
    same_fields = rw same_serial

    same_data : base_data_of ids serials s c ≡ data_of store_strictness ids s c
    unfolding base_data_of data_of
    same_data = rw same_fields

    same_element : base_element_at ids serials s c ≡ element_at store_strictness ids s c
    unfolding base_element_at element_at
    same_element = rw (same_fields, same_data)

  serial_of_read : (x : Element) → element_at store_strictness ids s c ≡ element.Is x → x.serial ≡ key_here now_read
  unfolding element_at fields_of
  serial_of_read x h = serial_read _ _ _ _ x h

  read_element : (x : Element) → element_at store_strictness ids s c ≡ element.Is x → seen same_key x.serial serials ≡ false → base_element_at ids serials s c ≡ element.Is x
  read_element x h u = same_element (ap (λ (k : Key). seen same_key k serials) (sym (serial_of_read x h)) ∙ u) ∙ h

-- ---- all of them

-- the elements that were read before stand first
record Extends (done : List Element) (w : Walk) : Type 0 where
  more : List Element
  split : w.elements ≡ done ++ more

extends_on : (left : ℕ) (s : List ℕ) (done : List Element) (r : ReadElement)
    → ((x : Element) → Extends (done ++ (x ∷ [])) (walk_from store_strictness left s (done ++ (x ∷ [])) (reading.At (x.place + x.length) 0)))
    → Extends done (on_element (λ more e. walk_from store_strictness left s more e) done r)
extends_on left s done (element.Is x) f = let e = f x in record { more = x ∷ e.more; split = e.split ∙ append_assoc done (x ∷ []) e.more }
extends_on left s done (element.Refused r) f = record { more = []; split = sym (append-nil done) }

extends : (left : ℕ) (s : List ℕ) (done : List Element) (c : Reading) → Extends done (walk_from store_strictness left s done c)
unfolding walk_from
extends zero s done c =
    by_bool (next_is s element_type c) (λ e. rw e (record { more = []; split = sym (append-nil done) })) (λ e. rw e (record { more = []; split = sym (append-nil done) }))
extends (suc left) s done c =
    by_bool (next_is s element_type c)
    (λ e. rw e (extends_on left s done (element_at store_strictness (ids_in done) s c) (λ x. extends left s (done ++ (x ∷ [])) (reading.At (x.place + x.length) 0))))
    (λ e. rw e (record { more = []; split = sym (append-nil done) }))

-- one that was read has not the serial number of one before it
unseen_before : (left : ℕ) (s : List ℕ) (done : List Element) (x : Element) (c : Reading) → Unshared (walk_from store_strictness left s (done ++ (x ∷ [])) c).elements
    → seen same_key x.serial (map serial_of done) ≡ false
unseen_before left s done x c h =
    let e = extends left s (done ++ (x ∷ [])) c in
    let parts : map serial_of (walk_from store_strictness left s (done ++ (x ∷ [])) c).elements ≡ map serial_of done ++ (x.serial ∷ map serial_of e.more) =
    ap (map serial_of) (e.split ∙ append_assoc done (x ∷ []) e.more) ∙ map-append serial_of done (x ∷ e.more) in
    once_before same_key same_turn x.serial (map serial_of done) (map serial_of e.more) (sym (ap (once same_key) parts) ∙ h)

on_element_lem : (left : ℕ) (s : List ℕ) (done : List Element) (c : Reading) (r : ReadElement) → element_at store_strictness (ids_in done) s c ≡ r
    → ((x : Element) → Stands (walk_from store_strictness left s (done ++ (x ∷ [])) (reading.At (x.place + x.length) 0)).last
    → Unshared (walk_from store_strictness left s (done ++ (x ∷ [])) (reading.At (x.place + x.length) 0)).elements
    → base_walk_from left s (done ++ (x ∷ [])) (reading.At (x.place + x.length) 0) ≡ walk_from store_strictness left s (done ++ (x ∷ [])) (reading.At (x.place + x.length) 0))
    → Stands (on_element (λ more e. walk_from store_strictness left s more e) done r).last → Unshared (on_element (λ more e. walk_from store_strictness left s more e) done r).elements
    → on_element (λ more e. base_walk_from left s more e) done (base_element_at (ids_in done) (map serial_of done) s c) ≡ on_element (λ more e. walk_from store_strictness left s more e) done r
on_element_lem left s done c (element.Is x) e f h u =
    ap (on_element (λ more d. base_walk_from left s more d) done) (read_element (ids_in done) (map serial_of done) s c x e (unseen_before left s done x _ u)) ∙ f x h u
on_element_lem left s done c (element.Refused r) e f h u = absurd h

walk_unshared : (left : ℕ) (s : List ℕ) (done : List Element) (c : Reading) → Stands (walk_from store_strictness left s done c).last → Unshared (walk_from store_strictness left s done c).elements
    → base_walk_from left s done c ≡ walk_from store_strictness left s done c
unfolding walk_from base_walk_from
walk_unshared zero s done c = λ h u. refl
walk_unshared (suc left) s done c =
    by_bool (next_is s element_type c)
    (λ e.
    rw e
    (on_element_lem left s done c (element_at store_strictness (ids_in done) s c) refl
    (λ x h u. walk_unshared left s (done ++ (x ∷ [])) (reading.At (x.place + x.length) 0) h u)))
    (λ e. rw e (λ h u. refl))

-- ---- a store: one that is read, and in which no serial number stands twice

finish_stands : (s : List ℕ) (c : Reading) → Stands (finish s c) → Stands c
unfolding finish
finish_stands s (reading.At e v) h = tt
finish_stands s (reading.Refused r) h = h

-- what follows from it behind the look at the length, and with the last byte
whole_unshared : (long : Bool) (s : List ℕ) (w v : Walk) → (Stands w.last → Unshared w.elements → v ≡ w)
    → Stands (pick long (walked [] (reading.Refused over_long)) (finished s w)).last → Unshared (pick long (walked [] (reading.Refused over_long)) (finished s w)).elements
    → pick long (walked [] (reading.Refused over_long)) (finished s v) ≡ pick long (walked [] (reading.Refused over_long)) (finished s w)
whole_unshared true s w v f h u = refl
whole_unshared false s w v f h u = ap (finished s) (f (finish_stands s w.last h) u)

pub read_unshared : (s : List ℕ) → Stands (store_walk s).last → Unshared (elements_of s) → base_walk s ≡ store_walk s
unfolding store_walk base_walk
read_unshared s h u =
    whole_unshared (ltb longest_input (length s)) s _ _ (walk_unshared most_elements s [] (package_start store_padding nothing_open s (reading.At 0 0))) h u
