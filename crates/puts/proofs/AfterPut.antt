-- Where a put is answered (document 02, Q-1): both inputs read; the new store reads, and has each element that was handed in, with a new
-- serial number, each element of the store whose id was not handed in, as it was, and no other; and the answer's knowledge holds exactly
-- the serial numbers that are then stored.
-- Assumes nothing.
use mathlib.Core.Path.{◌≡◌, refl, sym, ap, subst, ◌∙◌}
use mathlib.Core.Bool.{true, false}
use mathlib.Core.List.Memᴰ.{map as in_map}
use mathlib.Core.List.Memᴰ.{of_map}
use mathlib.Core.List.{List, [], map, Memᴰ as In}
use mathlib.Core.Logic.{◌↔◌}
use Prim.Native.Nat.{ℕ, ◌+◌, ◌≤◌}
use lib.ListN.{length}
use Rattle.laws.specs.Bytes.{AllBytes}
use Rattle.laws.specs.Once.{seen, once}
use Rattle.laws.proofs.Cases.{impossible}
use Rattle.numbers.specs.Guid.{GuidFits}
use Rattle.numbers.specs.Results.ExtendedGuid.{ExtendedGuid}
use Rattle.numbers.specs.declared.guid.Guid.{Guid}
use Rattle.objects.specs.Results.Reading.{Reading}
use Rattle.objects.specs.Results.Reading as reading
use Rattle.talk.specs.Each.{Each}
use Rattle.ranges.specs.Ranged.{knows}
use Rattle.store.specs.Element.{key_of, same_key, ids_in}
use Rattle.store.specs.Held.{stored_bytes}
use Rattle.store.specs.Store.{store_walk, Stands}
use Rattle.store.specs.Written.{written_element, content_in}
use Rattle.store.specs.declared.element.Key.{Key}
use Rattle.store.specs.declared.element.Element.{Element}
use Rattle.store.proofs.Chains.{store_read, ids_once}
use Rattle.puts.specs.Applied.{entered, last_number, on_put, on_store, put_outcome}
use Rattle.enter.specs.Entering.{Kept, kept_id}
use Rattle.puts.specs.NewStore.{entering, entering_from, highest_under, first_number, new_elements, ranges_of, staying}
use Rattle.puts.specs.Put.{put_walk, put_read, put_in}
use Rattle.enter.proofs.EnteringLaws.{named, unnamed_stays, all_come}
use Rattle.enter.proofs.Keys.{unseen_member, once_one}
use Rattle.puts.proofs.Known.{Tells, answer_tells}
use Rattle.enter.proofs.Members.{of_each}
use Rattle.enter.proofs.PackageReads.{ComesFrom, stays, enters, ReadsAs}
use Rattle.puts.proofs.NewStoreReads.{new_store_reads}
use Rattle.puts.proofs.PutChain.{put_ids_once}
use Rattle.puts.proofs.Refusals.{elements_after, store_bytes, answer, nothing_refused}
use Rattle.enter.proofs.KeptIn.{kept_serial, kept_in_parts}
use Rattle.puts.proofs.Serials.{entering_ids, all_enter}

-- ---- where a put is answered, both inputs read

store_on : (s : List ℕ) (all : List Element) (q : List ℕ) (g : Guid) (storeRoom room : ℕ) (c : Reading) (a w : List ℕ)
    → on_store s all q g storeRoom room c ≡ entered a w → Stands c × (on_put s all q g storeRoom room (put_in q) ≡ entered a w)
unfolding on_store
store_on s all q g storeRoom room (reading.At e v) a w h = (tt, h)
store_on s all q g storeRoom room (reading.Refused r) a w h = impossible (cc)

put_on : (s : List ℕ) (all : List Element) (q : List ℕ) (g : Guid) (storeRoom room id : ℕ) (expected : ExtendedGuid) (n : ℕ) (c : Reading) (a w : List ℕ)
    → on_put s all q g storeRoom room (put_read c id expected n) ≡ entered a w → Stands c
unfolding on_put put_read
put_on s all q g storeRoom room id expected n (reading.At e v) a w h = tt
put_on s all q g storeRoom room id expected n (reading.Refused r) a w h = impossible (cc)

pub both_read : (s q : List ℕ) (g : Guid) (storeRoom room : ℕ) (a w : List ℕ) → put_outcome s q g storeRoom room ≡ entered a w → Stands (store_walk s).last × Stands (put_walk q).last
unfolding put_outcome put_in
both_read s q g storeRoom room a w h =
    let r = store_on s (store_walk s).elements q g storeRoom room (store_walk s).last a w h in
    (r.0, put_on s (store_walk s).elements q g storeRoom room _ _ _ (put_walk q).last a w r.1)

-- ---- what the new store has, in its own words

pub staying_parts : (s : List ℕ) (x : Element) → ((staying s x).id ≡ x.id) × ((staying s x).serial ≡ x.serial) × ((staying s x).bytes ≡ stored_bytes s x)
staying_parts = kept_in_parts

pub entering_parts : (q : List ℕ) (k : Key) (x : Element) → ((entering q k x).id ≡ x.id) × ((entering q k x).serial ≡ k) × ((entering q k x).bytes ≡ written_element (content_in q x k))
unfolding entering
entering_parts q k x = (refl, refl, refl)

-- an element of the new store that is as one of the store was
pub record Stayed (s w : List ℕ) (x : Element) : Type 0 where
  pub element : Element
  pub among : In element (store_walk w).elements
  pub id : element.id ≡ x.id
  pub serial : element.serial ≡ x.serial
  pub kind : element.kind ≡ x.kind
  pub bytes : stored_bytes w element ≡ stored_bytes s x

-- an element of the new store that was handed in: with a serial number under the hub's GUID
pub record Entered (q w : List ℕ) (g : Guid) (x : Element) : Type 0 where
  pub element : Element
  pub among : In element (store_walk w).elements
  pub number : ℕ
  pub id : element.id ≡ x.id
  pub serial : element.serial ≡ key_of g number
  pub kind : element.kind ≡ x.kind
  pub bytes : stored_bytes w element ≡ written_element (content_in q x (key_of g number))

pub record AfterPut (s q : List ℕ) (g : Guid) (a w : List ℕ) : Type 0 where
  pub reads : Stands (store_walk w).last
  pub elements : map (staying w) (store_walk w).elements ≡ elements_after s q g
  pub stayed : (x : Element) → In x (store_walk s).elements → seen same_key x.id (ids_in (put_walk q).elements) ≡ false → Stayed s w x
  pub handed : (x : Element) → In x (put_walk q).elements → Entered q w g x
  pub no_other : Each (λ (x : Element). ComesFrom (store_walk s).elements (put_walk q).elements x.id x.kind) (store_walk w).elements
  pub answers : a ≡ answer s q g
  pub knows_stored : (h : Guid) (n : ℕ) → GuidFits h
      → (knows (ranges_of [] (elements_after s q g)) h n ≡ true) ↔ ((x : Element) × In x (store_walk w).elements × (x.serial ≡ key_of h n))

abbrev id_of : Element → Key
id_of x = x.id

abbrev kind_of : Element → ℕ
kind_of x = x.kind

-- the type, by the id alone
handed_kind : (all handed : List Element) → once same_key (ids_in handed) ≡ true → (x : Element) → In x handed → (id : Key) (kind : ℕ) → ComesFrom all handed id kind → id ≡ x.id → kind ≡ x.kind
handed_kind all handed o x m id kind (stays z n i k u) e = absurd (unseen_member id_of id handed u m (sym e))
handed_kind all handed o x m id kind (enters z n i k) e = sym k ∙ ap kind_of (once_one id_of handed o n m (i ∙ e))

stayed_kind : (all handed : List Element) → once same_key (ids_in all) ≡ true → (x : Element) → In x all → seen same_key x.id (ids_in handed) ≡ false
    → (id : Key) (kind : ℕ) → ComesFrom all handed id kind → id ≡ x.id → kind ≡ x.kind
stayed_kind all handed o x m h id kind (stays z n i k u) e = sym k ∙ ap kind_of (once_one id_of all o n m (i ∙ e))
stayed_kind all handed o x m h id kind (enters z n i k) e = absurd (unseen_member id_of x.id handed h n (i ∙ e))

module _ (s q : List ℕ) (g : Guid) (store_Bytes : AllBytes s) (store_reads : Stands (store_walk s).last) (put_reads : Stands (put_walk q).last) (fits : GuidFits g)
    (left : highest_under g (store_walk s).elements + length (put_walk q).elements ≤ last_number)
    (r : ReadsAs (store_walk s).elements (put_walk q).elements (elements_after s q g)) where
  abbrev all : List Element
  all = (store_walk s).elements

  abbrev put : List Element
  put = (put_walk q).elements

  abbrev new : List Kept
  new = elements_after s q g

  abbrev before : List Kept
  before = map (staying s) all

  abbrev come : List Kept
  come = entering_from q g (first_number g all) put

  abbrev after : List ℕ
  after = store_bytes s q g

  read_there : (k : Kept) → In k new → (y : Element) × In y (store_walk after).elements × (staying after y ≡ k)
  read_there k m = of_map (staying after) (store_walk after).elements (subst (In k) (sym r.elements) m)

  source : (y : Element) → In y (store_walk after).elements → ComesFrom all put y.id y.kind
  source y m = of_each (λ (x : Element). ComesFrom all put x.id x.kind) (store_walk after).elements r.types y m

  stayed_in : (x : Element) → In x all → seen same_key x.id (ids_in put) ≡ false → In (staying s x) new
  unfolding new_elements
  stayed_in x m h =
      let e : named come (staying s x) ≡ false = ap (λ (k : Key). seen same_key k (map kept_id come)) (kept_in_parts s x).0 ∙ ap (seen same_key x.id) (entering_ids q g (first_number g all) put) ∙ h in
      unnamed_stays before come (staying s x) (in_map (staying s) m) e

  stayed_there : (x : Element) → In x all → seen same_key x.id (ids_in put) ≡ false → Stayed s after x
  stayed_there x m h =
      let (y, n, e) = read_there (staying s x) (stayed_in x m h) in
      let p = kept_in_parts after y in
      let o = kept_in_parts s x in
      let i : y.id ≡ x.id = sym p.0 ∙ ap kept_id e ∙ o.0 in
      record {
        element = y;
        among = n;
        id = i;
        serial = sym p.1 ∙ ap kept_serial e ∙ o.1;
        kind = stayed_kind all put (ids_once s (store_read s store_reads)) x m h y.id y.kind (source y n) i;
        bytes = sym p.2 ∙ ap (λ (k : Kept). k.bytes) e ∙ o.2;
      }

  handed_in_lem : (x : Element) → In x put → (n : ℕ) × In (entering q (key_of g n) x) new
  unfolding new_elements
  handed_in_lem x m =
      let e = all_enter q g (first_number g all) put x m in
      (e.0, all_come before come (rw (entering_ids q g (first_number g all) put) (put_ids_once q put_reads)) (entering q (key_of g e.0) x) e.1)

  handed_there : (x : Element) → In x put → Entered q after g x
  handed_there x m =
      let (number, j) = handed_in_lem x m in
      let k = key_of g number in
      let (y, n, e) = read_there (entering q k x) j in
      let p = kept_in_parts after y in
      let o = entering_parts q k x in
      let i : y.id ≡ x.id = sym p.0 ∙ ap kept_id e ∙ o.0 in
      record {
        element = y;
        among = n;
        number = number;
        id = i;
        serial = sym p.1 ∙ ap kept_serial e ∙ o.1;
        kind = handed_kind all put (put_ids_once q put_reads) x m y.id y.kind (source y n) i;
        bytes = sym p.2 ∙ ap (λ (k : Kept). k.bytes) e ∙ o.2;
      }

  tells : Tells new (ranges_of [] new)
  tells = answer_tells s q g put store_Bytes store_reads fits left

  only_stored : (h : Guid) (n : ℕ) → GuidFits h → knows (ranges_of [] new) h n ≡ true → (x : Element) × In x (store_walk after).elements × (x.serial ≡ key_of h n)
  only_stored h n f e =
      let (k, m, i) = tells.no_other h n f e in
      let (y, o, j) = read_there k m in
      (y, o, sym (kept_in_parts after y).1 ∙ ap kept_serial j ∙ i)

  every_stored : (h : Guid) (n : ℕ) → GuidFits h → ((x : Element) × In x (store_walk after).elements × (x.serial ≡ key_of h n)) → knows (ranges_of [] new) h n ≡ true
  every_stored h n f (y, m, e) =
      tells.known h n f (staying after y) (subst (In (staying after y)) r.elements (in_map (staying after) m)) ((kept_in_parts after y).1 ∙ e)

  all_after : AfterPut s q g (answer s q g) after
  all_after =
      record {
        reads = r.stands;
        elements = r.elements;
        stayed = stayed_there;
        handed = handed_there;
        no_other = r.types;
        answers = refl;
        knows_stored = λ h n f. (only_stored h n f, every_stored h n f);
      }

pub after_put : (s q : List ℕ) (g : Guid) (storeRoom room : ℕ) (a w : List ℕ) → AllBytes s → AllBytes q → GuidFits g → put_outcome s q g storeRoom room ≡ entered a w → AfterPut s q g a w
after_put s q g storeRoom room a w b c f h =
    let r = both_read s q g storeRoom room a w h in
    let (m, x, y) = (nothing_refused s q g storeRoom room r.0 r.1 a w).0 h in
    let left = m.0.0.0.0.1 in
    let few = m.0.0.0.1 in
    let short = m.0.0.1 in
    rw (x, y) (all_after s q g b r.0 r.1 f left (new_store_reads s q g c r.0 r.1 f left few short))
