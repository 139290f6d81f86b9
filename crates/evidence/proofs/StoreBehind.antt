-- The elements of the store behind a put, one by one (document 02, Q-1): each stayed or entered; what entered has a serial number above the
-- highest, which no element of the store had and no other of the new store has, and what stayed has one that is not. And what a bench
-- reads in the answer. For PutDemands and BenchAfterPut.
-- Assumes nothing.
use mathlib.Core.Path.{◌≡◌, refl, sym, ap, subst, ◌∙◌}
use mathlib.Core.Bool.{true, false}
use mathlib.Core.List.Memᴰ.{cases_cons as first-or-later}
use mathlib.Core.List.Memᴰ.{head as here}
use mathlib.Core.List.Memᴰ.{map as in_map}
use mathlib.Core.List.Memᴰ.{not-nil as none_in}
use mathlib.Core.List.Memᴰ.{of_map}
use mathlib.Core.List.Memᴰ.{tail as later}
use mathlib.Core.List.{List, [], ◌∷◌, ◌++◌, map, Memᴰ as In}
use mathlib.Core.Logic.{◌⊎◌, inl, inr, ⊎_elim}
use Prim.Native.Nat.{ℕ, suc, ◌+◌, ◌≤◌}
use native.Mathlib.Omega.{arith}
use lib.ListN.{length}
use borrow.Author.Tests.{lt-ltb, le-ltb}
use Rattle.laws.specs.Bytes.{AllBytes}
use Rattle.laws.specs.Once.{seen, once}
use Rattle.laws.proofs.Cases.{by_bool, impossible}
use Rattle.numbers.specs.Guid.{GuidFits}
use Rattle.numbers.specs.declared.guid.Guid.{Guid}
use Rattle.objects.specs.Steps.{value_of}
use Rattle.talk.specs.declared.range.Range.{Range}
use Rattle.store.specs.Chain.{Follows}
use Rattle.store.specs.Element.{key_of, same_key, ids_in}
use Rattle.store.specs.Tables.{most_elements}
use Rattle.store.specs.declared.element.Key.{Key}
use Rattle.store.specs.declared.element.Element.{Element}
use Rattle.store.proofs.Chains.{store_read, ids_once}
use Rattle.store.proofs.Contents.{OwnBytes, own_bytes_lem}
use Rattle.request.specs.Message.{put_changes_request, identified}
use Rattle.request.proofs.RequestFits.{identified_fits}
use Rattle.pages.specs.Choice.{knows_key}
use Rattle.puts.specs.Applied.{entered, last_number, put_outcome}
use Rattle.enter.specs.Entering.{Kept, kept_id}
use Rattle.puts.specs.Put.{put_strictness}
use Rattle.puts.specs.NewStore.{entering, entering_from, under_guid, highest_under, first_number, new_elements, ranges_of, staying}
use Rattle.enter.proofs.KeptIn.{kept_in_parts}
use Rattle.puts.proofs.AfterPut.{AfterPut, after_put, both_read, entering_parts}
use Rattle.enter.proofs.EnteringLaws.{named, all_come, nothing_else}
use Rattle.enter.proofs.Keys.{seen_member, member_seen, once_one}
use Rattle.puts.proofs.Known.{SerialFits, ranges_know, serials_fit, answer_tells}
use Rattle.enter.proofs.Members.{of_each}
use Rattle.enter.proofs.PackageReads.{ComesFrom, stays, enters}
use Rattle.puts.proofs.PutChain.{put_chain, put_ids_once}
use Rattle.puts.proofs.Refusals.{nothing_refused, index_expected}
use Rattle.enter.proofs.KeptIn.{kept_serial, kept_in_serial, kept_in_serials}
use Rattle.puts.proofs.Serials.{highest_most, under_itself, came, came_serial, entering_ids, new_serial_differs, new_serials_once, new_serials}
use Rattle.client.proofs.PutAnswerBack.{put_answer_back}
use Rattle.evidence.specs.Puts.{handed_by, is_named, elements_behind, store_behind, put_ranges_in, ReadAsPutAnswer, StaysIn, EntersAs, EnterFrom, knows_store, is_new, has_entered, BothRead, Expects, last_given}
use Rattle.evidence.specs.Talk.{KeyFits, serial_of, elements_of}

abbrev pub id_of : Element → Key
id_of x = x.id

-- ---- numbers above the highest

above_new : (s : List ℕ) (g : Guid) (n : ℕ) → first_number g (elements_of s) ≤ n → is_new s g (key_of g n) ≡ true
above_new s g n h = rw (under_itself g n, lt-ltb (highest_under g (elements_of s)) n (omega arith))

pub stored_not_new : (s : List ℕ) (g : Guid) (x : Element) → In x (elements_of s) → is_new s g x.serial ≡ false
stored_not_new s g x m =
    by_bool (under_guid g x.serial) (λ e. rw (e, le-ltb _ _ (highest_most g (elements_of s) x m e))) (λ e. rw e)

-- ---- the bytes of an element of a put

each_own : (q : List ℕ) (done xs : List Element) (at e : ℕ) → AllBytes q → Follows put_strictness q done at xs e → (x : Element) → In x xs → OwnBytes q x
each_own q done [] at e b c x m = absurd (none_in m)
each_own q done (y ∷ xs) at e b c x m =
    ⊎_elim (λ p. rw p (own_bytes_lem put_strictness (ids_in done) q at 0 y b refl c.0))
    (λ n. each_own q (done ++ (y ∷ [])) xs (y.place + y.length) e b c.1 x n)
    (first-or-later m)

-- ---- behind a put that was answered

module _ (s q : List ℕ) (g : Guid) (storeRoom room : ℕ) (a w : List ℕ) (store_Bytes : AllBytes s) (put-bytes : AllBytes q) (fits : GuidFits g)
    (h : put_outcome s q g storeRoom room ≡ entered a w) where
  abbrev all : List Element
  all = elements_of s

  abbrev before : List Kept
  before = map (staying s) all

  abbrev come : List Kept
  come = entering_from q g (first_number g all) (handed_by q)

  pub after : AfterPut s q g a w
  after = after_put s q g storeRoom room a w store_Bytes put-bytes fits h

  pub reads : BothRead s q
  reads = both_read s q g storeRoom room a w h

  pub expects : Expects s q
  expects = (index_expected s q g).0 ((nothing_refused s q g storeRoom room reads.0 reads.1 a w).0 h).0.0.0.0.0.0

  pub written : w ≡ store_behind s q g
  written = ((nothing_refused s q g storeRoom room reads.0 reads.1 a w).0 h).2

  left : last_given s q g ≤ last_number
  left = ((nothing_refused s q g storeRoom room reads.0 reads.1 a w).0 h).0.0.0.0.0.1

  -- ---- each stayed or entered

  kept_in_lem : (y : Element) → In y (elements_of w) → In (staying w y) (elements_behind s q g)
  kept_in_lem y m = subst (In (staying w y)) after.elements (in_map (staying w) m)

  pub stayed_or_entered : (y : Element) → In y (elements_of w) → (In (staying w y) before × (named come (staying w y) ≡ false)) ⊎ In (staying w y) come
  unfolding new_elements
  stayed_or_entered y m = nothing_else before come (staying w y) (kept_in_lem y m)

  -- what stayed has the serial number of an element of the store
  pub stayed_from : (y : Element) → In (staying w y) before → (x : Element) × In x all × (x.serial ≡ y.serial)
  stayed_from y n =
      let r = of_map (staying s) all n in (r.0, r.1, sym (kept_in_serial s r.0) ∙ ap kept_serial r.2 ∙ kept_in_serial w y)

  pub stayed_old : (y : Element) → In (staying w y) before → (knows_store s y.serial ≡ true) × (has_entered s g y ≡ false)
  stayed_old y n =
      let (x, m, e) = stayed_from y n in
      (ap (knows_store s) (sym e) ∙ seen_member serial_of all m, ap (is_new s g) (sym e) ∙ stored_not_new s g x m)

  -- what entered has one that no element of the store has
  pub none_had : (x y : Element) → In x all → In (staying w y) come → x.serial ≡ y.serial → ⊥
  none_had x y m n e = new_serial_differs q g all (handed_by q) x (staying w y) m n (e ∙ sym (kept_in_serial w y))

  pub entered_new : (y : Element) → In (staying w y) come → (knows_store s y.serial ≡ false) × (has_entered s g y ≡ true)
  entered_new y n =
      let r = came q g (first_number g all) (handed_by q) (staying w y) n in
      let known : knows_store s y.serial ≡ false =
      by_bool (knows_store s y.serial) (λ t. let (x, m, e) = member_seen serial_of y.serial all t in absurd (none_had x y m n e)) (λ t. t) in
      (known, ap (is_new s g) (sym (kept_in_serial w y) ∙ came_serial r) ∙ above_new s g r.number r.from)

  -- ---- by the ids

  named_as : (y : Element) → named come (staying w y) ≡ is_named q y.id
  named_as y =
      ap (λ (k : Key). seen same_key k (map kept_id come)) (kept_in_parts w y).0
      ∙ ap (seen same_key y.id) (entering_ids q g (first_number g all) (handed_by q))

  pub named_new : (x y : Element) → In x all → In y (elements_of w) → is_named q y.id ≡ true → x.serial ≡ y.serial → ⊥
  named_new x y m n i e =
      ⊎_elim (λ p. let z = p.1 in let u = named_as y in impossible (cc)) (λ p. none_had x y m p e) (stayed_or_entered y n)

  -- those have entered whose ids the put has
  pub entered_named : (y : Element) → In y (elements_of w) → has_entered s g y ≡ is_named q y.id
  entered_named y m =
      ⊎_elim (λ p. (stayed_old y p.0).1 ∙ sym p.1 ∙ named_as y) (λ p. (entered_new y p).1 ∙ sym (seen_member kept_id come p) ∙ named_as y)
      (stayed_or_entered y m)

  -- ---- the serial numbers

  entered_came : (y : Element) → In y (elements_of w) → is_named q y.id ≡ true → In (staying w y) come
  entered_came y m i = ⊎_elim (λ p. let z = p.1 in let u = named_as y in impossible (cc)) (λ p. p) (stayed_or_entered y m)

  -- what entered shares its serial number with no other: nothing that stayed has it, and of those that entered each has another
  pub named_own : (x y : Element) → In x (elements_of w) → In y (elements_of w) → is_named q y.id ≡ true → x.serial ≡ y.serial → x ≡ y
  named_own x y m n i e =
      let c = entered_came y n i in
      ⊎_elim (λ p. let (z, k, j) = stayed_from x p.0 in absurd (named_new z y k n i (j ∙ e)))
      (λ p.
      let same : staying w x ≡ staying w y =
      once_one kept_serial come (new_serials_once q g (first_number g all) (handed_by q)) p c (kept_in_serial w x ∙ e ∙ sym (kept_in_serial w y)) in
      once_one id_of (elements_of w) (ids_once w (store_read w after.reads)) m n (sym (kept_in_parts w x).0 ∙ ap kept_id same ∙ (kept_in_parts w y).0))
      (stayed_or_entered x m)

  -- where none stood twice in the store, none does in the new one
  pub once_still : once same_key (map serial_of all) ≡ true → once same_key (map serial_of (elements_of w)) ≡ true
  once_still o =
      let new = new_serials s all q (handed_by q) g (ids_once s (store_read s reads.0)) (put_ids_once q reads.1) o in
      subst (λ (l : List Key). once same_key l ≡ true) (ap (map kept_serial) (sym after.elements) ∙ kept_in_serials w (elements_of w)) new

  -- ---- where they come from

  source : (id : Key) (kind : ℕ) → ComesFrom all (handed_by q) id kind → (is_named q id ≡ true) ⊎ ((x : Element) × In x all × (x.id ≡ id))
  source id kind (stays x m i k u) = inr (x, m, i)
  source id kind (enters x m i k) = inl (ap (is_named q) (sym i) ∙ seen_member id_of (handed_by q) m)

  pub no_other : (y : Element) → In y (elements_of w) → (is_named q y.id ≡ true) ⊎ ((x : Element) × In x all × (x.id ≡ y.id))
  no_other y m = source y.id y.kind (of_each (λ (x : Element). ComesFrom all (handed_by q) x.id x.kind) (elements_of w) after.no_other y m)

  pub stay : (x : Element) → In x all → is_named q x.id ≡ false → StaysIn s w x
  stay x m i =
      let t = after.stayed x m i in
      record { element = t.element; among = t.among; id_is = t.id; serial_is = t.serial; kind_is = t.kind; bytes_are = t.bytes }

  -- ---- what was handed in, in order

  pub come_there : (y : Kept) → In y come → (x : Element) × In x (elements_of w) × (staying w x ≡ y)
  unfolding new_elements
  come_there y m =
      let o : once same_key (map kept_id come) ≡ true = rw (entering_ids q g (first_number g all) (handed_by q)) (put_ids_once q reads.1) in
      of_map (staying w) (elements_of w) (subst (In y) (sym after.elements) (all_come before come o y m))

  enters_as : (n : ℕ) (x : Element) → In x (handed_by q) → In (entering q (key_of g n) x) come → EntersAs q w g n x
  enters_as n x m i =
      let (y, k, e) = come_there (entering q (key_of g n) x) i in
      let t = after.handed x m in
      let p = kept_in_parts w y in
      let o = entering_parts q (key_of g n) x in
      let id : y.id ≡ x.id = sym p.0 ∙ ap kept_id e ∙ o.0 in
      let same : y ≡ t.element = once_one id_of (elements_of w) (ids_once w (store_read w after.reads)) k t.among (id ∙ sym t.id) in
      record {
        element = y;
        among = k;
        id_is = id;
        serial_is = sym p.1 ∙ ap kept_serial e ∙ o.1;
        kind_is = ap (λ (z : Element). z.kind) same ∙ t.kind;
        bytes_are = sym p.2 ∙ ap (λ (z : Kept). z.bytes) e ∙ o.2;
      }

  enter_from : (n : ℕ) (xs : List Element) → ((x : Element) → In x xs → In x (handed_by q)) → ((y : Kept) → In y (entering_from q g n xs) → In y come) → EnterFrom q w g n xs
  unfolding entering_from
  enter_from n [] i j = tt
  enter_from n (x ∷ xs) i j =
      (enters_as n x (i x (here refl)) (j (entering q (key_of g n) x) (here refl)), enter_from (suc n) xs (λ y m. i y (later m)) (λ y m. j y (later m)))

  pub enter_in_order : EnterFrom q w g (first_number g (elements_of s)) (handed_by q)
  enter_in_order = enter_from (first_number g all) (handed_by q) (λ x m. m) (λ y m. m)

  pub own : (x : Element) → In x (handed_by q) → OwnBytes q x
  own x m = let r = put_chain q reads.1 in each_own q [] (handed_by q) r.0 r.1 put-bytes r.2 x m

  -- ---- what the answer knows

  pub serial_fits : (y : Element) → In y (elements_of w) → KeyFits y.serial
  serial_fits y m =
      subst KeyFits (kept_in_serial w y)
      (of_each SerialFits (elements_behind s q g) (serials_fit s q g (handed_by q) store_Bytes reads.0 fits left) (staying w y) (kept_in_lem y m)).0

  told_ranges : (k : Key) → KeyFits k → knows_key (ranges_of [] (elements_behind s q g)) k ≡ knows_store w k
  told_ranges k f =
      ranges_know (elements_behind s q g) (serials_fit s q g (handed_by q) store_Bytes reads.0 fits left) k f
      ∙ ap (λ (l : List Kept). seen same_key k (map kept_serial l)) (sym after.elements)
      ∙ ap (seen same_key k) (kept_in_serials w (elements_of w))

  few : length (elements_behind s q g) ≤ most_elements
  few = ((nothing_refused s q g storeRoom room reads.0 reads.1 a w).0 h).0.0.0.0.1

  -- it is read back
  pub read_back : ReadAsPutAnswer s q g a
  read_back =
      let t = answer_tells s q g (handed_by q) store_Bytes reads.0 fits left in
      let n = t.few in
      let m = few in
      subst (ReadAsPutAnswer s q g) (sym after.answers)
      (put_answer_back (value_of (identified put_changes_request q)) (ranges_of [] (elements_behind s q g)) (identified_fits put_changes_request q put-bytes)
      t.normal t.fits (omega arith))

  -- with the serial numbers of the new store
  pub told : (k : Key) → KeyFits k → knows_key (put_ranges_in a) k ≡ knows_store w k
  told k f = ap (λ (l : List Range). knows_key l k) read_back.ranges_are ∙ told_ranges k f
