-- The bench behind a put (document 02, Q-1): of a bench that knew every serial number of the store, and none that the hub had yet to give,
-- exactly the elements that entered are wanted, as far as the filters let them in; with no filters all of them, as many as were handed in.
-- Each of them is a group by itself (Q-3), since its serial number is its own, also where elements of the store share theirs.
-- A bench that knows exactly the serial numbers of the store is such a one, but it may know others, as those of elements that were replaced.
-- A reader needs `KnewEverything` of specs/Puts.antt, and the statements of `entered_named`, `entered_once`, `bench_after_put`,
-- `bench_without_filters`, `as_many_entered` and `exactly_known`.
-- Assumes nothing.
use mathlib.Core.Path.{◌≡◌, refl, sym, ap, subst, ◌∙◌}
use mathlib.Core.Bool.{Bool, true, false, not}
use mathlib.Core.List.Memᴰ.{head as here}
use mathlib.Core.List.{List, [], map, Memᴰ as In}
use mathlib.Core.Logic.{⊎_elim}
use Prim.Native.Nat.{ℕ}
use native.Mathlib.Omega.{arith}
use lib.ListN.{length, length-map}
use Rattle.laws.specs.Bytes.{AllBytes}
use Rattle.laws.specs.Once.{seen, once}
use Rattle.laws.specs.Pick.{pick}
use Rattle.laws.proofs.Cases.{by_bool, impossible}
use Rattle.numbers.specs.Guid.{GuidFits}
use Rattle.numbers.specs.declared.guid.Guid.{Guid}
use Rattle.talk.specs.Wanted.{keep, is_wanted, wanted}
use Rattle.talk.specs.declared.range.Range.{Range}
use Rattle.talk.proofs.Delivery.{once_keep}
use Rattle.store.specs.Element.{same_key}
use Rattle.store.specs.Store.{store_walk, Stands}
use Rattle.store.specs.declared.element.Key.{Key}
use Rattle.store.specs.declared.element.Element.{Element}
use Rattle.store.proofs.Chains.{same_turn, store_read, ids_once}
use Rattle.order.specs.Groups.{Group, group_serial, single}
use Rattle.order.proofs.Grouping.{every_element}
use Rattle.order.proofs.Members.{member_was}
use Rattle.order.proofs.Ordering.{rearranged, keep_ordered, length_ordered}
use Rattle.order.proofs.Rearranged.{once_rearranged}
use Rattle.store.proofs.ElementFits.{KeysFit, keys_fit}
use Rattle.request.specs.Meaning.{Filter, left_in}
use Rattle.pages.specs.Choice.{knows_key}
use Rattle.puts.specs.Applied.{entered, put_outcome}
use Rattle.enter.specs.Entering.{Kept}
use Rattle.puts.specs.NewStore.{entering_from, first_number, staying}
use Rattle.enter.proofs.Keys.{seen_member, member_seen, once_other}
use Rattle.enter.proofs.Members.{of_each}
use Rattle.enter.proofs.KeptIn.{kept_serial, kept_in_serial}
use Rattle.puts.proofs.Serials.{entering_ids, new_serials_once}
use Rattle.evidence.specs.Puts.{handed_by, is_named, knows_store, is_new, has_entered, KnewEverything}
use Rattle.evidence.specs.Talk.{SameSet, serial_of, elements_of, in_row_order, groups_of, leaves_in, wanted_of}
use Rattle.evidence.proofs.Kept.{keep_same, kept_was, was_kept}
use Rattle.evidence.proofs.NoMore.{no_more}
use Rattle.evidence.proofs.OwnGroups.{own_wanted}
use Rattle.evidence.proofs.StoreBehind as behind
use Rattle.evidence.proofs.StoreBehind.{id_of}

-- ---- behind a put that was answered

module _ (s q : List ℕ) (g : Guid) (b : AllBytes s) (c : AllBytes q) (f : GuidFits g) (storeRoom room : ℕ) (a w : List ℕ)
    (h : put_outcome s q g storeRoom room ≡ entered a w) where
  -- what a bench that knew everything lacks is what entered
  unknown : (l : List Range) → KnewEverything s g l → (y : Element) → In y (elements_of w) → not (knows_key l y.serial) ≡ has_entered s g y
  unknown l k y m =
      ⊎_elim
      (λ n.
      let (x, i, e) = behind.stayed_from s q g storeRoom room a w b c f h y n.0 in
      ap not (ap (knows_key l) (sym e) ∙ k.all_known x i) ∙ sym (behind.stayed_old s q g storeRoom room a w b c f h y n.0).1)
      (λ n.
      let r = (behind.entered_new s q g storeRoom room a w b c f h y n).1 in
      ap not (k.none_ahead y.serial (behind.serial_fits s q g storeRoom room a w b c f h y m) r) ∙ sym r)
      (behind.stayed_or_entered s q g storeRoom room a w b c f h y m)

  -- who has entered: those whose ids the put has
  pub entered_named : (y : Element) → In y (elements_of w) → has_entered s g y ≡ is_named q y.id
  entered_named = behind.entered_named s q g storeRoom room a w b c f h

  -- ---- each of these has a serial number of its own

  abbrev those : List Element
  those = keep (has_entered s g) (elements_of w)

  those_once : once same_key (map serial_of those) ≡ true
  those_once =
      once_other id_of serial_of those (once_keep same_key id_of (has_entered s g) (elements_of w) (ids_once w (store_read w (behind.after s q g storeRoom room a w b c f h).reads)))
      (λ x y m n e.
      let (i, u) = kept_was (has_entered s g) (elements_of w) x m in
      let (j, v) = kept_was (has_entered s g) (elements_of w) y n in
      ap id_of (behind.named_own s q g storeRoom room a w b c f h x y i j (sym (entered_named y j) ∙ v) e))

  -- in row order
  pub entered_once : once same_key (map serial_of (keep (has_entered s g) (in_row_order w))) ≡ true
  entered_once = rw (keep_ordered (has_entered s g) (elements_of w)) (once_rearranged same_key serial_of same_turn (rearranged those) those_once)

  -- ---- what is wanted

  group_unknown : (l : List Range) → KnewEverything s g l → (y : Group) → In y (groups_of w) → not (knows_key l (group_serial y)) ≡ is_new s g (group_serial y)
  group_unknown l k y m = unknown l k y.first (member_was (rearranged (elements_of w)) (every_element (in_row_order w) m (here refl)))

  -- for any ranges, and any filters
  pub bench_after_put : (fs : List Filter) (l : List Range) → KnewEverything s g l
      → wanted_of w fs (knows_key l) ≡ map single (keep (λ (x : Element). pick (left_in fs (elements_of w) x true) (has_entered s g x) false) (in_row_order w))
  unfolding wanted is_wanted
  bench_after_put fs l k =
      keep_same _ _ (groups_of w) (λ y m. ap (λ (t : Bool). pick (leaves_in w fs y) t false) (group_unknown l k y m))
      ∙ own_wanted (is_new s g) (λ (x : Element). left_in fs (elements_of w) x true) (in_row_order w) entered_once

  -- with no filters
  pub bench_without_filters : (l : List Range) → KnewEverything s g l → wanted_of w [] (knows_key l) ≡ map single (keep (has_entered s g) (in_row_order w))
  unfolding left_in
  bench_without_filters l k = bench_after_put [] l k

  -- ---- as many as were handed in

  abbrev come : List Kept
  come = entering_from q g (first_number g (elements_of s)) (handed_by q)

  came_in : (y : Element) → In y (elements_of w) → has_entered s g y ≡ true → In (staying w y) come
  came_in y m e =
      ⊎_elim (λ n. let r = (behind.stayed_old s q g storeRoom room a w b c f h y n.0).1 in impossible (cc)) (λ n. n)
      (behind.stayed_or_entered s q g storeRoom room a w b c f h y m)

  those_came : (k : Key) → seen same_key k (map serial_of those) ≡ true → seen same_key k (map kept_serial come) ≡ true
  those_came k t =
      let (y, m, e) = member_seen serial_of k those t in
      let (n, i) = kept_was (has_entered s g) (elements_of w) y m in
      ap (λ (j : Key). seen same_key j (map kept_serial come)) (sym (kept_in_serial w y ∙ e)) ∙ seen_member kept_serial come (came_in y n i)

  came_those : (k : Key) → seen same_key k (map kept_serial come) ≡ true → seen same_key k (map serial_of those) ≡ true
  came_those k t =
      let (x, m, e) = member_seen kept_serial k come t in
      let (y, n, i) = behind.come_there s q g storeRoom room a w b c f h x m in
      let new = (behind.entered_new s q g storeRoom room a w b c f h y (subst (λ (z : Kept). In z come) (sym i) m)).1 in
      ap (λ (j : Key). seen same_key j (map serial_of those)) (sym (sym (kept_in_serial w y) ∙ ap kept_serial i ∙ e))
      ∙ seen_member serial_of those (was_kept (has_entered s g) (elements_of w) y n new)

  as_many_stored : length (keep (has_entered s g) (elements_of w)) ≡ length (handed_by q)
  as_many_stored =
      let m = no_more (map serial_of those) (map kept_serial come) those_once those_came in
      let n = no_more (map kept_serial come) (map serial_of those) (new_serials_once q g (first_number g (elements_of s)) (handed_by q)) came_those in
      let i = length-map those serial_of in
      let j = length-map come kept_serial in
      let k = ap length (entering_ids q g (first_number g (elements_of s)) (handed_by q)) in
      let d = length-map come (λ (x : Kept). x.id) in
      let e = length-map (handed_by q) (λ (x : Element). x.id) in
      omega arith

  pub as_many_entered : length (keep (has_entered s g) (in_row_order w)) ≡ length (handed_by q)
  as_many_entered = ap length (keep_ordered (has_entered s g) (elements_of w)) ∙ length_ordered (keep (has_entered s g) (elements_of w)) ∙ as_many_stored

-- ---- a bench that knows exactly the serial numbers of a store that is read

new_not_stored : (s : List ℕ) (g : Guid) (k : Key) → is_new s g k ≡ true → knows_store s k ≡ false
new_not_stored s g k n =
    by_bool (knows_store s k)
    (λ t.
    let (x, m, e) = member_seen serial_of k (elements_of s) t in
    let o = behind.stored_not_new s g x m in
    let i = ap (is_new s g) e in
    impossible (cc))
    (λ t. t)

pub exactly_known : (s : List ℕ) (g : Guid) (l : List Range) → AllBytes s → Stands (store_walk s).last → SameSet (knows_store s) l → KnewEverything s g l
exactly_known s g l b r k =
    record {
      all_known = λ x m. sym (k x.serial (of_each KeysFit (elements_of s) (keys_fit s b (store_read s r)) x m).1.0) ∙ seen_member serial_of (elements_of s) m;
      none_ahead = λ j f n. sym (k j f) ∙ new_not_stored s g j n;
    }
