-- The book behind a put (document 02, Q-1). A book that was in step with the store is in step with the store behind a put, for a knowledge
-- that has no serial number that the hub has yet to give: what stayed stands in it as it did, and what entered is not known yet
-- (`in_step_behind_put`). No filter is in the way: a filter looks at an element's type and id, which stay, and what stayed in a group of the
-- new store was in one group before. So a bench that puts its own changes, and then asks, keeping every answer until an unmarked one comes,
-- has all of the new store in its book (`all_behind_put`), and can put again (`none_ahead_again`). A reader needs these statements only.
-- Assumes nothing.
use mathlib.Core.Path.{◌≡◌, refl, sym, ap, subst, ◌∙◌}
use mathlib.Core.Bool.{Bool, true, false}
use mathlib.Core.List.Memᴰ.{head as here}
use mathlib.Core.List.Memᴰ.{of_map}
use mathlib.Core.List.{List, [], ◌∷◌, ◌++◌, map, Memᴰ as In}
use mathlib.Core.Logic.{⊎_elim}
use Prim.Native.Nat.{ℕ, ◌^◌, ◌<◌}
use lib.ListN.{length, drop}
use Rattle.laws.specs.Bytes.{AllBytes}
use Rattle.laws.specs.Once.{seen}
use Rattle.laws.specs.Pick.{pick}
use Rattle.laws.proofs.Cases.{by_bool, impossible}
use Rattle.numbers.specs.Guid.{GuidFits}
use Rattle.hub.specs.Put.{guid_of, HubPuts}
use Rattle.numbers.specs.declared.guid.Guid.{Guid}
use Rattle.talk.specs.Series.{over, idle, then}
use Rattle.store.specs.Element.{same_key}
use Rattle.store.specs.Held.{stored_bytes}
use Rattle.store.specs.declared.element.Element.{Element}
use Rattle.store.specs.declared.element.Key.{Key}
use Rattle.order.specs.Groups.{Group, members, group_serial}
use Rattle.request.specs.Meaning.{Filter, matches, set_by, left_in}
use Rattle.puts.specs.Applied.{entered, put_outcome}
use Rattle.enter.specs.Entering.{Kept, kept_id}
use Rattle.enter.specs.Package.{kept_in}
use Rattle.enter.proofs.KeptIn.{kept_serial, kept_in_parts}
use Rattle.enter.proofs.Keys.{member_seen}
use Rattle.evidence.specs.Book.{LetIn, InStep, HoldsAll, Standing, KeptTalk, Unmarked, NoneAhead}
use Rattle.evidence.specs.Puts.{is_named, is_new}
use Rattle.evidence.specs.Talk.{elements_of, Talk}
use Rattle.evidence.proofs.Holding.{one_element, some_member, member_some, of_store, shares, group_of, one_group, let_in_stored}
use Rattle.evidence.proofs.InStep.{ask_page, talk_of, all_in_book}
use Rattle.evidence.proofs.PutDemands.{PutDemandTwo, put_demand_two, demand_two_hub_put}
use Rattle.evidence.proofs.SerialsOverPuts.{new_before}
use Rattle.evidence.proofs.Steps as steps
use Rattle.evidence.proofs.StoreBehind as behind
use Rattle.evidence.proofs.StoreBehind.{stored_not_new}

-- ---- a filter looks at type and id

set_same : (f : Filter) (all all' : List Element) (x y : Element) → x.kind ≡ y.kind → x.id ≡ y.id → (inside : Bool)
    → set_by f all x inside ≡ set_by f all' y inside
unfolding set_by matches
set_same f all all' x y k i inside = rw (k, i)

left_same : (fs : List Filter) (all all' : List Element) (x y : Element) → x.kind ≡ y.kind → x.id ≡ y.id → (inside : Bool)
    → left_in fs all x inside ≡ left_in fs all' y inside
unfolding left_in
left_same [] all all' x y k i inside = refl
left_same (f ∷ fs) all all' x y k i inside =
    left_same fs all all' x y k i (set_by f all x inside) ∙ ap (left_in fs all' y) (set_same f all all' x y k i inside)

-- ---- behind a put that was answered

-- an element of the new store that is as one of the store was
record AsBefore (s w : List ℕ) (y : Element) : Type 0 where
  was : Element
  among : In was (elements_of s)
  id_is : was.id ≡ y.id
  serial_is : was.serial ≡ y.serial
  kind_is : was.kind ≡ y.kind
  bytes_are : stored_bytes s was ≡ stored_bytes w y

module _ (s q : List ℕ) (g : Guid) (b : AllBytes s) (c : AllBytes q) (f : GuidFits g) (storeRoom room : ℕ) (a w : List ℕ)
    (h : put_outcome s q g storeRoom room ≡ entered a w) where
  two : PutDemandTwo s q g a w
  two = put_demand_two s q g b c f storeRoom room a w h

  -- one whose serial number is not new
  as_before : (y : Element) → In y (elements_of w) → is_new s g y.serial ≡ false → AsBefore s w y
  as_before y m old =
      ⊎_elim
      (λ n.
      let (x, i, e) = of_map (kept_in s) (elements_of s) n.0 in
      let p = kept_in_parts s x in
      let o = kept_in_parts w y in
      let id : x.id ≡ y.id = sym p.0 ∙ ap kept_id e ∙ o.0 in
      let unnamed : is_named q x.id ≡ false = ap (is_named q) id ∙ sym (two.above y m) ∙ old in
      let t = two.stay x i unnamed in
      let same : t.element ≡ y = one_element w two.reads t.element y t.among m (t.id_is ∙ id) in
      record {
        was = x;
        among = i;
        id_is = id;
        serial_is = sym p.1 ∙ ap kept_serial e ∙ o.1;
        kind_is = sym t.kind_is ∙ ap (λ (z : Element). z.kind) same;
        bytes_are = sym p.2 ∙ ap (λ (z : Kept). z.bytes) e ∙ o.2;
      })
      (λ n. let new = (behind.entered_new s q g storeRoom room a w b c f h y n).1 in impossible (cc))
      (behind.stayed_or_entered s q g storeRoom room a w b c f h y m)

  -- and that the filters let in, they let in before
  let_in_before : (fs : List Filter) (y : Element) → (l : LetIn w fs y) → is_new s g y.serial ≡ false → (t : AsBefore s w y) × LetIn s fs t.was
  let_in_before fs y l old =
      let y-before = as_before y (let_in_stored l) old in
      let (z, i, left) = member_some (λ (v : Element). left_in fs (elements_of w) v true) (members l.group) l.lets in
      let one-serial : z.serial ≡ y.serial = shares w l.group z l.among i ∙ sym (shares w l.group y l.among l.member) in
      let z-before = as_before z (of_store w l.among i) (ap (is_new s g) one-serial ∙ old) in
      let (own, n, j) = group_of s y-before.was y-before.among in
      let (other, m, k) = group_of s z-before.was z-before.among in
      let shared : group_serial other ≡ group_serial own =
      sym (shares s other z-before.was m k) ∙ z-before.serial_is ∙ one-serial ∙ sym y-before.serial_is ∙ shares s own y-before.was n j in
      let inside : In z-before.was (members own) = subst (λ (v : Group). In z-before.was (members v)) (one_group s other own m n shared) k in
      let lets : left_in fs (elements_of s) z-before.was true ≡ true =
      left_same fs (elements_of s) (elements_of w) z-before.was z z-before.kind_is z-before.id_is true ∙ left in (
        y-before,
        record {
          group = own;
          among = n;
          member = j;
          lets = some_member (λ (v : Element). left_in fs (elements_of s) v true) (members own) z-before.was inside lets;
        },
      )

  -- a book that was in step with the store is in step with the new one
  pub in_step_behind_put : (fs : List Filter) (know : Key → Bool) (book : List ℕ) → InStep s fs know book → NoneAhead s g know → InStep w fs know book
  in_step_behind_put fs know book step none y l k =
      by_bool (is_new s g y.serial)
      (λ new.
      let z = none y.serial (behind.serial_fits s q g storeRoom room a w b c f h y (let_in_stored l)) new in
      impossible (cc))
      (λ old.
      let (t, was-in) = let_in_before fs y l old in
      let held = step t.was was-in (ap know t.serial_is ∙ k) in
      record { element = held.element; among = held.among; id_is = held.id_is ∙ t.id_is; bytes_are = held.bytes_are ∙ t.bytes_are })

  -- with a talk on the new store that follows, in which an unmarked answer comes, it holds all of the new store that the filters let in
  pub all_behind_put : AllBytes w → (fs : List Filter) {z z' : Standing} {ws : List (List ℕ)} → InStep s fs z.know z.book → NoneAhead s g z.know
      → KeptTalk w fs z ws z' → (v : List ℕ) → In v ws → Unmarked v → HoldsAll w fs z'.book
  all_behind_put d fs {z} step none t v i u = all_in_book w d fs t (in_step_behind_put fs z.know z.book step none) v i u

  -- none that the hub has yet to give behind the put, either
  pub none_ahead_behind_put : (know : Key → Bool) → NoneAhead s g know → NoneAhead w g know
  none_ahead_behind_put know none k fits new = none k fits (new_before s q g a w two k new)

-- so it is where hub_put returns 0: of the new store at the front of its buffer
pub in_step_behind_hub_put : (s q : List ℕ) (low high : ℕ) (new new' out out' report report' : List ℕ) → AllBytes s → AllBytes q → low < 2 ^ 64 → high < 2 ^ 64
    → HubPuts s q low high 0 new new' out out' report report' → (fs : List Filter) (know : Key → Bool) (book : List ℕ) → InStep s fs know book
    → NoneAhead s (guid_of low high) know → (w : List ℕ) × (new' ≡ w ++ drop (length w) new) × InStep w fs know book
in_step_behind_hub_put s q low high new new' out out' report report' b c d e h fs know book step none =
    let p = (demand_two_hub_put s q low high new new' out out' report report' b c d e h).given in (
      p.store,
      p.store_stands,
      in_step_behind_put s q (guid_of low high) b c (d, e) (length new) (length out) p.answer p.store p.enters fs know book step none,
    )

-- ---- from put to put

-- a talk brings no serial number that the hub has yet to give
pub none_ahead_kept : (s : List ℕ) → AllBytes s → (fs : List Filter) (g : Guid) {know know' : Key → Bool} {ws : List (List ℕ)} → Talk s fs know ws know'
    → NoneAhead s g know
    → NoneAhead s g know'
none_ahead_kept s b fs g over none = none
none_ahead_kept s b fs g (idle q t) none = none_ahead_kept s b fs g t (subst (NoneAhead s g) q.same none)
none_ahead_kept s b fs g (then {k = know} {m = m} {a = w} r t) none =
    none_ahead_kept s b fs g t
    (λ k fits new.
    (steps.answered_judged s b fs know m w r).adds k fits ∙ unseen k (none k fits new) (not_sent k new))
  where
    unseen : (k : Key) → know k ≡ false → seen same_key k (map group_serial (steps.answer s b fs know m w r).page) ≡ false
        → pick (know k) true (seen same_key k (map group_serial (steps.answer s b fs know m w r).page)) ≡ false
    unseen k p e = rw (p, e)

    not_sent : (k : Key) → is_new s g k ≡ true → seen same_key k (map group_serial (steps.answer s b fs know m w r).page) ≡ false
    not_sent k new =
        by_bool (seen same_key k (map group_serial (steps.answer s b fs know m w r).page))
        (λ e.
        let (x, i, j) = member_seen group_serial k (steps.answer s b fs know m w r).page e in
        let o = stored_not_new s g x.first (of_store s (ask_page s b fs know m w r x i).0 (here refl)) in
        let n = ap (is_new s g) j in
        impossible (cc))
        (λ e. e)

-- so a bench may put, ask until all has come, and put again
pub none_ahead_again : (s q : List ℕ) (g : Guid) → AllBytes s → AllBytes q → GuidFits g → (storeRoom room : ℕ) (a w : List ℕ)
    → put_outcome s q g storeRoom room ≡ entered a w
    → AllBytes w → (fs : List Filter) {z z' : Standing} {ws : List (List ℕ)} → NoneAhead s g z.know → KeptTalk w fs z ws z' → NoneAhead w g z'.know
none_ahead_again s q g b c f storeRoom room a w h d fs {z} none t =
    none_ahead_kept w d fs g (talk_of w fs t) (none_ahead_behind_put s q g b c f storeRoom room a w h z.know none)
