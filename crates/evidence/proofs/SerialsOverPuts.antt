-- Over any number of puts under one GUID no serial number is given twice (document 02, Q-1; it is what Q-12 takes for granted of a hub): one
-- that a put gives is none that any element had in this store or in one before it, whether that element is still there or was replaced
-- since; and of one put `serials_own` of PutDemands says that it gives each number to one element alone. So it is also where elements of the
-- first store share a serial number (Q-3): what is given enters no group. A reader needs `PutsFrom` and the statement of `given_once`. Under
-- two GUIDs in turn it would not hold: a number that was replaced is forgotten by the store, and may then be given under the first again.
-- Assumes nothing.
use mathlib.Core.Path.{◌≡◌, ap, subst, ◌∙◌}
use mathlib.Core.Bool.{true, false}
use mathlib.Core.List.{List, [], ◌∷◌, map, Memᴰ as In}
use mathlib.Core.Logic.{⊎_elim}
use Prim.Native.Nat.{ℕ, ◌≤◌}
use native.Mathlib.Omega.{arith}
use borrow.Author.Tests.{lt-ltb, ltb-true}
use Rattle.laws.specs.Once.{seen}
use Rattle.laws.proofs.Cases.{by_bool, impossible}
use Rattle.numbers.specs.declared.guid.Guid.{Guid}
use Rattle.store.specs.Element.{same_key}
use Rattle.store.specs.declared.element.Element.{Element}
use Rattle.store.specs.declared.element.Key.{Key}
use Rattle.puts.specs.NewStore.{under_guid, highest_under, first_number}
use Rattle.puts.proofs.Serials.{highest_most, highest_met, under_itself}
use Rattle.evidence.specs.Puts.{handed_by, is_named, EnterFrom, is_new}
use Rattle.evidence.specs.Talk.{elements_of}
use Rattle.evidence.proofs.PutDemands.{PutDemandTwo}
use Rattle.evidence.proofs.StoreBehind.{stored_not_new}

-- ---- the highest number does not fall

entered_above : (q w : List ℕ) (g : Guid) (n : ℕ) (handed : List Element) (id : Key) → seen same_key id (map (λ (x : Element). x.id) handed) ≡ true → EnterFrom q w g n handed
    → n ≤ highest_under g (elements_of w)
unfolding seen
entered_above q w g n [] id h e = impossible (cc)
entered_above q w g n (x ∷ xs) id h e =
    let y = e.0 in
    let u : under_guid g y.element.serial ≡ true = ap (under_guid g) y.serial_is ∙ under_itself g n in
    subst (λ (m : ℕ). m ≤ highest_under g (elements_of w)) (ap (λ (k : Key). k.number) y.serial_is) (highest_most g (elements_of w) y.element y.among u)

module _ (s q : List ℕ) (g : Guid) (a w : List ℕ) (two : PutDemandTwo s q g a w) where
  at_least : (x : Element) → In x (elements_of s) → under_guid g x.serial ≡ true → x.serial.number ≡ highest_under g (elements_of s)
      → highest_under g (elements_of s) ≤ highest_under g (elements_of w)
  at_least x m u e =
      by_bool (is_named q x.id)
      (λ n. let z = entered_above q w g (first_number g (elements_of s)) (handed_by q) x.id n two.enter in omega arith)
      (λ n.
      let y = two.stay x m n in
      let v : under_guid g y.element.serial ≡ true = ap (under_guid g) y.serial_is ∙ u in
      let z = highest_most g (elements_of w) y.element y.among v in
      let i = ap (λ (k : Key). k.number) y.serial_is in
      omega arith)

  highest_grows : highest_under g (elements_of s) ≤ highest_under g (elements_of w)
  highest_grows = ⊎_elim (λ e. omega arith) (λ h. at_least h.0 h.1 h.2 h.3) (highest_met g (elements_of s))

  pub new_before : (k : Key) → is_new w g k ≡ true → is_new s g k ≡ true
  new_before k n =
      by_bool (under_guid g k)
      (λ u.
      let l = ltb-true (highest_under g (elements_of w)) k.number (rw u at n) in
      let m = highest_grows in
      rw (u, lt-ltb (highest_under g (elements_of s)) k.number (omega arith)))
      (λ u. let z : false ≡ true = rw u at n in impossible (cc))

-- ---- over any number of puts

-- from the store s to the store w by puts that were answered, all under the GUID g
pub data PutsFrom (g : Guid) : List ℕ → List ℕ → Type 0 where
  none : {s : List ℕ} → PutsFrom g s s
  then : {s v w : List ℕ} (q a : List ℕ) → PutsFrom g s v → PutDemandTwo v q g a w → PutsFrom g s w

-- a number that is new at the end was new all along
new_along : (g : Guid) {s w : List ℕ} → PutsFrom g s w → (k : Key) → is_new w g k ≡ true → is_new s g k ≡ true
new_along g none k n = n
new_along g (then {v = v} {w = w} q a before two) k n = new_along g before k (new_before v q g a w two k n)

pub given_once : (g : Guid) (s v q a w : List ℕ) → PutsFrom g s v → PutDemandTwo v q g a w → (x y : Element) → In x (elements_of s) → In y (elements_of w)
    → is_named q y.id ≡ true → x.serial ≡ y.serial → ⊥
given_once g s v q a w before two x y m n named e =
    let new : is_new s g y.serial ≡ true = new_along g before y.serial (two.above y n ∙ named) in
    let old = stored_not_new s g x m in
    let i = ap (is_new s g) e in
    impossible (cc)
