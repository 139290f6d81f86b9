-- Serial numbers (document 02, Q-1): "Each gets a new serial number, in order: one above the highest in the store under the hub's GUID".
-- The highest is not below any number under the GUID; so a new serial number is no element's of the store, and no other new one's. No id
-- stands twice in the new store; and no serial number does, if none does in the store.
-- Assumes nothing.
use mathlib.Core.Path.{◌≡◌, refl, sym, ap, ◌∙◌}
use mathlib.Core.Bool.{true}
use mathlib.Core.List.Memᴰ.{cases_cons as first-or-later}
use mathlib.Core.List.Memᴰ.{head as here}
use mathlib.Core.List.Memᴰ.{not-nil as none_in}
use mathlib.Core.List.Memᴰ.{of_map}
use mathlib.Core.List.Memᴰ.{tail as later}
use mathlib.Core.List.{List, [], ◌∷◌, map, Memᴰ as In}
use mathlib.Core.Logic.{◌⊎◌, inl, inr, ⊎_elim}
use Prim.Native.Nat.{ℕ, zero, suc, ◌+◌, ◌≤◌, ◌<◌, max}
use native.Mathlib.Omega.{arith}
use lib.ListN.{length, get_or}
use borrow.Author.Tests.{eq-eqb}
use Rattle.laws.specs.Once.{seen, once}
use Rattle.laws.proofs.Cases.{by_bool, by_lt}
use Rattle.numbers.specs.declared.guid.Guid.{Guid}
use Rattle.store.specs.Element.{key_of, same_key, ids_in}
use Rattle.store.specs.declared.element.Key.{Key}
use Rattle.store.specs.declared.element.Element.{Element}
use Rattle.enter.specs.Entering.{Kept, kept_id, enter}
use Rattle.puts.specs.NewStore.{entering, entering_from, under_guid, highest_under, first_number, new_elements, staying}
use Rattle.enter.proofs.KeptIn.{kept_serial, serials_of, kept_in_ids, kept_in_serial, kept_in_serials}
use Rattle.enter.proofs.Keys.{member_seen, once_one, once_other}
use Rattle.enter.proofs.EnteringLaws.{ids_once, nothing_else}

-- ---- the highest

pub highest_most : (g : Guid) (all : List Element) (x : Element) → In x all → under_guid g x.serial ≡ true → x.serial.number ≤ highest_under g all
unfolding highest_under
highest_most g [] x m h = absurd (none_in m)
highest_most g (y ∷ all) x m h =
    ⊎_elim
    (λ (p : x ≡ y).
    let e : under_guid g y.serial ≡ true = rw p at h in
    let n : x.serial.number ≡ y.serial.number = ap (λ (z : Element). z.serial.number) p in
    rw e (omega arith))
    (λ n. let i = highest_most g all x n h in by_bool (under_guid g y.serial) (λ e. rw e (omega arith)) (λ e. rw e i))
    (first-or-later m)

pub under_itself : (g : Guid) (n : ℕ) → under_guid g (key_of g n) ≡ true
unfolding under_guid
under_itself g n = rw (eq-eqb g.low g.low refl, eq-eqb g.high g.high refl)

-- an element of some has the highest number under the GUID
abbrev pub HasHighest : Guid → List Element → ℕ → Type 0
HasHighest g all n = (x : Element) × In x all × (under_guid g x.serial ≡ true) × (x.serial.number ≡ n)

has_more : (g : Guid) (y : Element) (all : List Element) (n : ℕ) → HasHighest g all n → HasHighest g (y ∷ all) n
has_more g y all n r = (r.0, later r.1, r.2, r.3)

-- it is a number of the store's under the GUID, or there is none, and it is 0
pub highest_met : (g : Guid) (all : List Element) → (highest_under g all ≡ 0) ⊎ HasHighest g all (highest_under g all)
unfolding highest_under
highest_met g [] = inl refl
highest_met g (y ∷ all) =
    let h = highest_under g all in
    let n = y.serial.number in
    by_bool (under_guid g y.serial)
    (λ e.
    rw e
    (by_lt n h
    (λ l. let m : max n h ≡ h = omega arith in rw m (⊎_elim (λ z. absurd (omega arith)) (λ r. inr (has_more g y all h r)) (highest_met g all)))
    (λ l. inr (y, here refl, e, omega arith))))
    (λ e. rw e (⊎_elim inl (λ r. inr (has_more g y all h r)) (highest_met g all)))

-- ---- the new ones

-- an element of the put, as it entered: with a number under the GUID, from a first one on, and no more than there are elements
pub record Came (q : List ℕ) (g : Guid) (first : ℕ) (handed : List Element) (y : Kept) : Type 0 where
  pub element : Element
  pub among : In element handed
  pub number : ℕ
  pub from : first ≤ number
  pub below : number < first + length handed
  pub is : y ≡ entering q (key_of g number) element

pub came : (q : List ℕ) (g : Guid) (first : ℕ) (handed : List Element) (y : Kept) → In y (entering_from q g first handed) → Came q g first handed y
unfolding entering_from
came q g first [] y m = absurd (none_in m)
came q g first (x ∷ handed) y m =
    ⊎_elim
    (λ p. record { element = x; among = here refl; number = first; from = omega arith; below = omega arith; is = p })
    (λ n.
    let r = came q g (suc first) handed y n in
    let a = r.from in
    let b = r.below in
    record { element = r.element; among = later r.among; number = r.number; from = omega arith; below = omega arith; is = r.is })
    (first-or-later m)

pub came_serial : {q : List ℕ} {g : Guid} {first : ℕ} {handed : List Element} {y : Kept} (r : Came q g first handed y) → y.serial ≡ key_of g r.number
unfolding entering
came_serial r = ap kept_serial r.is

-- each element of the put enters
pub all_enter : (q : List ℕ) (g : Guid) (first : ℕ) (handed : List Element) (x : Element) → In x handed → (n : ℕ) × In (entering q (key_of g n) x) (entering_from q g first handed)
unfolding entering_from
all_enter q g first [] x m = absurd (none_in m)
all_enter q g first (y ∷ handed) x m =
    ⊎_elim (λ p. (first, here (ap (entering q (key_of g first)) p))) (λ n. let r = all_enter q g (suc first) handed x n in (r.0, later r.1)) (first-or-later m)

-- in order: one number after the other
pub in_order : (q : List ℕ) (g : Guid) (first : ℕ) (handed : List Element) (i : ℕ) (d : Key) → i < length handed
    → get_or (map kept_serial (entering_from q g first handed)) i d ≡ key_of g (first + i)
unfolding entering_from entering
in_order q g first [] i d h = absurd (omega arith)
in_order q g first (x ∷ handed) zero d h = ap (key_of g) (omega arith)
in_order q g first (x ∷ handed) (suc i) d h = in_order q g (suc first) handed i d (omega arith) ∙ ap (key_of g) (omega arith)

-- each is another
pub new_serials_once : (q : List ℕ) (g : Guid) (number : ℕ) (handed : List Element) → once same_key (map kept_serial (entering_from q g number handed)) ≡ true
unfolding entering_from entering once
new_serials_once q g number [] = refl
new_serials_once q g number (x ∷ handed) =
    by_bool (seen same_key (key_of g number) (map kept_serial (entering_from q g (suc number) handed)))
    (λ e.
    let r = member_seen kept_serial (key_of g number) (entering_from q g (suc number) handed) e in
    let n = came q g (suc number) handed r.0 r.1 in
    let z = ap (λ (k : Key). k.number) (sym r.2 ∙ came_serial n) in
    let l = n.from in
    absurd (omega arith))
    (λ e. rw e (new_serials_once q g (suc number) handed))

-- and none is in the store
pub new_serial_differs : (q : List ℕ) (g : Guid) (all handed : List Element) (x : Element) (y : Kept) → In x all → In y (entering_from q g (first_number g all) handed)
    → x.serial ≡ y.serial → ⊥
new_serial_differs q g all handed x y m n e =
    let r = came q g (first_number g all) handed y n in
    let k : x.serial ≡ key_of g r.number = e ∙ came_serial r in
    let h = highest_most g all x m (rw k (under_itself g r.number)) in
    let z = ap (λ (k : Key). k.number) k in
    let l = r.from in
    omega arith

-- ---- none stands twice in the new store

pub staying_serial : (s : List ℕ) (x : Element) → (staying s x).serial ≡ x.serial
staying_serial = kept_in_serial

pub staying_serials : (s : List ℕ) (all : List Element) → map kept_serial (map (staying s) all) ≡ serials_of all
staying_serials = kept_in_serials

pub entering_ids : (q : List ℕ) (g : Guid) (number : ℕ) (handed : List Element) → map kept_id (entering_from q g number handed) ≡ ids_in handed
unfolding entering_from entering
entering_ids q g number [] = refl
entering_ids q g number (x ∷ handed) = rw (entering_ids q g (suc number) handed)

module _ (s : List ℕ) (all : List Element) (q : List ℕ) (handed : List Element) (g : Guid) (ids : once same_key (ids_in all) ≡ true) (handed-ids : once same_key (ids_in handed) ≡ true) where
  abbrev before : List Kept
  before = map (staying s) all

  abbrev come : List Kept
  come = entering_from q g (first_number g all) handed

  pub new_ids : once same_key (map kept_id (new_elements s all q handed g)) ≡ true
  unfolding new_elements
  new_ids = ids_once before come (rw (kept_in_ids s all) ids) (rw (entering_ids q g (first_number g all) handed) handed-ids)

  apart : (x y : Kept) → In x before → In y come → x.serial ≡ y.serial → ⊥
  apart x y m n e =
      let r = of_map (staying s) all m in
      new_serial_differs q g all handed r.0 y r.1 n (sym (kept_in_serial s r.0) ∙ ap kept_serial r.2 ∙ e)

  one_of_each : once same_key (serials_of all) ≡ true → (x y : Kept) → In x (enter before come) → In y (enter before come) → x.serial ≡ y.serial → x.id ≡ y.id
  one_of_each serials x y m n e =
      ⊎_elim
      (λ a. ⊎_elim (λ b. ap kept_id (once_one kept_serial before (rw (kept_in_serials s all) serials) a.0 b.0 e)) (λ b. absurd (apart x y a.0 b e)) (nothing_else before come y n))
      (λ a. ⊎_elim (λ b. absurd (apart y x b.0 a (sym e))) (λ b. ap kept_id (once_one kept_serial come (new_serials_once q g (first_number g all) handed) a b e)) (nothing_else before come y n))
      (nothing_else before come x m)

  pub new_serials : once same_key (serials_of all) ≡ true → once same_key (map kept_serial (new_elements s all q handed g)) ≡ true
  unfolding new_elements
  new_serials serials = once_other kept_id kept_serial (enter before come) new_ids (one_of_each serials)
