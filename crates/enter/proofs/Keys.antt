-- What 'seen before' and 'no key twice' say of the things that have the keys: for the laws of EnteringLaws, Serials and NewStoreReads.
-- Assumes nothing.
use mathlib.Core.Path.{◌≡◌, refl, sym, ap, ◌∙◌}
use mathlib.Core.Bool.{Bool, true, false}
use mathlib.Core.List.Memᴰ.{cases_cons as first-or-later}
use mathlib.Core.List.Memᴰ.{head as here}
use mathlib.Core.List.Memᴰ.{not-nil as none_in}
use mathlib.Core.List.Memᴰ.{tail as later}
use mathlib.Core.List.{List, [], ◌∷◌, ◌++◌, map, Memᴰ as In}
use mathlib.Core.Logic.{⊎_elim}
use Rattle.laws.specs.Pick.{pick}
use Rattle.laws.specs.Once.{seen, once}
use Rattle.laws.proofs.Cases.{by_bool, both, impossible}
use Rattle.laws.proofs.Twice.{seen_append}
use Rattle.store.specs.Element.{same_key}
use Rattle.store.specs.declared.element.Key.{Key}
use Rattle.store.proofs.Rows.{same_equal, same_itself}

-- ---- the keys of two lists

always : (b : Bool) → pick b true true ≡ true
always true = refl
always false = refl

pub seen_more : (k x : Key) (xs : List Key) → seen same_key k xs ≡ true → seen same_key k (x ∷ xs) ≡ true
unfolding seen
seen_more k x xs h = rw h (always (same_key k x))

pub seen_itself : (k : Key) (xs : List Key) → seen same_key k (k ∷ xs) ≡ true
unfolding seen
seen_itself k xs = rw (same_itself k)

-- no key stands twice in the two where none does in either, and no key stands in both
pub once_both : (xs ys : List Key) → once same_key xs ≡ true → once same_key ys ≡ true → ((k : Key) → seen same_key k xs ≡ true → seen same_key k ys ≡ false)
    → once same_key (xs ++ ys) ≡ true
unfolding once
once_both [] ys a b f = b
once_both (x ∷ xs) ys a b f =
    let p = both (seen same_key x xs) (once same_key xs) a in
    rw (seen_append same_key x xs ys, p.0, f x (seen_itself x xs)) (once_both xs ys p.1 b (λ k h. f k (seen_more k x xs h)))

-- ---- the things that have the keys

module _ {E : Type 0} (key : E → Key) where
  pub seen_member : (l : List E) {x : E} → In x l → seen same_key (key x) (map key l) ≡ true
  seen_member [] m = absurd (none_in m)
  seen_member (y ∷ l) {x} m =
      ⊎_elim (λ p. rw p (seen_itself (key y) (map key l))) (λ n. seen_more (key x) (key y) (map key l) (seen_member l n)) (first-or-later m)

  pub member_seen : (k : Key) (l : List E) → seen same_key k (map key l) ≡ true → (x : E) × In x l × (key x ≡ k)
  unfolding seen
  member_seen k [] h = impossible (cc)
  member_seen k (x ∷ l) h =
      by_bool (same_key k (key x)) (λ e. (x, here refl, sym (same_equal k (key x) e)))
      (λ e. let r = member_seen k l (rw e at h) in (r.0, later r.1, r.2))

  -- nothing has a key that was not seen
  pub unseen_member : (k : Key) (l : List E) → seen same_key k (map key l) ≡ false → {x : E} → In x l → key x ≡ k → ⊥
  unseen_member k l h m e = impossible (let z = seen_member l m in let w = ap (λ (j : Key). seen same_key j (map key l)) e in cc)

  once_first : (x : E) (l : List E) → once same_key (map key (x ∷ l)) ≡ true → (seen same_key (key x) (map key l) ≡ false) × (once same_key (map key l) ≡ true)
  unfolding once
  once_first x l h = both (seen same_key (key x) (map key l)) (once same_key (map key l)) h

  -- where no key stands twice, who has the same key is the same
  pub once_one : (l : List E) → once same_key (map key l) ≡ true → {x y : E} → In x l → In y l → key x ≡ key y → x ≡ y
  once_one [] o m n e = absurd (none_in m)
  once_one (z ∷ l) o {x} {y} m n e =
      let r = once_first z l o in
      ⊎_elim
      (λ p. ⊎_elim (λ q. p ∙ sym q) (λ i. absurd (unseen_member (key z) l r.0 i (sym e ∙ ap key p))) (first-or-later n))
      (λ i. ⊎_elim (λ q. absurd (unseen_member (key z) l r.0 i (e ∙ ap key q))) (λ j. once_one l r.1 i j e) (first-or-later n))
      (first-or-later m)

module _ {E : Type 0} (key other : E → Key) where
  -- where no key stands twice, no other key does that only things with one key share
  unshared : (z : E) (l : List E) → seen same_key (key z) (map key l) ≡ false
      → ((x y : E) → In x (z ∷ l) → In y (z ∷ l) → other x ≡ other y → key x ≡ key y) → seen same_key (other z) (map other l) ≡ true → ⊥
  unshared z l h f e =
      let r = member_seen other (other z) l e in
      unseen_member key (key z) l h r.1 (f r.0 z (later r.1) (here refl) r.2)

  pub once_other : (l : List E) → once same_key (map key l) ≡ true → ((x y : E) → In x l → In y l → other x ≡ other y → key x ≡ key y)
      → once same_key (map other l) ≡ true
  unfolding once
  once_other [] o f = refl
  once_other (z ∷ l) o f =
      let r = both (seen same_key (key z) (map key l)) (once same_key (map key l)) o in
      by_bool (seen same_key (other z) (map other l)) (λ e. absurd (unshared z l r.0 f e))
      (λ e. rw e (once_other l r.1 (λ x y m n. f x y (later m) (later n))))
