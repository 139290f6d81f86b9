-- What a list in another order keeps: its length, what holds of each of its things, that no key stands twice. And what holds of each two
-- things of two lists, one behind the other, and of those that are kept; that no key stands twice is such a thing.
-- Assumes nothing.
use mathlib.Core.Path.{◌≡◌, refl, ap, ◌∙◌}
use mathlib.Core.Bool.{Bool, true, false, not}
use mathlib.Core.List.{List, [], ◌∷◌, ◌++◌, map}
use Prim.Native.Nat.{suc}
use lib.ListN.{length}
use Rattle.laws.specs.Pick.{pick}
use Rattle.laws.specs.Once.{seen, once}
use Rattle.laws.proofs.Cases.{by_bool, neither, both}
use Rattle.talk.specs.Each.{Each}
use Rattle.talk.specs.Wanted.{keep}
use Rattle.talk.proofs.Things.{each_kept}
use Rattle.order.specs.Rearranged.{Inserted, here, there, Rearranged, nothing, one_more, Pairs}

-- ---- one thing more

module _ {E : Type 0} where
  pub inserted_behind : {x : E} (pre : List E) {l m : List E} → Inserted x l m → Inserted x (pre ++ l) (pre ++ m)
  inserted_behind [] i = i
  inserted_behind (y ∷ pre) i = there y (inserted_behind pre i)

  inserted_length : {x : E} {l m : List E} → Inserted x l m → length m ≡ suc (length l)
  inserted_length (here l) = refl
  inserted_length (there y i) = ap suc (inserted_length i)

  inserted_each : (P : E → Type 0) {x : E} {l m : List E} → Inserted x l m → P x → Each P l → Each P m
  inserted_each P (here l) p h = (p, h)
  inserted_each P (there y i) p h = (h.0, inserted_each P i p h.1)

  -- ---- another order

  pub rearranged_length : {xs ys : List E} → Rearranged xs ys → length ys ≡ length xs
  rearranged_length nothing = refl
  rearranged_length (one_more r i) = inserted_length i ∙ ap suc (rearranged_length r)

  pub rearranged_each : (P : E → Type 0) {xs ys : List E} → Rearranged xs ys → Each P xs → Each P ys
  rearranged_each P nothing h = tt
  rearranged_each P (one_more r i) h = inserted_each P i h.0 (rearranged_each P r h.1)

  -- and the other way round
  inserted_back : {x : E} {l m xs : List E} → Inserted x l m → Rearranged l xs → Rearranged m (x ∷ xs)
  inserted_back (here l) r = one_more r (here _)
  inserted_back {x} (there y i) (one_more r j) = one_more (inserted_back i r) (there x j)

  pub rearranged_back : {xs ys : List E} → Rearranged xs ys → Rearranged ys xs
  rearranged_back nothing = nothing
  rearranged_back (one_more r i) = inserted_back i (rearranged_back r)

  -- those of which a test holds, before the others in any order
  pub kept_first : (test : E → Bool) (xs : List E) {m : List E} → Rearranged (keep (λ x. not (test x)) xs) m → Rearranged xs (keep test xs ++ m)
  unfolding keep
  kept_first test [] r = r
  kept_first test (x ∷ xs) r =
      by_bool (test x)
      (λ e. rw e (one_more (kept_first test xs (rw e at r)) (here _)))
      (λ e. rw e (past (keep test xs) (λ l q. kept_first test xs q) (rw e at r)))
    where
      past : {y : E} {ys zs n : List E} (pre : List E) → ((l : List E) → Rearranged zs l → Rearranged ys (pre ++ l)) → Rearranged (y ∷ zs) n → Rearranged (y ∷ ys) (pre ++ n)
      past pre f (one_more q i) = one_more (f _ q) (inserted_behind pre i)

-- ---- no key stands twice

module _ {E K : Type 0} (same : K → K → Bool) (key : E → K) where
  seen_inserted : {x : E} {l m : List E} → Inserted x l m → (k : K) → seen same k (map key m) ≡ pick (same k (key x)) true (seen same k (map key l))
  unfolding seen
  seen_inserted (here l) k = refl
  seen_inserted {x} (there y {l} {m} i) k =
      by_bool (same k (key y))
      (λ e. rw e (by_bool (same k (key x)) (λ f. rw f) (λ f. rw f)))
      (λ e. rw (e, seen_inserted i k))

  seen_rearranged : {xs ys : List E} → Rearranged xs ys → (k : K) → seen same k (map key ys) ≡ seen same k (map key xs)
  unfolding seen
  seen_rearranged nothing k = refl
  seen_rearranged {xs = x ∷ xs} (one_more r i) k = rw (seen_inserted i k, seen_rearranged r k)

  once_inserted : ((a b : K) → same a b ≡ same b a) → {x : E} {l m : List E} → Inserted x l m → seen same (key x) (map key l) ≡ false → once same (map key l) ≡ true
      → once same (map key m) ≡ true
  unfolding once seen
  once_inserted turn (here l) h o = rw (h, o)
  once_inserted turn {x} (there y {l} {m} i) h o =
      let p = neither (same (key x) (key y)) (seen same (key x) (map key l)) h in
      let q = both (seen same (key y) (map key l)) (once same (map key l)) o in
      rw (seen_inserted i (key y), turn (key y) (key x), p.0, q.0) (once_inserted turn i p.1 q.1)

  pub once_rearranged : ((a b : K) → same a b ≡ same b a) → {xs ys : List E} → Rearranged xs ys → once same (map key xs) ≡ true → once same (map key ys) ≡ true
  unfolding once
  once_rearranged turn nothing h = refl
  once_rearranged turn {xs = x ∷ xs} (one_more r i) h =
      let q = both (seen same (key x) (map key xs)) (once same (map key xs)) h in
      once_inserted turn i (seen_rearranged r (key x) ∙ q.0) (once_rearranged turn r q.1)

-- ---- each two things

pub each_append : {E : Type 0} (P : E → Type 0) (xs ys : List E) → Each P xs → Each P ys → Each P (xs ++ ys)
each_append P [] ys h g = g
each_append P (x ∷ xs) ys h g = (h.0, each_append P xs ys h.1 g)

pub each_parts : {E : Type 0} (P : E → Type 0) (xs ys : List E) → Each P (xs ++ ys) → Each P xs × Each P ys
each_parts P [] ys h = (tt, h)
each_parts P (x ∷ xs) ys h = let r = each_parts P xs ys h.1 in ((h.0, r.0), r.1)

module _ {E : Type 0} (R : E → E → Type 0) where
  pub pairs_append : (xs ys : List E) → Pairs R xs → Pairs R ys → Each (λ x. Each (R x) ys) xs → Pairs R (xs ++ ys)
  pairs_append [] ys p q h = q
  pairs_append (x ∷ xs) ys p q h = (each_append (R x) xs ys p.0 h.0, pairs_append xs ys p.1 q h.1)

  pub pairs_parts : (xs ys : List E) → Pairs R (xs ++ ys) → Pairs R xs × Pairs R ys × Each (λ x. Each (R x) ys) xs
  pairs_parts [] ys p = (tt, p, tt)
  pairs_parts (x ∷ xs) ys p =
      let h = each_parts (R x) xs ys p.0 in
      let r = pairs_parts xs ys p.1 in
      ((h.0, r.0), r.1, (h.1, r.2))

  pub pairs_kept : (test : E → Bool) (xs : List E) → Pairs R xs → Pairs R (keep test xs)
  unfolding keep
  pairs_kept test [] p = tt
  pairs_kept test (x ∷ xs) p =
      by_bool (test x) (λ e. rw e (each_kept (R x) test xs p.0, pairs_kept test xs p.1)) (λ e. rw e (pairs_kept test xs p.1))

-- ---- no key stands twice: of each two the keys differ

module _ {E K : Type 0} (same : K → K → Bool) (key : E → K) where
  pub unseen_each : (k : K) (xs : List E) → seen same k (map key xs) ≡ false → Each (λ (x : E). same k (key x) ≡ false) xs
  unfolding seen
  unseen_each k [] h = tt
  unseen_each k (x ∷ xs) h = let p = neither (same k (key x)) (seen same k (map key xs)) h in (p.0, unseen_each k xs p.1)

  pub each_unseen : (k : K) (xs : List E) → Each (λ (x : E). same k (key x) ≡ false) xs → seen same k (map key xs) ≡ false
  unfolding seen
  each_unseen k [] h = refl
  each_unseen k (x ∷ xs) h = rw h.0 (each_unseen k xs h.1)

  abbrev pub Differ : List E → Type 0
  Differ xs = Pairs (λ (x y : E). same (key x) (key y) ≡ false) xs

  pub once_differ : (xs : List E) → once same (map key xs) ≡ true → Differ xs
  unfolding once
  once_differ [] h = tt
  once_differ (x ∷ xs) h = let p = both (seen same (key x) (map key xs)) (once same (map key xs)) h in (unseen_each (key x) xs p.0, once_differ xs p.1)

  pub differ_once : (xs : List E) → Differ xs → once same (map key xs) ≡ true
  unfolding once
  differ_once [] h = refl
  differ_once (x ∷ xs) h = rw (each_unseen (key x) xs h.0) (differ_once xs h.1)
