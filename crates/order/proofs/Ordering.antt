-- The order of rows: it has the same elements, in it the ranks do not fall and within a rank the places rise, as they do in a store that is
-- read, and elements whose ranks do not fall keep their order. Which elements are kept does not matter to it, and the first storage index stays the first.
-- Assumes nothing.
use mathlib.Core.Path.{◌≡◌, refl, sym, ap, ◌∙◌}
use mathlib.Core.Bool.{Bool}
use mathlib.Core.List.{List, [], ◌∷◌, ◌++◌}
use Prim.Native.Nat.{ℕ, ◌+◌, ◌*◌, ◌≤◌, ◌<◌}
use native.Mathlib.Omega.{arith}
use lib.ListN.{length}
use lib.Dec.{eqb, ltb}
use borrow.Author.Tests.{eq-eqb, ne_eqb, eqb-true, lt-ltb, le-ltb}
use Rattle.laws.specs.Pick.{pick}
use Rattle.laws.proofs.Cases.{by_bool, by_eq, by_lt}
use Rattle.talk.specs.Each.{Each}
use Rattle.talk.specs.Wanted.{keep}
use Rattle.talk.proofs.Things.{each_so}
use Rattle.talk.proofs.Delivery.{keep_append}
use Rattle.store.specs.Chain.{Tiles}
use Rattle.store.specs.Store.{store_walk}
use Rattle.store.specs.Held.{storage_index}
use Rattle.store.specs.declared.element.Element.{Element}
use Rattle.store.proofs.Chains.{StoreRead, store_tiles}
use Rattle.store.proofs.Rows.{length_flat}
use Rattle.order.specs.Order.{rank_of, of_rank, ordered, ranked_row, ranked_rows, ranked_width}
use Rattle.order.specs.Rearranged.{Inserted, here, Rearranged, nothing, one_more, Pairs}
use Rattle.order.proofs.Rearranged.{inserted_behind, rearranged_length, each_append, pairs_append, pairs_kept}

-- ---- a rank is 1, 2, 3, 4 or 5

pub by_rank : {P : Type 0} (x : Element) → (rank_of x ≡ 1 → P) → (rank_of x ≡ 2 → P) → (rank_of x ≡ 3 → P) → (rank_of x ≡ 4 → P) → (rank_of x ≡ 5 → P) → P
unfolding rank_of
by_rank x one two three four five =
    by_eq x.kind 0
    (λ e. five (rw (eq-eqb x.kind 0 e)))
    (λ e.
    by_lt 4 x.kind
    (λ l. five (rw (ne_eqb x.kind 0 e, lt-ltb 4 x.kind l)))
    (λ l.
    let r : pick (eqb x.kind 0) 5 (pick (ltb 4 x.kind) 5 x.kind) ≡ x.kind = rw (ne_eqb x.kind 0 e, le-ltb 4 x.kind l) in
    by_eq x.kind 1 (λ k. one (r ∙ k))
    (λ f. by_eq x.kind 2 (λ k. two (r ∙ k))
    (λ g. by_eq x.kind 3 (λ k. three (r ∙ k))
    (λ h. four (r ∙ (let z : x.kind ≡ 4 = omega arith in z)))))))

-- type 1 is rank 1
pub first_rank : (x : Element) → eqb (rank_of x) 1 ≡ eqb x.kind 1
unfolding rank_of
first_rank x =
    by_eq x.kind 0
    (λ e. rw (eq-eqb x.kind 0 e, e))
    (λ e.
    by_lt 4 x.kind
    (λ l. let n : x.kind ≡ 1 → ⊥ = λ k. omega arith in rw (ne_eqb x.kind 0 e, lt-ltb 4 x.kind l, ne_eqb x.kind 1 n))
    (λ l. rw (ne_eqb x.kind 0 e, le-ltb 4 x.kind l)))

-- ---- the same elements

-- one element more stands before the others of its rank
inserted_first : (x : Element) (xs : List Element) → Inserted x (ordered xs) (ordered (x ∷ xs))
unfolding ordered keep
inserted_first x xs =
    by_rank x
    (λ e. rw e (here _))
    (λ e. rw e (inserted_behind (of_rank 1 xs) (here _)))
    (λ e. rw e (inserted_behind (of_rank 1 xs) (inserted_behind (of_rank 2 xs) (here _))))
    (λ e. rw e (inserted_behind (of_rank 1 xs) (inserted_behind (of_rank 2 xs) (inserted_behind (of_rank 3 xs) (here _)))))
    (λ e. rw e (inserted_behind (of_rank 1 xs) (inserted_behind (of_rank 2 xs) (inserted_behind (of_rank 3 xs) (inserted_behind (of_rank 4 xs) (here _))))))

pub rearranged : (xs : List Element) → Rearranged xs (ordered xs)
unfolding ordered keep
rearranged [] = nothing
rearranged (x ∷ xs) = one_more (rearranged xs) (inserted_first x xs)

pub length_ordered : (xs : List Element) → length (ordered xs) ≡ length xs
length_ordered xs = rearranged_length (rearranged xs)

pub ranked_length : (xs : List Element) → length (ranked_rows (ordered xs)) ≡ length xs * ranked_width
ranked_length xs = length_flat ranked_row ranked_width (λ x. refl) (ordered xs) ∙ ap (λ (n : ℕ). n * ranked_width) (length_ordered xs)

-- ---- the ranks do not fall, and within a rank the places rise

-- all of one rank
all_rank : (r : ℕ) (xs : List Element) → Each (λ (x : Element). rank_of x ≡ r) (of_rank r xs)
unfolding keep
all_rank r [] = tt
all_rank r (x ∷ xs) = by_bool (eqb (rank_of x) r) (λ e. rw e (eqb-true (rank_of x) r e, all_rank r xs)) (λ e. rw e (all_rank r xs))

-- what holds of each two of a list with those of one rank before it, whose ranks are above: of two of one rank, and of one and a later one
module _ (R : Element → Element → Type 0) (later : (x y : Element) → rank_of x < rank_of y → R x y) where
  rank_before : (r : ℕ) (xs ys : List Element) → Pairs R (of_rank r xs) → Each (λ (y : Element). r < rank_of y) ys → Pairs R ys → Pairs R (of_rank r xs ++ ys)
  rank_before r xs ys p a q =
      pairs_append R (of_rank r xs) ys p q
      (each_so (λ (x : Element). rank_of x ≡ r) (λ (x : Element). Each (R x) ys) (of_rank r xs)
      (λ x e. each_so (λ (y : Element). r < rank_of y) (R x) ys (λ y l. later x y (omega arith)) a)
      (all_rank r xs))

  above : (r m : ℕ) (xs ys : List Element) → m < r → Each (λ (y : Element). r < rank_of y) ys → Each (λ (y : Element). m < rank_of y) (of_rank r xs ++ ys)
  above r m xs ys l a =
      each_append (λ (y : Element). m < rank_of y) (of_rank r xs) ys
      (each_so (λ (y : Element). rank_of y ≡ r) (λ (y : Element). m < rank_of y) (of_rank r xs) (λ y e. omega arith) (all_rank r xs))
      (each_so (λ (y : Element). r < rank_of y) (λ (y : Element). m < rank_of y) ys (λ y k. omega arith) a)

  pairs_ordered : (xs : List Element) → ((r : ℕ) → Pairs R (of_rank r xs)) → Pairs R (ordered xs)
  unfolding ordered
  pairs_ordered xs p =
      let last = each_so (λ (y : Element). rank_of y ≡ 5) (λ (y : Element). 4 < rank_of y) (of_rank 5 xs) (λ y e. omega arith) (all_rank 5 xs) in
      let four = above 4 3 xs (of_rank 5 xs) (omega arith) last in
      let three = above 3 2 xs (of_rank 4 xs ++ of_rank 5 xs) (omega arith) four in
      let two = above 2 1 xs (of_rank 3 xs ++ (of_rank 4 xs ++ of_rank 5 xs)) (omega arith) three in
      rank_before 1 xs (of_rank 2 xs ++ (of_rank 3 xs ++ (of_rank 4 xs ++ of_rank 5 xs))) (p 1) two
      (rank_before 2 xs (of_rank 3 xs ++ (of_rank 4 xs ++ of_rank 5 xs)) (p 2) three
      (rank_before 3 xs (of_rank 4 xs ++ of_rank 5 xs) (p 3) four (rank_before 4 xs (of_rank 5 xs) (p 4) last (p 5))))

-- of one rank
same_rank : (r : ℕ) (xs : List Element) → Each (λ (x : Element). rank_of x ≡ r) xs → Pairs (λ (x y : Element). rank_of x ≤ rank_of y) xs
same_rank r [] h = tt
same_rank r (x ∷ xs) h =
    let e = h.0 in
    (each_so (λ (y : Element). rank_of y ≡ r) (λ (y : Element). rank_of x ≤ rank_of y) xs (λ y f. omega arith) h.1, same_rank r xs h.1)

abbrev pub NotFalling : List Element → Type 0
NotFalling xs = Pairs (λ (x y : Element). rank_of x ≤ rank_of y) xs

pub ranks_do_not_fall : (xs : List Element) → NotFalling (ordered xs)
ranks_do_not_fall xs =
    pairs_ordered (λ (x y : Element). rank_of x ≤ rank_of y) (λ x y l. omega arith) xs (λ r. same_rank r (of_rank r xs) (all_rank r xs))

abbrev pub PlacesRise : List Element → Type 0
PlacesRise xs = Pairs (λ (x y : Element). x.place < y.place) xs

pub places_rise : (xs : List Element) → PlacesRise xs → Pairs (λ (x y : Element). rank_of x ≡ rank_of y → x.place < y.place) (ordered xs)
places_rise xs h =
    pairs_ordered (λ (x y : Element). rank_of x ≡ rank_of y → x.place < y.place) (λ x y l e. absurd (omega arith)) xs
    (λ r. pairs_so (of_rank r xs) (pairs_kept (λ (x y : Element). x.place < y.place) (λ (x : Element). eqb (rank_of x) r) xs h))
  where
    pairs_so : (ys : List Element) → PlacesRise ys → Pairs (λ (x y : Element). rank_of x ≡ rank_of y → x.place < y.place) ys
    pairs_so [] p = tt
    pairs_so (y ∷ ys) p = (each_so (λ (z : Element). y.place < z.place) (λ (z : Element). rank_of y ≡ rank_of z → y.place < z.place) ys (λ z l e. l) p.0, pairs_so ys p.1)

-- ---- elements whose ranks do not fall keep their order

none_below : (r m : ℕ) (xs : List Element) → m < r → Each (λ (y : Element). r ≤ rank_of y) xs → of_rank m xs ≡ []
unfolding keep
none_below r m [] l h = refl
none_below r m (x ∷ xs) l h =
    let k = h.0 in
    let n : rank_of x ≡ m → ⊥ = λ e. omega arith in
    rw (ne_eqb (rank_of x) m n) (none_below r m xs l h.1)

first_stays : (x : Element) (xs : List Element) → Each (λ (y : Element). rank_of x ≤ rank_of y) xs → ordered (x ∷ xs) ≡ x ∷ ordered xs
unfolding ordered keep
first_stays x xs h =
    by_rank x
    (λ e. rw e)
    (λ e. let g = rw e at h in rw (e, none_below 2 1 xs (omega arith) g))
    (λ e. let g = rw e at h in rw (e, none_below 3 1 xs (omega arith) g, none_below 3 2 xs (omega arith) g))
    (λ e. let g = rw e at h in rw (e, none_below 4 1 xs (omega arith) g, none_below 4 2 xs (omega arith) g, none_below 4 3 xs (omega arith) g))
    (λ e. let g = rw e at h in rw (e, none_below 5 1 xs (omega arith) g, none_below 5 2 xs (omega arith) g, none_below 5 3 xs (omega arith) g, none_below 5 4 xs (omega arith) g))

pub keeps_order : (xs : List Element) → NotFalling xs → ordered xs ≡ xs
unfolding ordered keep
keeps_order [] h = refl
keeps_order (x ∷ xs) h = first_stays x xs h.0 ∙ ap (λ (l : List Element). x ∷ l) (keeps_order xs h.1)

-- ---- which are kept does not matter to it

keep_turn : (p q : Element → Bool) (xs : List Element) → keep p (keep q xs) ≡ keep q (keep p xs)
unfolding keep
keep_turn p q [] = refl
keep_turn p q (x ∷ xs) =
    by_bool (p x)
    (λ e. by_bool (q x) (λ f. simp (e, f, keep_turn p q xs)) (λ f. simp (e, f, keep_turn p q xs)))
    (λ e. by_bool (q x) (λ f. simp (e, f, keep_turn p q xs)) (λ f. simp (e, f, keep_turn p q xs)))

pub keep_ordered : (p : Element → Bool) (xs : List Element) → keep p (ordered xs) ≡ ordered (keep p xs)
unfolding ordered
keep_ordered p xs =
    simp (keep_append p)
    (rw (keep_turn p (λ (x : Element). eqb (rank_of x) 1) xs, keep_turn p (λ (x : Element). eqb (rank_of x) 2) xs, keep_turn p (λ (x : Element). eqb (rank_of x) 3) xs, keep_turn p (λ (x : Element). eqb (rank_of x) 4) xs, keep_turn p (λ (x : Element). eqb (rank_of x) 5) xs))

-- ---- the first storage index stays the first

index_of_rank : (xs : List Element) → storage_index (of_rank 1 xs) ≡ storage_index xs
unfolding storage_index keep
index_of_rank [] = refl
index_of_rank (x ∷ xs) =
    by_bool (eqb x.kind 1)
    (λ e. rw (first_rank x, e, e))
    (λ e. rw (first_rank x, e) (index_of_rank xs))

pub same_index : (xs : List Element) → storage_index (ordered xs) ≡ storage_index xs
same_index xs =
    sym (index_of_rank (ordered xs))
    ∙ ap storage_index (keep_ordered (λ (x : Element). eqb (rank_of x) 1) xs ∙ keeps_order (of_rank 1 xs) (same_rank 1 (of_rank 1 xs) (all_rank 1 xs)))
    ∙ index_of_rank xs

-- ---- of a store that is read

places_from_lem : (at e : ℕ) (xs : List Element) → Tiles at xs e → Each (λ (y : Element). at ≤ y.place) xs
places_from_lem at e [] t = tt
places_from_lem at e (x ∷ xs) t =
    let p = t.0 in
    (omega arith, each_so (λ (y : Element). at + x.length ≤ y.place) (λ (y : Element). at ≤ y.place) xs (λ y l. omega arith) (places_from_lem (at + x.length) e xs t.2))

tiles_rise : (at e : ℕ) (xs : List Element) → Tiles at xs e → PlacesRise xs
tiles_rise at e [] t = tt
tiles_rise at e (x ∷ xs) t =
    let p = t.0 in
    let l = t.1 in (
      each_so (λ (y : Element). at + x.length ≤ y.place) (λ (y : Element). x.place < y.place) xs (λ y k. omega arith) (places_from_lem (at + x.length) e xs t.2),
      tiles_rise (at + x.length) e xs t.2,
    )

-- the places of its elements rise, and in row order within a rank
pub store_places_rise : (s : List ℕ) → StoreRead s → PlacesRise (store_walk s).elements
store_places_rise s r = tiles_rise r.first r.end (store_walk s).elements (store_tiles s r)

pub rows_rise : (s : List ℕ) → StoreRead s → Pairs (λ (x y : Element). rank_of x ≡ rank_of y → x.place < y.place) (ordered (store_walk s).elements)
rows_rise s r = places_rise (store_walk s).elements (store_places_rise s r)
