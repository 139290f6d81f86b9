-- What was planned by the ids is what the definition says: the numbers of the plan stand for the elements that are there then. `there` and
-- `comes` tell the elements by their rows, in whatever form they are kept; only their ids matter.
-- Assumes nothing.
use mathlib.Core.Path.{◌≡◌, refl, sym, ap, ◌∙◌}
use mathlib.Core.Bool.{Bool, true, false}
use mathlib.Core.List.{List, [], ◌∷◌, ◌++◌, map, map-append}
use Prim.Native.Nat.{ℕ, zero, suc, ◌+◌, ◌-◌, ◌*◌, ◌≤◌, ◌<◌}
use native.Mathlib.Omega.{arith}
use lib.ListN.{length, get_or, length-map}
use lib.Dec.{ltb}
use borrow.Author.Tests.{lt-ltb, le-ltb, ltb-true}
use Rattle.laws.specs.Pick.{pick}
use Rattle.laws.specs.Once.{seen}
use Rattle.laws.proofs.Cases.{by_bool, by_lt}
use Rattle.talk.specs.Each.{Each}
use Rattle.store.specs.Element.{same_key}
use Rattle.store.specs.Tables.{id_width, most_elements, key_at, keys_at, id_keys, id_in_row}
use Rattle.store.specs.declared.element.Key.{Key}
use Rattle.enter.specs.Entering.{Kept, kept_id, replaced_by, new_to, enter}
use Rattle.enter.specs.Plan.{place_among, is_among, kept_source, kept_sources, new_sources, sources}
use Rattle.enter.proofs.Planning.{place_here, place_later}

-- ---- a key among keys

among_here : (k x : Key) (keys : List Key) → same_key k x ≡ true → is_among k (x ∷ keys) ≡ true
unfolding place_among
among_here k x keys e = rw e (lt-ltb 0 (suc (length keys)) (omega arith))

among_later : (k x : Key) (keys : List Key) → same_key k x ≡ false → is_among k (x ∷ keys) ≡ is_among k keys
unfolding place_among
among_later k x keys e =
    let p = place_among k keys in
    rw e
    (by_lt p (length keys) (λ h. lt-ltb (suc p) (suc (length keys)) (omega arith) ∙ sym (lt-ltb p (length keys) h))
    (λ h. le-ltb (suc p) (suc (length keys)) (omega arith) ∙ sym (le-ltb p (length keys) h)))

among_none : (k : Key) → is_among k [] ≡ false
unfolding place_among
among_none k = le-ltb 0 0 (omega arith)

among_seen : (k : Key) (keys : List Key) → is_among k keys ≡ seen same_key k keys
unfolding seen
among_seen k [] = among_none k
among_seen k (x ∷ keys) =
    by_bool (same_key k x) (λ e. rw e (among_here k x keys e)) (λ e. among_later k x keys e ∙ among_seen k keys ∙ rw e)

-- ---- elements by their rows: so many from row i on

unfoldable pub from_row : (ℕ → Kept) → ℕ → ℕ → List Kept
from_row f i zero = []
from_row f i (suc n) = f i ∷ from_row f (suc i) n

-- the element for which a number of the plan stands
unfoldable pub source_of : (ℕ → Kept) → (ℕ → Kept) → ℕ → Kept
source_of there comes source = pick (ltb source most_elements) (there source) (comes (source - most_elements))

module _ (ids : List ℕ) (f : ℕ → Kept) (ids-are : (i : ℕ) → (f i).id ≡ id_in_row ids i) where
  row_turn : (i n : ℕ) → from_row f i (suc n) ≡ f i ∷ from_row f (suc i) n
  unfolding from_row
  row_turn i n = refl

  no_rows : (i : ℕ) → from_row f i 0 ≡ []
  unfolding from_row
  no_rows i = refl

  keys_on : (i n : ℕ) → keys_at ids (i * id_width) id_width (suc n) ≡ key_at ids (i * id_width) ∷ keys_at ids (suc i * id_width) id_width n
  unfolding keys_at
  keys_on i n = let e : i * id_width + id_width ≡ suc i * id_width = omega arith in rw e

  keys_none : (i : ℕ) → keys_at ids (i * id_width) id_width 0 ≡ []
  unfolding keys_at
  keys_none i = refl

  rows_ids : (i n : ℕ) → map kept_id (from_row f i n) ≡ keys_at ids (i * id_width) id_width n
  rows_ids i zero = rw (no_rows i, keys_none i)
  rows_ids i (suc n) = rw (row_turn i n, keys_on i n, rows_ids (suc i) n, ids-are i)

  -- ---- what replaces an element

  -- what stands in the place of x, where these come
  abbrev instead : ℕ → Kept → List Key → Kept
  instead j x keys = pick (is_among x.id keys) (f (j + place_among x.id keys)) x

  instead_here : (j : ℕ) (x : Kept) (k : Key) (keys : List Key) → same_key x.id k ≡ true → instead j x (k ∷ keys) ≡ f j
  instead_here j x k keys e =
      let z : j + 0 ≡ j = omega arith in
      rw (among_here x.id k keys e, place_here x.id k keys e, z)

  instead_later : (j : ℕ) (x : Kept) (k : Key) (keys : List Key) → same_key x.id k ≡ false → instead j x (k ∷ keys) ≡ instead (suc j) x keys
  instead_later j x k keys e =
      let z : j + suc (place_among x.id keys) ≡ suc j + place_among x.id keys = omega arith in
      rw (among_later x.id k keys e, place_later x.id k keys e, z)

  replaced_first : (x y : Kept) (come : List Kept) → same_key x.id y.id ≡ true → replaced_by (y ∷ come) x ≡ y
  unfolding replaced_by
  replaced_first x y come e = rw e

  replaced_later : (x y : Kept) (come : List Kept) → same_key x.id y.id ≡ false → replaced_by (y ∷ come) x ≡ replaced_by come x
  unfolding replaced_by
  replaced_later x y come e = rw e

  replaced_none : (x : Kept) → replaced_by [] x ≡ x
  unfolding replaced_by
  replaced_none x = refl

  replaced_is : (j m : ℕ) (x : Kept) → replaced_by (from_row f j m) x ≡ instead j x (keys_at ids (j * id_width) id_width m)
  replaced_is j zero x = rw (no_rows j, keys_none j, among_none x.id) (replaced_none x)
  replaced_is j (suc m) x =
      let k = key_at ids (j * id_width) in
      let keys = keys_at ids (suc j * id_width) id_width m in
      rw (row_turn j m, keys_on j m)
      (by_bool (same_key x.id k)
      (λ e. replaced_first x (f j) (from_row f (suc j) m) (rw (ids-are j) e) ∙ sym (instead_here j x k keys e))
      (λ e. replaced_later x (f j) (from_row f (suc j) m) (rw (ids-are j) e) ∙ replaced_is (suc j) m x ∙ sym (instead_later j x k keys e)))

-- ---- both halves of the plan

module _ (ids comingIds : List ℕ) (stay comes : ℕ → Kept) (stay_ids : (i : ℕ) → (stay i).id ≡ id_in_row ids i) (come_ids : (j : ℕ) → (comes j).id ≡ id_in_row comingIds j) (n m : ℕ)
    (few : n ≤ most_elements) where
  abbrev come : List Key
  come = id_keys comingIds m

  abbrev there : List Key
  there = id_keys ids n

  abbrev coming : List Kept
  coming = from_row comes 0 m

  abbrev stays_all : List Kept
  stays_all = from_row stay 0 n

  low_source : (i : ℕ) → i < most_elements → source_of stay comes i ≡ stay i
  unfolding source_of
  low_source i h = rw (lt-ltb i most_elements h)

  high_source : (j : ℕ) → source_of stay comes (most_elements + j) ≡ comes j
  unfolding source_of
  high_source j =
      let h : most_elements ≤ most_elements + j = omega arith in
      let e : most_elements + j - most_elements ≡ j = omega arith in
      rw (le-ltb (most_elements + j) most_elements h, e)

  replaced_one : (i : ℕ) → replaced_by coming (stay i) ≡ pick (is_among (id_in_row ids i) come) (comes (place_among (id_in_row ids i) come)) (stay i)
  replaced_one i =
      let z : 0 + place_among (stay i).id come ≡ place_among (stay i).id come = omega arith in
      (rw z at (replaced_is comingIds comes come_ids 0 m (stay i)))
      ∙ ap (λ (k : Key). pick (is_among k come) (comes (place_among k come)) (stay i)) (stay_ids i)

  source_one : (i : ℕ) (k : Key) → i < most_elements → source_of stay comes (kept_source come i k) ≡ pick (is_among k come) (comes (place_among k come)) (stay i)
  unfolding kept_source
  source_one i k h = by_bool (is_among k come) (λ e. rw e (high_source (place_among k come))) (λ e. rw e (low_source i h))

  kept_are : (i k : ℕ) → i + k ≤ most_elements
      → map (source_of stay comes) (kept_sources come i (keys_at ids (i * id_width) id_width k)) ≡ map (replaced_by coming) (from_row stay i k)
  unfolding kept_sources
  kept_are i zero h = rw (keys_none ids stay stay_ids i, no_rows ids stay stay_ids i)
  kept_are i (suc k) h =
      let f : source_of stay comes (kept_source come i (id_in_row ids i)) ≡ replaced_by coming (stay i) = source_one i (id_in_row ids i) (omega arith) ∙ sym (replaced_one i) in
      rw (keys_on ids stay stay_ids i k, row_turn ids stay stay_ids i k, kept_are (suc i) k (omega arith), f)

  -- whether one that is there has an id
  held_there : (k : Key) → is_among k there ≡ seen same_key k (map kept_id stays_all)
  held_there k = among_seen k there ∙ ap (seen same_key k) (sym (rows_ids ids stay stay_ids 0 n))

  new_first : (k : Key) (j : ℕ) (keys : List Key) → is_among k there ≡ true → new_sources there j (k ∷ keys) ≡ new_sources there (suc j) keys
  unfolding new_sources
  new_first k j keys e = rw e

  new_later : (k : Key) (j : ℕ) (keys : List Key) → is_among k there ≡ false → new_sources there j (k ∷ keys) ≡ (most_elements + j) ∷ new_sources there (suc j) keys
  unfolding new_sources
  new_later k j keys e = rw e

  enters_held : (y : Kept) (more : List Kept) → seen same_key y.id (map kept_id stays_all) ≡ true → new_to stays_all (y ∷ more) ≡ new_to stays_all more
  unfolding new_to
  enters_held y more e = rw e

  enters_new : (y : Kept) (more : List Kept) → seen same_key y.id (map kept_id stays_all) ≡ false → new_to stays_all (y ∷ more) ≡ y ∷ new_to stays_all more
  unfolding new_to
  enters_new y more e = rw e

  nothing_new : new_to stays_all [] ≡ []
  unfolding new_to
  nothing_new = refl

  no_sources : (j : ℕ) → new_sources there j [] ≡ []
  unfolding new_sources
  no_sources j = refl

  new_are : (j k : ℕ) → map (source_of stay comes) (new_sources there j (keys_at comingIds (j * id_width) id_width k)) ≡ new_to stays_all (from_row comes j k)
  new_are j zero = rw (keys_none comingIds comes come_ids j, no_rows comingIds comes come_ids j, no_sources j, nothing_new)
  new_are j (suc k) =
      let key = key_at comingIds (j * id_width) in
      let keys = keys_at comingIds (suc j * id_width) id_width k in
      let more = from_row comes (suc j) k in
      let one_more : map (source_of stay comes) ((most_elements + j) ∷ new_sources there (suc j) keys) ≡ comes j ∷ new_to stays_all more = rw (high_source j, new_are (suc j) k) in
      let s : (t : Bool) → is_among key there ≡ t → seen same_key (comes j).id (map kept_id stays_all) ≡ t = λ t e. ap (λ (x : Key). seen same_key x (map kept_id stays_all)) (come_ids j) ∙ sym (held_there key) ∙ e in
      rw (keys_on comingIds comes come_ids j k, row_turn comingIds comes come_ids j k)
      (by_bool (is_among key there)
      (λ e. ap (map (source_of stay comes)) (new_first key j keys e) ∙ new_are (suc j) k ∙ sym (enters_held (comes j) more (s true e)))
      (λ e. ap (map (source_of stay comes)) (new_later key j keys e) ∙ one_more ∙ sym (enters_new (comes j) more (s false e))))

  -- ---- the whole

  pub plan_is : map (source_of stay comes) (sources (id_keys ids n) (id_keys comingIds m)) ≡ enter (from_row stay 0 n) (from_row comes 0 m)
  unfolding sources enter
  plan_is =
      map-append (source_of stay comes) (kept_sources come 0 there) (new_sources there 0 come)
      ∙ ap (λ (l : List Kept). l ++ map (source_of stay comes) (new_sources there 0 come)) (kept_are 0 n (omega arith))
      ∙ ap (λ (l : List Kept). map (replaced_by coming) stays_all ++ l) (new_are 0 m)

  pub plan_count : length (sources (id_keys ids n) (id_keys comingIds m)) ≡ length (enter (from_row stay 0 n) (from_row comes 0 m))
  plan_count = sym (length-map (sources there come) (source_of stay comes)) ∙ ap length plan_is

-- ---- what holds of each number of a plan

module _ (P : ℕ → Type 0) where
  each_append : (a b : List ℕ) → Each P a → Each P b → Each P (a ++ b)
  each_append [] b x y = y
  each_append (v ∷ a) b x y = (x.0, each_append a b x.1 y)

  -- of each at the front of a longer list
  pub each_front : (l t : List ℕ) (k : ℕ) → k < length l → Each P l → P (get_or (l ++ t) k 0)
  each_front [] t k h e = absurd (omega arith)
  each_front (x ∷ l) t zero h e = e.0
  each_front (x ∷ l) t (suc k) h e = each_front l t k (omega arith) e.1

  each_kept : (n : ℕ) (come : List Key) → ((i : ℕ) → i < n → P i) → ((j : ℕ) → j < length come → P (most_elements + j)) → (i : ℕ) (there : List Key) → i + length there ≤ n
      → Each P (kept_sources come i there)
  unfolding kept_sources kept_source
  each_kept n come stay enters i [] h = tt
  each_kept n come stay enters i (k ∷ there) h = (
    by_bool (is_among k come) (λ e. rw e (enters (place_among k come) (ltb-true _ _ e))) (λ e. rw e (stay i (omega arith))),
    each_kept n come stay enters (suc i) there (omega arith),
  )

  each_new : (m : ℕ) (there : List Key) → ((j : ℕ) → j < m → P (most_elements + j)) → (j : ℕ) (come : List Key) → j + length come ≤ m → Each P (new_sources there j come)
  unfolding new_sources
  each_new m there enters j [] h = tt
  each_new m there enters j (k ∷ come) h =
      let more = each_new m there enters (suc j) come (omega arith) in
      by_bool (is_among k there) (λ e. rw e more) (λ e. rw e (enters j (omega arith), more))

  pub each_source : (n m : ℕ) (there come : List Key) → length there ≡ n → length come ≡ m → ((i : ℕ) → i < n → P i) → ((j : ℕ) → j < m → P (most_elements + j)) → Each P (sources there come)
  unfolding sources
  each_source n m there come a b stay enters =
      each_append (kept_sources come 0 there) (new_sources there 0 come)
      (each_kept n come stay (λ j h. enters j (omega arith)) 0 there (omega arith)) (each_new m there enters 0 come (omega arith))
