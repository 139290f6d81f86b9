-- The plan of the new store, turn by turn: where an id stands among the ids of a table, and the numbers of the plan as they are laid.
-- Assumes nothing.
use mathlib.Core.Path.{◌≡◌, refl, sym, ap, ◌∙◌}
use mathlib.Core.Bool.{true, false}
use mathlib.Core.List.{List, [], ◌∷◌, ◌++◌}
use Prim.Native.Nat.{ℕ, zero, suc, ◌+◌, ◌-◌, ◌*◌, ◌≤◌, ◌<◌}
use native.Mathlib.Omega.{arith}
use native.Mathlib.Numerals.{add-one}
use lib.ListN.{length, drop, set, length-append}
use lib.Seq.{set_split, drop-drop}
use lib.Dec.{ltb}
use borrow.Author.Tests.{ltb-true}
use Rattle.std.specs.Prelude.{Some, None}
use Rattle.std.specs.Option.{is_some}
use Rattle.laws.specs.Placed.{laid, Lays}
use Rattle.laws.proofs.Cases.{by_bool, impossible}
use Rattle.laws.proofs.Placing.{laid_behind, laid_front}
use Rattle.store.specs.Element.{same_key}
use Rattle.store.specs.Tables.{id_width, most_elements, keys_at, id_keys, id_in_row}
use Rattle.store.specs.declared.element.Key.{Key}
use Rattle.store.proofs.Rows.{keys_turn, keys_end}
use Rattle.enter.specs.Plan.{place_among, is_among, place_of, kept_source, kept_sources, new_sources, sources}

-- ---- the ids of the rows from i on

abbrev pub ids_from : List ℕ → ℕ → ℕ → List Key
ids_from ids i n = keys_at ids (i * id_width) id_width (n - i)

pub ids_start : (ids : List ℕ) (n : ℕ) → id_keys ids n ≡ ids_from ids 0 n
ids_start ids n = let e : n - 0 ≡ n = omega arith in rw e

pub ids_turn : (ids : List ℕ) (i n : ℕ) → i < n → ids_from ids i n ≡ id_in_row ids i ∷ ids_from ids (i + 1) n
ids_turn ids i n h =
    let e : i * id_width + 0 ≡ i * id_width = omega arith in
    let f : (i + 1) * id_width + 0 ≡ (i + 1) * id_width = omega arith in
    rw (e, f) at (keys_turn ids id_width 0 i n h)

pub ids_end : (ids : List ℕ) (i n : ℕ) → n ≤ i → ids_from ids i n ≡ []
ids_end ids i n h =
    let e : i * id_width + 0 ≡ i * id_width = omega arith in
    rw e at (keys_end ids id_width 0 i n h)

pub length_keys : (t : List ℕ) (at width n : ℕ) → length (keys_at t at width n) ≡ n
unfolding keys_at
length_keys t at width zero = refl
length_keys t at width (suc n) = ap suc (length_keys t (at + width) width n)

-- ---- where a key stands

pub place_here : (k x : Key) (keys : List Key) → same_key k x ≡ true → place_among k (x ∷ keys) ≡ 0
unfolding place_among
place_here k x keys e = rw e

pub place_later : (k x : Key) (keys : List Key) → same_key k x ≡ false → place_among k (x ∷ keys) ≡ suc (place_among k keys)
unfolding place_among
place_later k x keys e = rw e

pub place_none : (k : Key) → place_among k [] ≡ 0
unfolding place_among
place_none k = refl

-- a place among keys is at most how many they are
pub place_most : (k : Key) (keys : List Key) → place_among k keys ≤ length keys
unfolding place_among
place_most k [] = omega arith
place_most k (x ∷ keys) =
    by_bool (same_key k x) (λ e. rw e (omega arith)) (λ e. rw e (let h = place_most k keys in omega arith))

-- it was found, or not
pub found_there : (k : Key) (keys : List Key) (j : ℕ) → place_of k keys ≡ Some j → (is_among k keys ≡ true) × (place_among k keys ≡ j) × (j < length keys)
found_there k keys j e =
    by_bool (is_among k keys)
    (λ t.
    let z : Some (place_among k keys) ≡ Some j = rw t at e in
    let i : place_among k keys ≡ j = cc in
    let l = ltb-true _ _ t in
    (t, i, omega arith))
    (λ t. let z : None ≡ Some j = rw t at e in impossible (cc))

pub found_not : (k : Key) (keys : List Key) → place_of k keys ≡ None → is_among k keys ≡ false
found_not k keys e = by_bool (is_among k keys) (λ t. let z : Some (place_among k keys) ≡ None = rw t at e in impossible (cc)) (λ t. t)

pub found_is : (k : Key) (keys : List Key) → is_some (place_of k keys) ≡ is_among k keys
found_is k keys = by_bool (is_among k keys) (λ t. rw t) (λ t. rw t)

-- an id among those from row i on

pub find_start : (k : Key) (ids : List ℕ) (n : ℕ) → place_among k (id_keys ids n) ≡ 0 + place_among k (ids_from ids 0 n)
find_start k ids n = let e = ap (place_among k) (ids_start ids n) in omega arith

module _ (k : Key) (ids : List ℕ) (i n : ℕ) where
  pub find_here : i < n → same_key k (id_in_row ids i) ≡ true → place_among k (ids_from ids i n) ≡ 0
  find_here h e = ap (place_among k) (ids_turn ids i n h) ∙ place_here k (id_in_row ids i) (ids_from ids (i + 1) n) e

  pub find_later : i < n → same_key k (id_in_row ids i) ≡ false → place_among k (ids_from ids i n) ≡ suc (place_among k (ids_from ids (i + 1) n))
  find_later h e = ap (place_among k) (ids_turn ids i n h) ∙ place_later k (id_in_row ids i) (ids_from ids (i + 1) n) e

  pub find_none : n ≤ i → place_among k (ids_from ids i n) ≡ 0
  find_none h = ap (place_among k) (ids_end ids i n h) ∙ place_none k

-- ---- one number is put into the plan

pub set_lays : (plan : List ℕ) (i v : ℕ) → i < length plan → Lays i (v ∷ []) plan (i + 1) (set plan i v)
set_lays plan i v h = (refl, rw (set_split plan i v h, add-one i))

-- ---- the store's elements

pub length_kept : (come : List Key) (i : ℕ) (there : List Key) → length (kept_sources come i there) ≡ length there
unfolding kept_sources
length_kept come i [] = refl
length_kept come i (k ∷ there) = ap suc (length_kept come (suc i) there)

pub kept_turn : (come : List Key) (ids : List ℕ) (i n : ℕ) → i < n
    → kept_sources come i (ids_from ids i n) ≡ (kept_source come i (id_in_row ids i) ∷ []) ++ kept_sources come (i + 1) (ids_from ids (i + 1) n)
unfolding kept_sources
kept_turn come ids i n h = rw (ids_turn ids i n h, add-one i)

pub kept_end : (come : List Key) (ids : List ℕ) (i n : ℕ) → n ≤ i → kept_sources come i (ids_from ids i n) ≡ []
unfolding kept_sources
kept_end come ids i n h = rw (ids_end ids i n h)

pub kept_start : (come : List Key) (ids : List ℕ) (n : ℕ) (plan : List ℕ)
    → laid 0 (kept_sources come 0 (ids_from ids 0 n)) plan ≡ kept_sources come 0 (id_keys ids n) ++ drop n plan
kept_start come ids n plan =
    let w = kept_sources come 0 (id_keys ids n) in
    let e : length w ≡ n = length_kept come 0 (id_keys ids n) ∙ length_keys ids 0 id_width n in
    ap (λ (l : List Key). laid 0 (kept_sources come 0 l) plan) (sym (ids_start ids n)) ∙ laid_front w plan ∙ ap (λ (m : ℕ). w ++ drop m plan) e

-- ---- those that are new

pub length_new : (there : List Key) (j : ℕ) (come : List Key) → length (new_sources there j come) ≤ length come
unfolding new_sources
length_new there j [] = omega arith
length_new there j (k ∷ come) =
    let h = length_new there (suc j) come in
    by_bool (ltb (place_among k there) (length there)) (λ e. rw e (omega arith)) (λ e. rw e (omega arith))

module _ (ids : List ℕ) (n : ℕ) (handed : List ℕ) (j m : ℕ) (h : j < m) where
  abbrev there : List Key
  there = id_keys ids n

  pub new_held : is_among (id_in_row handed j) there ≡ true → new_sources there j (ids_from handed j m) ≡ new_sources there (j + 1) (ids_from handed (j + 1) m)
  unfolding new_sources
  new_held e = rw (ids_turn handed j m h, e, add-one j)

  pub new_turn : is_among (id_in_row handed j) there ≡ false
      → new_sources there j (ids_from handed j m) ≡ ((most_elements + j) ∷ []) ++ new_sources there (j + 1) (ids_from handed (j + 1) m)
  unfolding new_sources
  new_turn e = rw (ids_turn handed j m h, e, add-one j)

pub new_end : (there : List Key) (handed : List ℕ) (j m : ℕ) → m ≤ j → new_sources there j (ids_from handed j m) ≡ []
unfolding new_sources
new_end there handed j m h = rw (ids_end handed j m h)

-- ---- both, at the front of the plan

pub both_planned : (there come : List Key) (n r : ℕ) (plan plan' plan'' : List ℕ) → length there ≡ n → r ≡ n + length (new_sources there 0 come)
    → plan' ≡ kept_sources come 0 there ++ drop n plan → plan'' ≡ laid n (new_sources there 0 come) plan'
    → (r ≡ length (sources there come)) × (plan'' ≡ sources there come ++ drop r plan)
unfolding sources
both_planned there come n r plan plan' plan'' l e p q =
    let a = kept_sources come 0 there in
    let b = new_sources there 0 come in
    let c : length a ≡ n = length_kept come 0 there ∙ l in
    let f = length-append a b in
    let g : drop (n + length b) (a ++ drop n plan) ≡ drop (length b) (drop n (a ++ drop n plan)) = sym (drop-drop (length b) n (a ++ drop n plan)) in
    let k : drop (length b) (drop n plan) ≡ drop (n + length b) plan = drop-drop (length b) n plan in
    (omega arith, q ∙ ap (laid n b) p ∙ rw g (laid_behind a b (drop n plan) n (length b) c ∙ rw (k, e)))
