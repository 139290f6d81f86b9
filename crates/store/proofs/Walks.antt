-- The walk along elements, turn by turn: what the tables hold, and how many elements may still come; and the walk along a package's.
-- Assumes nothing.
use mathlib.Core.Path.{◌≡◌, refl, sym, ap, ◌∙◌}
use mathlib.Core.Bool.{Bool, true, false}
use mathlib.Core.List.{List, [], ◌∷◌, ◌++◌, map, map-append}
use Prim.Native.Nat.{ℕ, zero, suc, ◌-◌, ◌+◌, ◌*◌, ◌≤◌}
use native.Mathlib.Numerals.{add-one}
use native.Mathlib.Omega.{arith}
use lib.ListN.{length, get_or, take, drop, length-append, set}
use lib.Seq.{get_or-set_same, get_or-set_other}
use borrow.Author.Tests.{lt-ltb, le-ltb}
use Rattle.numbers.specs.declared.refusal.Refusal.{Refusal}
use Rattle.objects.specs.Steps.{◌▹◌, start_of_length, start_here, end_here, next_is, finish, Good}
use Rattle.objects.specs.Results.Reading.{At, Reading, Refused}
use Rattle.objects.proofs.Keep.{onward_start_of_length, onward_skip}
use Rattle.laws.specs.Once.{seen}
use Rattle.laws.proofs.Cases.{by_bool, by_lt, by_eq, impossible}
use Rattle.laws.proofs.Twice.{seen_append}
use Rattle.store.specs.Element.{same_key, element_at, ids_in}
use Rattle.store.specs.Tables.{mark_of, key_marks, Marked, Lent, row_width, id_width, most_elements, id_keys, serial_keys, row_of, id_of, flat, rows_of, ids_of}
use Rattle.store.specs.Store.{package_start, Walk, walked, on_element, walk_from, elements_walk, packaged_of, stored_of, PackageTo}
use Rattle.store.specs.declared.element.Key.{Key}
use Rattle.store.specs.declared.element.Element.{Element}
use Rattle.store.specs.Results.ReadElement.{ReadElement}
use Rattle.store.specs.Results.ReadElement as element
use Rattle.store.specs.declared.element.Strictness.{Strictness}
use Rattle.store.specs.Results.Packaged.{Packaged}
use Rattle.store.specs.Results.Packaged as packaged
use Rattle.store.specs.Results.Stored as stored
use Rattle.store.proofs.Elements.{key_stands}
use Rattle.store.proofs.Rows.{put_more, keys_flat, same_mark, mark_lt}
use Rattle.store.proofs.Fields.{element_within}

-- ---- rows and ids

abbrev pub id_row : Element → List ℕ
id_row x = id_of x.id

row_wide : (x : Element) → length (row_of x) ≡ row_width
row_wide x = refl

id_wide : (x : Element) → length (id_row x) ≡ id_width
id_wide x = refl

pub serials_held : (done : List Element) (t : List ℕ) → serial_keys (rows_of done ++ t) (length done) ≡ map (λ (x : Element). x.serial) done
serials_held done t =
    keys_flat row_of row_width row_wide (λ x. x.serial) 3 (λ x pre u. key_stands x.serial pre (row_of x ++ u) (length pre + 3) 3 refl refl refl refl) done t

pub ids_held : (done : List Element) (t : List ℕ) → id_keys (ids_of done ++ t) (length done) ≡ map (λ (x : Element). x.id) done
ids_held done t =
    keys_flat id_row id_width id_wide (λ x. x.id) 0 (λ x pre u. key_stands x.id pre (id_row x ++ u) (length pre + 0) 0 refl refl refl refl) done t

-- ---- what holds whenever the loop's test is reached, on a walk that began at c

pub record Held (strict : Strictness) (s : List ℕ) (c : Reading) (rows₀ ids₀ rows ids marks : List ℕ) (at : Reading) (n : ℕ) : Type 0 where
  pub done : List Element
  pub many : length done ≡ n
  pub most : n ≤ most_elements
  pub good : Good s at
  pub rows_hold : rows ≡ rows_of done ++ drop (n * row_width) rows₀
  pub ids_hold : ids ≡ ids_of done ++ drop (n * id_width) ids₀
  pub ids_marked : Marked marks (ids_in done)
  pub walk : elements_walk strict most_elements s [] c ≡ elements_walk strict (most_elements - n) s done at

pub good_package : (padding : Bool) (outer : ℕ) (s : List ℕ) (c : Reading) → Good s c → Good s (package_start padding outer s c)
unfolding package_start
good_package padding outer s c g =
    (onward_skip s 1 (start_of_length padding s outer 0x15 true true 1 c)).good ((onward_start_of_length padding s outer 0x15 true true 1 c).good g)

pub none_marked : (marks : List ℕ) → Marked marks []
unfolding seen
none_marked marks k e = refl

pub held_start : (strict : Strictness) (s : List ℕ) (c : Reading) (rows ids marks : List ℕ) → Good s c → Held strict s c rows ids rows ids marks c 0
unfolding flat
held_start strict s c rows ids marks g =
    record {
      done = [];
      many = refl;
      most = omega arith;
      good = g;
      rows_hold = refl;
      ids_hold = refl;
      ids_marked = none_marked marks;
      walk = refl;
    }

-- one key more, with its mark set
pub marked_more : (marks : List ℕ) (keys : List Key) (x : Key) → key_marks ≤ length marks → Marked marks keys → Marked (set marks (mark_of key_marks x) 1) (keys ++ (x ∷ []))
unfolding seen
marked_more marks keys x l h k e =
    by_eq (mark_of key_marks k) (mark_of key_marks x)
    (λ q.
    let z : 1 ≡ 0 = sym (get_or-set_same marks (mark_of key_marks x) 1 0 (omega (arith, mark_lt key_marks x (omega arith)))) ∙ rw q at e in
    impossible (sym z))
    (λ q.
    let f : get_or marks (mark_of key_marks k) 0 ≡ 0 = sym (get_or-set_other marks (mark_of key_marks x) (mark_of key_marks k) 1 0 q) ∙ e in
    let g : same_key k x ≡ false = by_bool (same_key k x) (λ t. absurd (q (same_mark key_marks k x t))) (λ t. t) in
    rw (seen_append same_key k keys (x ∷ []), h k f, g))

-- ---- the walk at a place

pub walk_ends : (strict : Strictness) (left : ℕ) (s : List ℕ) (done : List Element) (c : Reading) → next_is s 0x01 c ≡ false
    → walk_from strict left s done c ≡ walked done (c ▹ end_here s 0x15)
unfolding walk_from
walk_ends strict zero s done c e = rw e
walk_ends strict (suc left) s done c e = rw e

pub walk_over : (strict : Strictness) (s : List ℕ) (done : List Element) (c : Reading) → next_is s 0x01 c ≡ true
    → walk_from strict 0 s done c ≡ walked done (start_here strict.padding s 0x15 0x01 true false c)
unfolding walk_from
walk_over strict s done c e = rw e

pub walk_element : (strict : Strictness) (left : ℕ) (s : List ℕ) (done : List Element) (c : Reading) → next_is s 0x01 c ≡ true → (r : ReadElement)
    → element_at strict (ids_in done) s c ≡ r
    → walk_from strict (suc left) s done c ≡ on_element (λ more e. walk_from strict left s more e) done r
unfolding walk_from
walk_element strict left s done c e r q = rw (e, q)

-- and along the elements alone
pub elements_end : (strict : Strictness) (left : ℕ) (s : List ℕ) (done : List Element) (c : Reading) → next_is s 0x01 c ≡ false
    → elements_walk strict left s done c ≡ walked done c
unfolding elements_walk
elements_end strict zero s done c e = rw e
elements_end strict (suc left) s done c e = rw e

pub elements_over : (strict : Strictness) (s : List ℕ) (done : List Element) (c : Reading) → next_is s 0x01 c ≡ true
    → elements_walk strict 0 s done c ≡ walked done (start_here strict.padding s 0x15 0x01 true false c)
unfolding elements_walk
elements_over strict s done c e = rw e

pub elements_more : (strict : Strictness) (left : ℕ) (s : List ℕ) (done : List Element) (c : Reading) → next_is s 0x01 c ≡ true → (r : ReadElement)
    → element_at strict (ids_in done) s c ≡ r
    → elements_walk strict (suc left) s done c ≡ on_element (λ more e. elements_walk strict left s more e) done r
unfolding elements_walk
elements_more strict left s done c e r q = rw (e, q)

module _ (strict : Strictness) {s : List ℕ} {c : Reading} {rows₀ ids₀ rows ids marks : List ℕ} {at : Reading} {n : ℕ}
    (h : Held strict s c rows₀ ids₀ rows ids marks at n) where
  abbrev told : Walk
  told = elements_walk strict most_elements s [] c

  -- the ids that the table holds are those of the elements
  held_ids : id_keys ids n ≡ map (λ (x : Element). x.id) h.done
  held_ids = rw (h.ids_hold, ← h.many) (ids_held h.done (drop (length h.done * id_width) ids₀))

  -- what is lent to the reading of the next element
  pub held_lent : n * id_width ≤ length ids → key_marks ≤ length marks → Lent ids marks n
  held_lent a d = record { id_room = a; mark_room = d; marked = rw held_ids h.ids_marked }

  -- the answer, where the walk ends with these elements
  pub held_answer : (d : Reading) (r : Packaged) → told ≡ walked h.done d → r ≡ packaged_of n d → PackageTo told r rows₀ rows ids₀ ids
  held_answer d r e q = rw e (q ∙ ap (λ (m : ℕ). packaged_of m d) (sym h.many), rw h.many h.rows_hold, rw h.many h.ids_hold)

  -- no more elements
  pub held_end : next_is s 0x01 at ≡ false → told ≡ walked h.done at
  held_end e = h.walk ∙ elements_end strict (most_elements - n) s h.done at e

  -- one too many
  pub held_over : next_is s 0x01 at ≡ true → n ≡ most_elements → told ≡ walked h.done (start_here strict.padding s 0x15 0x01 true false at)
  held_over e q = let z : most_elements - n ≡ 0 = omega arith in h.walk ∙ rw z (elements_over strict s h.done at e)

  -- an element at fault
  pub held_refused : next_is s 0x01 at ≡ true → (n ≡ most_elements → ⊥) → (r : Refusal) → element_at strict (id_keys ids n) s at ≡ element.Refused r
      → told ≡ walked h.done (Refused r)
  held_refused e d r q =
      let z : most_elements - n ≡ suc (most_elements - (n + 1)) = let m = h.most in omega arith in
      let f = rw held_ids at q in
      h.walk ∙ rw z (elements_more strict (most_elements - (n + 1)) s h.done at e (element.Refused r) f)

  -- an element more
  pub held_more : next_is s 0x01 at ≡ true → (n ≡ most_elements → ⊥) → key_marks ≤ length marks → (x : Element) → element_at strict (id_keys ids n) s at ≡ element.Is x
      → Held strict s c rows₀ ids₀ (take (n * row_width) rows ++ (row_of x ++ drop (n * row_width + row_width) rows))
      (take (n * id_width) ids ++ (id_of x.id ++ drop (n * id_width + id_width) ids)) (set marks (mark_of key_marks x.id) 1)
      (At (x.place + x.length) 0) (n + 1)
  held_more e d l x q =
      let z : most_elements - n ≡ suc (most_elements - (n + 1)) = let m = h.most in omega arith in
      let f = rw held_ids at q in
      let w = element_within strict (id_keys ids n) s at x q h.good in
      record {
        done = h.done ++ (x ∷ []);
        many = length-append h.done (x ∷ []) ∙ (let m = h.many in omega arith);
        most = (let m = h.most in omega arith);
        good = w.1;
        rows_hold = rw add-one (put_more row_of row_width row_wide h.done x rows rows₀ n h.many h.rows_hold);
        ids_hold = rw add-one (put_more id_row id_width id_wide h.done x ids ids₀ n h.many h.ids_hold);
        ids_marked = rw (map-append (λ (y : Element). y.id) h.done (x ∷ [])) (marked_more marks (ids_in h.done) x.id l h.ids_marked);
        walk = h.walk ∙ rw z (elements_more strict (most_elements - (n + 1)) s h.done at e (element.Is x) f);
      }

pub packaged_refused : (n : ℕ) (r : Refusal) → packaged.Refused r ≡ packaged_of n (Refused r)
unfolding packaged_of
packaged_refused n r = refl

-- ---- a store's answer is that of its package, and nothing after it

pub finished_holds : (m n e : ℕ) (s : List ℕ) (c : Reading) → packaged.Holds e n ≡ packaged_of m c → stored_of n (finish s (At e 0)) ≡ stored_of m (finish s c)
unfolding packaged_of stored_of finish
finished_holds m n e s (At p v) h =
    let a : n ≡ m = grind arith in
    let b : e ≡ p = grind arith in
    rw (a, b) (by_lt p (length s) (λ l. rw (lt-ltb p (length s) l)) (λ l. rw (le-ltb p (length s) l)))
finished_holds m n e s (Refused r) h = impossible (cc)

pub finished_refused : (m : ℕ) (q : Refusal) (s : List ℕ) (c : Reading) → packaged.Refused q ≡ packaged_of m c → stored.Refused q ≡ stored_of m (finish s c)
unfolding packaged_of stored_of finish
finished_refused m q s (At p v) h = impossible (cc)
finished_refused m q s (Refused r) h = cc
