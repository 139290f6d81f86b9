-- A fault of a package or a store has a number from 2 to 12 and its place within, or is 1 where the store is over-long; and a store that
-- is read ends with its package's end.
-- Assumes nothing.
use mathlib.Core.Path.{◌≡◌, refl, subst}
use mathlib.Core.Bool.{true, false}
use mathlib.Core.List.{List, [], ◌∷◌, ◌++◌}
use Prim.Native.Nat.{ℕ, zero, suc, ◌+◌, ◌≤◌}
use native.Mathlib.Omega.{arith}
use lib.ListN.{length}
use borrow.Author.Tests.{lt-ltb, le-ltb}
use Rattle.laws.proofs.Cases.{by_bool, by_lt, impossible}
use Rattle.numbers.specs.Refusals.{longest_input}
use Rattle.numbers.specs.declared.refusal.Refusal.{Refusal}
use Rattle.objects.specs.Steps.{nothing_open, place_of, end_here, finish, next_is, inside, FaultWithin, Good}
use Rattle.objects.specs.Results.Reading.{Reading}
use Rattle.objects.specs.Results.Reading as reading
use Rattle.objects.proofs.Keep.{good_front, onward_start, onward_end, onward_finish}
use Rattle.objects.proofs.InputFaults.{InputFault, input_fault}
use Rattle.store.specs.Element.{data_of, element_on, element_at, ids_in}
use Rattle.store.specs.Store.{package_start, on_element, walk_from, package_walk, store_walk, Stands, store_strictness}
use Rattle.store.specs.declared.element.Key.{Key}
use Rattle.store.specs.declared.element.Fields.{Fields}
use Rattle.store.specs.declared.element.Element.{Element}
use Rattle.store.specs.Results.ReadElement.{ReadElement}
use Rattle.store.specs.Results.ReadElement as element
use Rattle.store.specs.declared.element.Strictness.{Strictness}
use Rattle.store.proofs.Fields.{onward_element, element_within}
use Rattle.store.proofs.Walks.{good_package, walk_ends, walk_over, walk_element}
use Rattle.store.proofs.Chains.{StoreRead, over_long_lem}

-- ---- a fault

refused_on : (at : ℕ) (f : Fields) (kind : ℕ) (e : Reading) (r : Refusal) → element_on at f kind e ≡ element.Refused r → e ≡ reading.Refused r
unfolding element_on
refused_on at f kind (reading.At e v) r h = impossible (cc)
refused_on at f kind (reading.Refused q) r h = cc

pub element_fault : (strict : Strictness) (ids : List Key) (s : List ℕ) (c : Reading) (r : Refusal) → element_at strict ids s c ≡ element.Refused r
    → Good s c → FaultWithin (length s) r
unfolding element_at
element_fault strict ids s c r h g =
    subst (Good s) (refused_on _ _ _ (inside strict.padding s strict.levels 0x01 (data_of strict ids s c)) r h) ((onward_element strict ids s c).good g)

element_good : (strict : Strictness) (left : ℕ) (s : List ℕ) (done : List Element) (c : Reading) (r : ReadElement) → element_at strict (ids_in done) s c ≡ r
    → ((x : Element) → x.place + x.length ≤ length s → Good s (walk_from strict left s (done ++ (x ∷ [])) (reading.At (x.place + x.length) 0)).last)
    → Good s c → Good s (on_element (λ more e. walk_from strict left s more e) done r).last
element_good strict left s done c (element.Is x) q more g = more x (element_within strict (ids_in done) s c x q g).1
element_good strict left s done c (element.Refused r) q more g = element_fault strict (ids_in done) s c r q g

walk_good : (strict : Strictness) (left : ℕ) (s : List ℕ) (done : List Element) (c : Reading) → Good s c → Good s (walk_from strict left s done c).last
walk_good strict zero s done c g =
    by_bool (next_is s 0x01 c) (λ e. rw (walk_over strict s done c e) ((onward_start strict.padding s 0x15 0x01 true false c).good g))
    (λ e. rw (walk_ends strict 0 s done c e) ((onward_end s 0x15 c).good g))
walk_good strict (suc left) s done c g =
    by_bool (next_is s 0x01 c)
    (λ e.
    rw (walk_element strict left s done c e (element_at strict (ids_in done) s c) refl)
    (element_good strict left s done c (element_at strict (ids_in done) s c) refl
    (λ x w. walk_good strict left s (done ++ (x ∷ [])) (reading.At (x.place + x.length) 0) w) g))
    (λ e. rw (walk_ends strict (suc left) s done c e) ((onward_end s 0x15 c).good g))

pub package_good : (strict : Strictness) (outer : ℕ) (s : List ℕ) (c : Reading) → Good s c → Good s (package_walk strict outer s c).last
package_good strict outer s c g = walk_good strict 256 s [] (package_start strict.padding outer s c) (good_package strict.padding outer s c g)

finished_good : (strict : Strictness) (s : List ℕ) → Good s (finish s (package_walk strict nothing_open s (reading.At 0 0)).last)
finished_good strict s = (onward_finish s _).good (package_good strict nothing_open s (reading.At 0 0) (good_front s 0))

pub store_fault : (s : List ℕ) (r : Refusal) → (store_walk s).last ≡ reading.Refused r → InputFault longest_input s r
unfolding store_walk
store_fault s r h =
    input_fault longest_input s (store_walk s).last (finish s (package_walk store_strictness nothing_open s (reading.At 0 0)).last) r
    (λ l. rw (lt-ltb longest_input (length s) l)) (λ l. rw (le-ltb longest_input (length s) l)) (finished_good store_strictness s) h

-- ---- the store's end

store_good : (s : List ℕ) → Stands (store_walk s).last → Good s (store_walk s).last
unfolding store_walk
store_good s h = by_lt longest_input (length s) (λ l. absurd (over_long_lem s l h)) (λ l. rw (le-ltb longest_input (length s) l) (finished_good store_strictness s))

finish_whole : (s : List ℕ) (c : Reading) → Good s (finish s c) → Stands (finish s c) → place_of c ≡ length s
unfolding finish place_of
finish_whole s (reading.At at v) g h =
    by_lt at (length s) (λ l. absurd (rw (lt-ltb at (length s) l) at h)) (λ l. let b : at ≤ length s = rw (le-ltb at (length s) l) at g in omega arith)
finish_whole s (reading.Refused r) g h = absurd h

-- "one data element package, and nothing after it": behind the elements stands the package's end, which ends the store
pub store_covered : (s : List ℕ) → Stands (store_walk s).last → (r : StoreRead s) → place_of (end_here s 0x15 (reading.At r.end r.value)) ≡ length s
store_covered s h r =
    finish_whole s (end_here s 0x15 (reading.At r.end r.value)) (subst (Good s) r.ends (store_good s h)) (subst Stands r.ends h)
