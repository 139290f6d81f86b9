-- A store that begins with no element is read without tables: what its walk is then, and that empty tables hold it.
-- Assumes nothing.
use mathlib.Core.Path.{◌≡◌, refl, sym, ap, subst, ◌∙◌}
use mathlib.Core.Bool.{false}
use mathlib.Core.List.{List, []}
use Prim.Native.Nat.{ℕ, ◌≤◌}
use native.Mathlib.Omega.{arith}
use lib.ListN.{length}
use lib.Dec.{ltb}
use borrow.Author.Tests.{ltb-false}
use Rattle.laws.proofs.Cases.{by_bool, impossible}
use Rattle.numbers.specs.Refusals.{longest_input, over_long}
use Rattle.numbers.specs.declared.refusal.Refusal.{Refusal}
use Rattle.objects.specs.Types.{package_type, element_type}
use Rattle.objects.specs.Steps.{next_is, end_here, finish}
use Rattle.objects.specs.Results.Reading.{At, Reading, Refused}
use Rattle.talk.specs.Each.{Each}
use Rattle.store.specs.Store.{Walk, walked, walk_from, store_walk, store_start, nothing_of, beginning_of}
use Rattle.store.specs.Tables.{elements_in_rows, flat}
use Rattle.store.specs.Held.{StoreHeld}
use Rattle.store.specs.Results.Beginning as beginning

refused_on : (r : Refusal) (c : Reading) → nothing_of c ≡ beginning.Refused r → c ≡ Refused r
unfolding nothing_of
refused_on r (At e v) h = impossible (cc)
refused_on r (Refused x) h = let e : x ≡ r = cc in ap Refused e

nothing_on : (c : Reading) → nothing_of c ≡ beginning.Nothing → (e : ℕ) × (v : ℕ) × (c ≡ At e v)
unfolding nothing_of
nothing_on (At e v) h = (e, v, refl)
nothing_on (Refused x) h = impossible (cc)

-- the walk of such a store: no elements, and where its reading ends
closed_walk : (s : List ℕ) → ltb longest_input (length s) ≡ false → next_is s element_type (store_start s) ≡ false
    → store_walk s ≡ walked [] (finish s (end_here s package_type (store_start s)))
unfolding store_walk walk_from
closed_walk s l n = rw (l, n)

pub begins_refused : (s : List ℕ) (r : Refusal) → beginning_of s ≡ beginning.Refused r → store_walk s ≡ walked [] (Refused r)
unfolding beginning_of store_walk
begins_refused s r h =
    by_bool (ltb longest_input (length s))
    (λ l. let x : beginning.Refused over_long ≡ beginning.Refused r = rw l at h in let e : over_long ≡ r = cc in rw (l, ← e))
    (λ l. by_bool (next_is s element_type (store_start s))
    (λ n. let x : beginning.Elements ≡ beginning.Refused r = rw (l, n) at h in impossible (cc))
    (λ n. rw (closed_walk s l n, refused_on r (finish s (end_here s package_type (store_start s))) (rw (l, n) at h))))

pub begins_nothing : (s : List ℕ) → beginning_of s ≡ beginning.Nothing → (length s ≤ longest_input) × (e : ℕ) × (v : ℕ) × (store_walk s ≡ walked [] (At e v))
unfolding beginning_of
begins_nothing s h =
    by_bool (ltb longest_input (length s))
    (λ l. let x : beginning.Refused over_long ≡ beginning.Nothing = rw l at h in impossible (cc))
    (λ l. by_bool (next_is s element_type (store_start s))
    (λ n. let x : beginning.Elements ≡ beginning.Nothing = rw (l, n) at h in impossible (cc))
    (λ n.
    let z = ended_at s l n (nothing_on (finish s (end_here s package_type (store_start s))) (rw (l, n) at h)) in
    (ltb-false longest_input (length s) l, z.0, z.1, z.2)))
  where
    ended_at : (s : List ℕ) → ltb longest_input (length s) ≡ false → next_is s element_type (store_start s) ≡ false
        → (e : ℕ) × (v : ℕ) × (finish s (end_here s package_type (store_start s)) ≡ At e v) → (e : ℕ) × (v : ℕ) × (store_walk s ≡ walked [] (At e v))
    ended_at s l n (e, v, is) = (e, v, closed_walk s l n ∙ ap (walked []) is)

-- so empty tables hold it
pub nothing_held : (s : List ℕ) → beginning_of s ≡ beginning.Nothing → StoreHeld s [] [] 0
unfolding elements_in_rows flat
nothing_held s h =
    let z = begins_nothing s h in
    let short = z.0 in
    let none : [] ≡ (store_walk s).elements = ap (λ (w : Walk). w.elements) (sym z.3) in
    record {
      count = ap length none;
      held = none;
      most = omega arith;
      stand = record { row_room = omega arith; id_room = omega arith };
      short = omega arith;
      fits = subst (Each _) none tt;
      least = subst (Each _) none tt;
    }
