-- A package's walk is that of its elements, and then its end; and so is what is answered.
-- Assumes nothing.
use native.Mathlib.Omega.{arith}
use mathlib.Core.Path.{◌≡◌, refl, sym, ap, ◌∙◌}
use mathlib.Core.Bool.{true, false}
use mathlib.Core.List.{List, [], ◌∷◌, ◌++◌}
use Prim.Native.Nat.{ℕ, zero, suc, ◌+◌}
use lib.ListN.{length}
use Rattle.laws.proofs.Cases.{by_bool, impossible}
use Rattle.numbers.specs.declared.refusal.Refusal.{Refusal}
use Rattle.objects.specs.Steps.{start_here, end_here, next_is}
use Rattle.objects.specs.Results.Reading.{At, Reading, Refused}
use Rattle.store.specs.Element.{element_at, ids_in}
use Rattle.store.specs.Tables.{most_elements}
use Rattle.store.specs.Store.{package_start, Walk, walked, closing, on_element, walk_from, elements_walk, package_walk, packaged_of, PackageTo, Stands}
use Rattle.store.specs.declared.element.Element.{Element}
use Rattle.store.specs.Results.ReadElement.{ReadElement}
use Rattle.store.specs.Results.ReadElement as element
use Rattle.store.specs.declared.element.Strictness.{Strictness}
use Rattle.store.specs.Results.Packaged.{Packaged}
use Rattle.store.specs.Results.Packaged as packaged
use Rattle.store.proofs.Chains.{no_room_lem}

-- ---- the walk

abbrev ended : List ℕ → Walk → Walk
ended s w = closing s w.elements w.last

-- a fault stays as it is
end_refused : (s : List ℕ) (c : Reading) → (Stands c → ⊥) → c ≡ end_here s 0x15 c
unfolding end_here
end_refused s (At p v) h = absurd (h tt)
end_refused s (Refused r) h = refl

on_split : (strict : Strictness) (left : ℕ) (s : List ℕ) (done : List Element) (r : ReadElement)
    → ((x : Element) → walk_from strict left s (done ++ (x ∷ [])) (At (x.place + x.length) 0) ≡ ended s (elements_walk strict left s (done ++ (x ∷ [])) (At (x.place + x.length) 0)))
    → on_element (λ more e. walk_from strict left s more e) done r ≡ ended s (on_element (λ more e. elements_walk strict left s more e) done r)
unfolding end_here
on_split strict left s done (element.Is x) f = f x
on_split strict left s done (element.Refused r) f = refl

pub walk_split : (strict : Strictness) (left : ℕ) (s : List ℕ) (done : List Element) (c : Reading) → walk_from strict left s done c ≡ ended s (elements_walk strict left s done c)
unfolding walk_from elements_walk
walk_split strict zero s done c =
    by_bool (next_is s 0x01 c)
    (λ e. rw e (ap (walked done) (end_refused s (start_here strict.padding s 0x15 0x01 true false c) (no_room_lem strict.padding s c))))
    (λ e. rw e)
walk_split strict (suc left) s done c =
    by_bool (next_is s 0x01 c)
    (λ e.
    rw e
    (on_split strict left s done (element_at strict (ids_in done) s c)
    (λ x. walk_split strict left s (done ++ (x ∷ [])) (At (x.place + x.length) 0))))
    (λ e. rw e)

-- ---- the answer

ended_refused : (m : ℕ) (r : Refusal) (s : List ℕ) (c : Reading) → packaged.Refused r ≡ packaged_of m c → packaged.Refused r ≡ packaged_of m (end_here s 0x15 c)
unfolding packaged_of end_here
ended_refused m r s (At e v) h = impossible (cc)
ended_refused m r s (Refused q) h = h

-- the number that was read last does not matter to what follows
ended_holds : (m n e : ℕ) (s : List ℕ) (c : Reading) → packaged.Holds e n ≡ packaged_of m c → packaged_of n (end_here s 0x15 (At e 0)) ≡ packaged_of m (end_here s 0x15 c)
unfolding packaged_of end_here
ended_holds m n e s (At p v) h =
    let a : n ≡ m = grind arith in
    let b : e ≡ p = grind arith in
    rw (a, b)
ended_holds m n e s (Refused r) h = impossible (cc)

module _ (strict : Strictness) (outer : ℕ) (s : List ℕ) (c : Reading) (rows rows' ids ids' : List ℕ) (p : Packaged)
    (w : PackageTo (elements_walk strict most_elements s [] (package_start strict.padding outer s c)) p rows rows' ids ids') where
  abbrev alone : Walk
  alone = elements_walk strict most_elements s [] (package_start strict.padding outer s c)

  whole : package_walk strict outer s c ≡ ended s alone
  whole = walk_split strict most_elements s [] (package_start strict.padding outer s c)

  -- a fault of an element
  pub package_refused : (r : Refusal) → p ≡ packaged.Refused r → PackageTo (package_walk strict outer s c) (packaged.Refused r) rows rows' ids ids'
  package_refused r e = rw whole (ended_refused (length alone.elements) r s alone.last (sym e ∙ w.0), w.1, w.2)

  -- the elements, and behind them the end
  pub package_holds : (e n : ℕ) → p ≡ packaged.Holds e n
      → PackageTo (package_walk strict outer s c) (packaged_of n (end_here s 0x15 (At e 0))) rows rows' ids ids'
  package_holds e n q = rw whole (ended_holds (length alone.elements) n e s alone.last (sym q ∙ w.0), w.1, w.2)
