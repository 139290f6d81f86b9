-- Elements that stand one behind the other with nothing around them: how many are read, within which bytes, and that a walk which ends
-- well has read a chain; such a chain, set down between any bytes, is the same chain there.
-- Assumes nothing.
use mathlib.Core.Path.{◌≡◌, refl, sym, ap, ◌∙◌}
use mathlib.Core.Bool.{true, false}
use mathlib.Core.List.{List, [], ◌∷◌, ◌++◌, map, map-append, append_assoc, append-nil}
use Prim.Native.Nat.{ℕ, zero, suc, ◌+◌, ◌≤◌}
use native.Mathlib.Omega.{arith}
use lib.ListN.{length, length-append}
use lib.Seq.{drop-append_seam}
use Rattle.laws.proofs.Agreement.{Same, same_whole, same_on, same_less}
use Rattle.laws.proofs.Cases.{by_bool, pick_all}
use Rattle.objects.specs.Steps.{next_is, Good}
use Rattle.objects.specs.Results.Reading.{Reading}
use Rattle.objects.specs.Results.Reading as reading
use Rattle.objects.proofs.Keep.{onward_start}
use Rattle.store.specs.Element.{element_at, ids_in}
use Rattle.store.specs.Chain.{Follows, further}
use Rattle.store.specs.Store.{Walk, walked, on_element, elements_walk, Stands}
use Rattle.store.specs.declared.element.Element.{Element}
use Rattle.store.specs.Results.ReadElement.{ReadElement}
use Rattle.store.specs.Results.ReadElement as element
use Rattle.store.specs.declared.element.Strictness.{Strictness}
use Rattle.store.proofs.Fields.{element_within}
use Rattle.store.proofs.Walks.{elements_end, elements_over, elements_more}
use Rattle.store.proofs.Found.{on_most}
use Rattle.store.proofs.Chains.{any_value, no_room_lem}
use Rattle.store.proofs.Places.{element_fault}
use Rattle.store.proofs.Taken.{element_some}
use Rattle.store.proofs.ElementCarry.{element_there}

-- ---- at most so many

pub elements_most : (strict : Strictness) (left : ℕ) (s : List ℕ) (done : List Element) (c : Reading) → length (elements_walk strict left s done c).elements ≤ length done + left
unfolding elements_walk
elements_most strict zero s done c =
    pick_all (λ (w : Walk). length w.elements ≤ length done + 0) (next_is s 0x01 c) _ _ (λ e. omega arith) (λ e. omega arith)
elements_most strict (suc left) s done c =
    pick_all (λ (w : Walk). length w.elements ≤ length done + suc left) (next_is s 0x01 c) _ _
    (λ e.
    on_most (λ more e. elements_walk strict left s more e) done (element_at strict (ids_in done) s c) (length done + suc left) (omega arith)
    (λ x d. let l = length-append done (x ∷ []) in let m = elements_most strict left s (done ++ (x ∷ [])) d in omega arith))
    (λ e. omega arith)

-- ---- a fault has a number from 2 to 12 and its place within

on_good : (strict : Strictness) (left : ℕ) (s : List ℕ) (done : List Element) (c : Reading) (r : ReadElement) → element_at strict (ids_in done) s c ≡ r
    → ((x : Element) → x.place + x.length ≤ length s → Good s (elements_walk strict left s (done ++ (x ∷ [])) (reading.At (x.place + x.length) 0)).last)
    → Good s c → Good s (on_element (λ more e. elements_walk strict left s more e) done r).last
on_good strict left s done c (element.Is x) q more g = more x (element_within strict (ids_in done) s c x q g).1
on_good strict left s done c (element.Refused r) q more g = element_fault strict (ids_in done) s c r q g

pub elements_good : (strict : Strictness) (left : ℕ) (s : List ℕ) (done : List Element) (c : Reading) → Good s c → Good s (elements_walk strict left s done c).last
elements_good strict zero s done c g =
    by_bool (next_is s 0x01 c) (λ e. rw (elements_over strict s done c e) ((onward_start strict.padding s 0x15 0x01 true false c).good g))
    (λ e. rw (elements_end strict 0 s done c e) g)
elements_good strict (suc left) s done c g =
    by_bool (next_is s 0x01 c)
    (λ e.
    rw (elements_more strict left s done c e (element_at strict (ids_in done) s c) refl)
    (on_good strict left s done c (element_at strict (ids_in done) s c) refl
    (λ x w. elements_good strict left s (done ++ (x ∷ [])) (reading.At (x.place + x.length) 0) w) g))
    (λ e. rw (elements_end strict (suc left) s done c e) g)

-- ---- a walk that ends well has read a chain, and ends behind it

pub record ReadAlone (strict : Strictness) (s : List ℕ) (done : List Element) (at : ℕ) (w : Walk) : Type 0 where
  pub elements : List Element
  pub end : ℕ
  pub value : ℕ
  pub split : w.elements ≡ done ++ elements
  pub chain : Follows strict s done at elements end
  pub last : w.last ≡ reading.At end value

alone_none : (strict : Strictness) (s : List ℕ) (done : List Element) (at v : ℕ) → ReadAlone strict s done at (walked done (reading.At at v))
alone_none strict s done at v =
    record { elements = []; end = at; value = v; split = sym (append-nil done); chain = refl; last = refl }

alone_more : (strict : Strictness) (s : List ℕ) (done : List Element) (at v : ℕ) (x : Element) (w : Walk)
    → element_at strict (ids_in done) s (reading.At at v) ≡ element.Is x
    → ReadAlone strict s (done ++ (x ∷ [])) (x.place + x.length) w → ReadAlone strict s done at w
alone_more strict s done at v x w e r =
    record {
      elements = x ∷ r.elements;
      end = r.end;
      value = r.value;
      split = r.split ∙ append_assoc done (x ∷ []) r.elements;
      chain = (any_value strict s done at v ∙ e, r.chain);
      last = r.last;
    }

on_alone : (strict : Strictness) (left : ℕ) (s : List ℕ) (done : List Element) (at v : ℕ) (r : ReadElement)
    → element_at strict (ids_in done) s (reading.At at v) ≡ r
    → ((x : Element) → Stands (elements_walk strict left s (done ++ (x ∷ [])) (reading.At (x.place + x.length) 0)).last
    → ReadAlone strict s (done ++ (x ∷ [])) (x.place + x.length) (elements_walk strict left s (done ++ (x ∷ [])) (reading.At (x.place + x.length) 0)))
    → Stands (on_element (λ more e. elements_walk strict left s more e) done r).last → ReadAlone strict s done at (on_element (λ more e. elements_walk strict left s more e) done r)
on_alone strict left s done at v (element.Is x) e f h = alone_more strict s done at v x _ e (f x h)
on_alone strict left s done at v (element.Refused r) e f h = absurd h

pub elements_read : (strict : Strictness) (left : ℕ) (s : List ℕ) (done : List Element) (at v : ℕ) → Stands (elements_walk strict left s done (reading.At at v)).last
    → ReadAlone strict s done at (elements_walk strict left s done (reading.At at v))
unfolding elements_walk
elements_read strict zero s done at v =
    by_bool (next_is s 0x01 (reading.At at v))
    (λ e. rw e (λ h. absurd (no_room_lem strict.padding s (reading.At at v) h)))
    (λ e. rw e (λ h. alone_none strict s done at v))
elements_read strict (suc left) s done at v =
    by_bool (next_is s 0x01 (reading.At at v))
    (λ e.
    rw e
    (λ h.
    on_alone strict left s done at v (element_at strict (ids_in done) s (reading.At at v)) refl
    (λ x g. elements_read strict left s (done ++ (x ∷ [])) (x.place + x.length) 0 g) h))
    (λ e. rw e (λ h. alone_none strict s done at v))

-- ---- a chain set down between any bytes: each element so many bytes further on

further_ids : (n : ℕ) (done : List Element) → ids_in (map (further n) done) ≡ ids_in done
further_ids n [] = refl
further_ids n (x ∷ done) = ap (λ l. x.id ∷ l) (further_ids n done)

-- the bytes of s from p on stand in t
same_from : (s pre post : List ℕ) (p n : ℕ) → p + n ≤ length s → Same s p (pre ++ (s ++ post)) (length pre + p) n
same_from s pre post p n l =
    let z : 0 + p ≡ p = omega arith in
    rw z at (same_on s 0 (pre ++ (s ++ post)) (length pre) p n
    (same_less s 0 (pre ++ (s ++ post)) (length pre) (length s) (p + n) l (same_whole s (pre ++ (s ++ post)) (length pre) post (drop-append_seam pre (s ++ post)))))

module _ (strict : Strictness) (s pre post : List ℕ) where
  abbrev there : List ℕ
  there = pre ++ (s ++ post)

  pub chain_further : (done xs : List Element) (at e : ℕ) → Follows strict s done at xs e
      → Follows strict there (map (further (length pre)) done) (length pre + at) (map (further (length pre)) xs) (length pre + e)
  chain_further done [] at e c = ap (λ (m : ℕ). length pre + m) c
  chain_further done (x ∷ xs) at e c =
      let n = length pre in
      let g = element_some strict (ids_in done) s at 0 x c.0 in
      let r = element_there strict (ids_in done) s at 0 x c.0 there (n + at) (same_from s pre post at x.length g.2) in
      let p : n + at ≡ n + x.place = omega (arith, g.0) in
      let q : n + (x.place + x.length) ≡ n + x.place + x.length = omega arith in
      let d : map (further n) (done ++ (x ∷ [])) ≡ map (further n) done ++ (further n x ∷ []) = map-append (further n) done (x ∷ []) in
      let i = chain_further (done ++ (x ∷ [])) xs (x.place + x.length) e c.1 in (
        rw (further_ids n done) (r ∙ ap (λ (m : ℕ). element.Is (record { place = m; length = x.length; kind = x.kind; id = x.id; serial = x.serial })) p),
        rw (d, q) at i,
      )
