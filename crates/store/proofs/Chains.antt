-- What a walk that ends well has read: its elements are a chain from the package's start to its end, which tile it, and no id stands
-- twice among them; and such a chain is walked to its end.
-- Assumes nothing.
use mathlib.Core.Path.{◌≡◌, refl, sym, subst, ap, ◌∙◌}
use mathlib.Core.Bool.{Bool, true, false}
use mathlib.Core.List.{List, [], ◌∷◌, ◌++◌, map, append_assoc, append-nil, map-append}
use Prim.Native.Nat.{ℕ, zero, suc, ◌+◌, ◌-◌, ◌<◌, ◌≤◌}
use native.Mathlib.Omega.{arith}
use lib.ListN.{length}
use lib.Dec.{eqb}
use borrow.Author.Tests.{lt-ltb, le-ltb}
use Rattle.laws.specs.Once.{once}
use Rattle.laws.proofs.Cases.{by_bool, by_lt, pick_all, impossible, eqb_turn}
use Rattle.laws.proofs.Twice.{once_more}
use Rattle.numbers.specs.Refusals.{longest_input}
use Rattle.objects.specs.Steps.{◌▹◌, no, same_bit, nothing_open, place_of, skip, start_on, start_of_length, start_here, end_on, end_here, start_is, next_is, run_here, finish}
use Rattle.objects.specs.Header.{header_at}
use Rattle.objects.specs.Results.Header.{ReadHeader}
use Rattle.objects.specs.Results.Header as header
use Rattle.objects.specs.Results.Reading.{Reading}
use Rattle.objects.specs.Results.Reading as reading
use Rattle.store.specs.Element.{same_key, fields_of, opened, data_of, element_at, ids_in}
use Rattle.store.specs.Tables.{most_elements}
use Rattle.store.specs.Store.{package_start, Walk, walked, closing, on_element, walk_from, package_walk, finished, store_walk, Stands, store_padding, store_strictness}
use Rattle.store.specs.Chain.{Follows, Fresh, Tiles}
use Rattle.store.specs.declared.element.Key.{Key}
use Rattle.store.specs.declared.element.Element.{Element}
use Rattle.store.specs.Results.ReadElement.{ReadElement}
use Rattle.store.specs.Results.ReadElement as element
use Rattle.store.specs.declared.element.Strictness.{Strictness}
use Rattle.objects.proofs.StepsCarry.{opened_from}
use Rattle.store.proofs.Taken.{stands_closed, data_stands, element_some, element_unseen}
use Rattle.store.proofs.Walks.{walk_ends, walk_element}

-- ---- the walk

-- what a walk from a place has read, if no fault stands at its end: a chain, and behind it the package's end
pub record Read (strict : Strictness) (s : List ℕ) (done : List Element) (at : ℕ) (w : Walk) : Type 0 where
  pub elements : List Element
  pub end : ℕ
  pub value : ℕ
  pub split : w.elements ≡ done ++ elements
  pub chain : Follows strict s done at elements end
  pub ends : w.last ≡ (reading.At end value ▹ end_here s 0x15)

-- the number that a state carries does not matter
pub any_value : (strict : Strictness) (s : List ℕ) (done : List Element) (at v : ℕ)
    → element_at strict (ids_in done) s (reading.At at 0) ≡ element_at strict (ids_in done) s (reading.At at v)
unfolding element_at data_of start_here place_of
any_value strict s done at v = refl

read_none : (strict : Strictness) (s : List ℕ) (done : List Element) (at v : ℕ) → Read strict s done at (closing s done (reading.At at v))
read_none strict s done at v =
    record { elements = []; end = at; value = v; split = sym (append-nil done); chain = refl; ends = refl }

read_more : (strict : Strictness) (s : List ℕ) (done : List Element) (at v : ℕ) (x : Element) (w : Walk)
    → element_at strict (ids_in done) s (reading.At at v) ≡ element.Is x
    → Read strict s (done ++ (x ∷ [])) (x.place + x.length) w → Read strict s done at w
read_more strict s done at v x w e r =
    record {
      elements = x ∷ r.elements;
      end = r.end;
      value = r.value;
      split = r.split ∙ append_assoc done (x ∷ []) r.elements;
      chain = (any_value strict s done at v ∙ e, r.chain);
      ends = r.ends;
    }

on_read : (strict : Strictness) (left : ℕ) (s : List ℕ) (done : List Element) (at v : ℕ) (r : ReadElement)
    → element_at strict (ids_in done) s (reading.At at v) ≡ r
    → ((x : Element) → Stands (walk_from strict left s (done ++ (x ∷ [])) (reading.At (x.place + x.length) 0)).last
    → Read strict s (done ++ (x ∷ [])) (x.place + x.length) (walk_from strict left s (done ++ (x ∷ [])) (reading.At (x.place + x.length) 0)))
    → Stands (on_element (λ more e. walk_from strict left s more e) done r).last → Read strict s done at (on_element (λ more e. walk_from strict left s more e) done r)
on_read strict left s done at v (element.Is x) e f h = read_more strict s done at v x _ e (f x h)
on_read strict left s done at v (element.Refused r) e f h = absurd h

-- a start that there is no room for never stands
abbrev Faulty : Reading → Type 0
Faulty c = Stands c → ⊥

no_room_on : (padding : Bool) (s : List ℕ) (at : ℕ) (h : ReadHeader) → Stands (start_on padding s 0x15 0x01 true false at h) → ⊥
no_room_on padding s at (header.Refused r) = λ z. z
no_room_on padding s at (header.End k u) = pick_all Faulty (eqb k 0x15) (no 5 at) (no 4 at) (λ e z. z) (λ e z. z)
no_room_on padding s at (header.Start k b n u) =
    pick_all Faulty (eqb k 0x01) _ _ (λ e. pick_all Faulty (same_bit b true) (no 9 at) (no 5 at) (λ f z. z) (λ f z. z)) (λ e z. z)

pub no_room_lem : (padding : Bool) (s : List ℕ) (c : Reading) → Stands (start_here padding s 0x15 0x01 true false c) → ⊥
unfolding start_here
no_room_lem padding s (reading.At at v) = no_room_on padding s at (header_at s at)
no_room_lem padding s (reading.Refused r) = λ z. z

walk_read : (strict : Strictness) (left : ℕ) (s : List ℕ) (done : List Element) (at v : ℕ) → Stands (walk_from strict left s done (reading.At at v)).last
    → Read strict s done at (walk_from strict left s done (reading.At at v))
unfolding walk_from
walk_read strict zero s done at v =
    by_bool (next_is s 0x01 (reading.At at v))
    (λ e. rw e (λ h. absurd (no_room_lem strict.padding s (reading.At at v) h)))
    (λ e. rw e (λ h. read_none strict s done at v))
walk_read strict (suc left) s done at v =
    by_bool (next_is s 0x01 (reading.At at v))
    (λ e.
    rw e
    (λ h.
    on_read strict left s done at v (element_at strict (ids_in done) s (reading.At at v)) refl
    (λ x g. walk_read strict left s (done ++ (x ∷ [])) (x.place + x.length) 0 g) h))
    (λ e. rw e (λ h. read_none strict s done at v))

-- ---- what a chain is

pub chain_tiles : (strict : Strictness) (s : List ℕ) (done xs : List Element) (at e : ℕ) → Follows strict s done at xs e → Tiles at xs e
chain_tiles strict s done [] at e c = c
chain_tiles strict s done (x ∷ xs) at e c =
    let w = element_some strict (ids_in done) s at 0 x c.0 in
    let q : x.place + x.length ≡ at + x.length = omega arith in
    (w.0, w.1, subst (λ (m : ℕ). Tiles m xs e) q (chain_tiles strict s (done ++ (x ∷ [])) xs (x.place + x.length) e c.1))

-- ids are new, each to those before
pub chain_ids : (strict : Strictness) (s : List ℕ) (done xs : List Element) (at e : ℕ) → Follows strict s done at xs e → Fresh (λ x. x.id) done xs
chain_ids strict s done [] at e c = tt
chain_ids strict s done (x ∷ xs) at e c =
    (element_unseen strict (ids_in done) s (reading.At at 0) x c.0, chain_ids strict s (done ++ (x ∷ [])) xs (x.place + x.length) e c.1)

-- so none stands twice; to be the same key does not care for the order
pub same_turn : (a b : Key) → same_key a b ≡ same_key b a
unfolding same_key
same_turn a b = rw (eqb_turn a.low b.low, eqb_turn a.high b.high, eqb_turn a.number b.number)

once_fresh : (key : Element → Key) (done xs : List Element) → once same_key (map key done) ≡ true → Fresh key done xs
    → once same_key (map key (done ++ xs)) ≡ true
once_fresh key done [] h f = rw (append-nil done) h
once_fresh key done (x ∷ xs) h f =
    let e : once same_key (map key (done ++ (x ∷ []))) ≡ true =
    ap (once same_key) (map-append key done (x ∷ [])) ∙ once_more same_key same_turn (key x) (map key done) ∙ rw (h, f.0) in
    rw (← append_assoc done (x ∷ []) xs) (once_fresh key (done ++ (x ∷ [])) xs e f.1)

pub chain_ids_once : (strict : Strictness) (s : List ℕ) (xs : List Element) (at e : ℕ) → Follows strict s [] at xs e → once same_key (map (λ (x : Element). x.id) xs) ≡ true
unfolding once
chain_ids_once strict s xs at e c = once_fresh (λ x. x.id) [] xs refl (chain_ids strict s [] xs at e c)

-- ---- a chain is walked

-- where an end was read, no start stands
end_on_no_start : (kind other at q u : ℕ) (h : ReadHeader) → end_on kind at h ≡ reading.At q u → start_is other h ≡ false
end_on_no_start kind other at q u (header.Refused r) e = refl
end_on_no_start kind other at q u (header.End k n) e = refl
end_on_no_start kind other at q u (header.Start k b n m) e = impossible (cc)

end_no_start : (s : List ℕ) (kind other at v q u : ℕ) → end_here s kind (reading.At at v) ≡ reading.At q u → next_is s other (reading.At at v) ≡ false
unfolding end_here next_is
end_no_start s kind other at v q u e = end_on_no_start kind other at q u (header_at s at) e

-- where an element was read, its start stands
start_next : (padding : Bool) (s : List ℕ) (at v : ℕ) (c : Reading) → opened padding s (reading.At at v) ≡ c → Stands c → next_is s 0x01 (reading.At at v) ≡ true
unfolding next_is
start_next padding s at v (reading.At from n) e h = rw (opened_from padding s 0x15 0x01 true true at v from n e).start
start_next padding s at v (reading.Refused r) e h = absurd h

element_next : (strict : Strictness) (ids : List Key) (s : List ℕ) (at v : ℕ) (x : Element) → element_at strict ids s (reading.At at v) ≡ element.Is x
    → next_is s 0x01 (reading.At at v) ≡ true
unfolding data_of
element_next strict ids s at v x h =
    let c = reading.At at v in
    let o = opened strict.padding s c in
    start_next strict.padding s at v o refl (stands_closed s o (fields_of strict ids (run_here s o)).last (data_stands strict ids s c x h)).0

any_end : (s : List ℕ) (kind at v : ℕ) → end_here s kind (reading.At at 0) ≡ end_here s kind (reading.At at v)
unfolding end_here
any_end s kind at v = refl

pub chain_walked : (strict : Strictness) (left : ℕ) (s : List ℕ) (done xs : List Element) (at v e q u : ℕ) → Follows strict s done at xs e → length xs ≤ left
    → end_here s 0x15 (reading.At e 0) ≡ reading.At q u → walk_from strict left s done (reading.At at v) ≡ walked (done ++ xs) (reading.At q u)
chain_walked strict left s done [] at v e q u c l h =
    let d : end_here s 0x15 (reading.At at v) ≡ reading.At q u = sym (any_end s 0x15 at v) ∙ rw c h in
    walk_ends strict left s done (reading.At at v) (end_no_start s 0x15 0x01 at v q u d) ∙ rw (d, append-nil done)
chain_walked strict zero s done (x ∷ xs) at v e q u c l h = absurd (omega arith)
chain_walked strict (suc left) s done (x ∷ xs) at v e q u c l h =
    let i : element_at strict (ids_in done) s (reading.At at v) ≡ element.Is x = sym (any_value strict s done at v) ∙ c.0 in
    walk_element strict left s done (reading.At at v) (element_next strict (ids_in done) s at v x i) (element.Is x) i
    ∙ chain_walked strict left s (done ++ (x ∷ [])) xs (x.place + x.length) 0 e q u c.1 (omega arith) h
    ∙ rw (append_assoc done (x ∷ []) xs)

pub package_walked : (strict : Strictness) (outer : ℕ) (s : List ℕ) (c : Reading) (first v : ℕ) (xs : List Element) (e q u : ℕ)
    → package_start strict.padding outer s c ≡ reading.At first v → Follows strict s [] first xs e → length xs ≤ most_elements → end_here s 0x15 (reading.At e 0) ≡ reading.At q u
    → package_walk strict outer s c ≡ walked xs (reading.At q u)
package_walked strict outer s c first v xs e q u h chain l ends =
    ap (walk_from strict most_elements s []) h ∙ chain_walked strict most_elements s [] xs first v e q u chain l ends

-- ---- a package that is read

-- from its first element's place, behind the package's start and reserved byte, to the place behind its end
pub record PackageRead (strict : Strictness) (outer : ℕ) (s : List ℕ) (c : Reading) : Type 0 where
  pub first : ℕ
  pub end : ℕ
  pub behind : ℕ
  pub start : package_start strict.padding outer s c ≡ reading.At first 0
  pub chain : Follows strict s [] first (package_walk strict outer s c).elements end
  pub ends : end_here s 0x15 (reading.At end 0) ≡ reading.At behind 0
  pub last : (package_walk strict outer s c).last ≡ reading.At behind 0

-- no step that ends here carries a number on
skip_zero : (s : List ℕ) (n : ℕ) (c : Reading) (p v : ℕ) → skip s n c ≡ reading.At p v → v ≡ 0
unfolding skip
skip_zero s n (reading.At at u) p v e =
    by_lt (length s - at) n
    (λ l. let z : no 2 at ≡ reading.At p v = rw (lt-ltb (length s - at) n l) at e in impossible (cc))
    (λ l. let z : reading.At (at + n) 0 ≡ reading.At p v = rw (le-ltb (length s - at) n l) at e in grind arith)
skip_zero s n (reading.Refused r) p v e = impossible (cc)

start_zero : (padding : Bool) (outer : ℕ) (s : List ℕ) (c : Reading) (p v : ℕ) → package_start padding outer s c ≡ reading.At p v → v ≡ 0
unfolding package_start
start_zero padding outer s c p v e = skip_zero s 1 (start_of_length padding s outer 0x15 true true 1 c) p v e

end_zero_on : (kind at q u : ℕ) (h : ReadHeader) → end_on kind at h ≡ reading.At q u → u ≡ 0
end_zero_on kind at q u (header.Refused r) e = impossible (cc)
end_zero_on kind at q u (header.End k n) e =
    by_bool (eqb k kind) (λ b. let z : reading.At (at + n) 0 ≡ reading.At q u = rw b at e in grind arith)
    (λ b. let z : no 4 at ≡ reading.At q u = rw b at e in impossible (cc))
end_zero_on kind at q u (header.Start k b n m) e = impossible (cc)

end_zero : (s : List ℕ) (kind at v q u : ℕ) → end_here s kind (reading.At at v) ≡ reading.At q u → u ≡ 0
unfolding end_here
end_zero s kind at v q u e = end_zero_on kind at q u (header_at s at) e

package_ended : (strict : Strictness) (outer : ℕ) (s : List ℕ) (c : Reading) (at v : ℕ) → package_start strict.padding outer s c ≡ reading.At at v → (r : Read strict s [] at (package_walk strict outer s c))
    → (e : Reading) → (package_walk strict outer s c).last ≡ e → Stands e → PackageRead strict outer s c
package_ended strict outer s c at v b r (reading.At q u) h k =
    let y : v ≡ 0 = start_zero strict.padding outer s c at v b in
    let d : end_here s 0x15 (reading.At r.end r.value) ≡ reading.At q u = sym r.ends ∙ h in
    let z : u ≡ 0 = end_zero s 0x15 r.end r.value q u d in
    record {
      first = at;
      end = r.end;
      behind = q;
      start = rw y at b;
      chain = subst (λ (xs : List Element). Follows strict s [] at xs r.end) (sym r.split) r.chain;
      ends = any_end s 0x15 r.end r.value ∙ rw z at d;
      last = rw z at h;
    }
package_ended strict outer s c at v b r (reading.Refused q) h k = absurd k

package_begun : (strict : Strictness) (outer : ℕ) (s : List ℕ) (c d : Reading) → package_start strict.padding outer s c ≡ d → Stands (package_walk strict outer s c).last → PackageRead strict outer s c
unfolding next_is end_here
package_begun strict outer s c (reading.At at v) b h =
    let w : package_walk strict outer s c ≡ walk_from strict most_elements s [] (reading.At at v) = ap (walk_from strict most_elements s []) b in
    let r : Read strict s [] at (package_walk strict outer s c) = rw w (walk_read strict most_elements s [] at v (rw w at h)) in
    package_ended strict outer s c at v b r (package_walk strict outer s c).last refl h
package_begun strict outer s c (reading.Refused q) b h =
    let w : package_walk strict outer s c ≡ walked [] (reading.Refused q) = ap (walk_from strict most_elements s []) b ∙ walk_ends strict most_elements s [] (reading.Refused q) refl in
    absurd (rw w at h)

pub package_read : (strict : Strictness) (outer : ℕ) (s : List ℕ) (c : Reading) → Stands (package_walk strict outer s c).last → PackageRead strict outer s c
package_read strict outer s c h = package_begun strict outer s c (package_start strict.padding outer s c) refl h

-- ---- a store that is read

pub record StoreRead (s : List ℕ) : Type 0 where
  pub first : ℕ
  pub end : ℕ
  pub value : ℕ
  pub start : place_of (package_start store_padding nothing_open s (reading.At 0 0)) ≡ first
  pub chain : Follows store_strictness s [] first (store_walk s).elements end
  pub ends : (store_walk s).last ≡ (reading.At end value ▹ end_here s 0x15 ▹ finish s)

pub over_long_lem : (s : List ℕ) → longest_input < length s → Stands (store_walk s).last → ⊥
unfolding store_walk
over_long_lem s h = rw (lt-ltb longest_input (length s) h) (λ z. z)

pub within_limit : (s : List ℕ) → length s ≤ longest_input → store_walk s ≡ finished s (package_walk store_strictness nothing_open s (reading.At 0 0))
unfolding store_walk
within_limit s h = rw (le-ltb longest_input (length s) h)

pub stands_finish : (s : List ℕ) (c : Reading) → Stands (finish s c) → Stands c
unfolding finish
stands_finish s (reading.At p v) h = tt
stands_finish s (reading.Refused r) h = h

store_within : (s : List ℕ) → length s ≤ longest_input → Stands (store_walk s).last → StoreRead s
unfolding place_of
store_within s l h =
    let w = within_limit s l in
    let r = package_read store_strictness nothing_open s (reading.At 0 0) (stands_finish s (package_walk store_strictness nothing_open s (reading.At 0 0)).last (rw w at h)) in
    record {
      first = r.first;
      end = r.end;
      value = 0;
      start = ap place_of r.start;
      chain = subst (λ (xs : List Element). Follows store_strictness s [] r.first xs r.end) (sym (ap (λ (x : Walk). x.elements) w)) r.chain;
      ends = ap (λ (x : Walk). x.last) w ∙ ap (finish s) (r.last ∙ sym r.ends);
    }

pub store_read : (s : List ℕ) → Stands (store_walk s).last → StoreRead s
store_read s h = by_lt longest_input (length s) (λ l. absurd (over_long_lem s l h)) (λ l. store_within s l h)

-- places and lengths tile the package; "no id twice"
pub store_tiles : (s : List ℕ) (r : StoreRead s) → Tiles r.first (store_walk s).elements r.end
store_tiles s r = chain_tiles store_strictness s [] (store_walk s).elements r.first r.end r.chain

pub ids_once : (s : List ℕ) → StoreRead s → once same_key (map (λ (x : Element). x.id) (store_walk s).elements) ≡ true
ids_once s r = chain_ids_once store_strictness s (store_walk s).elements r.first r.end r.chain
