-- How little stands around the elements of a store that is read: three bytes at least before the first of them, and one behind the last; and how
-- long the elements are that enter. So a store of them that is written anew is not longer than what they came in.
-- Assumes nothing.
use mathlib.Core.Path.{◌≡◌, refl, sym, ap, subst, ◌∙◌}
use mathlib.Core.Bool.{Bool, true}
use mathlib.Core.List.Memᴰ.{append_cases as in_either}
use mathlib.Core.List.Memᴰ.{append_left as in_front}
use mathlib.Core.List.Memᴰ.{append_right as in_rest}
use mathlib.Core.List.Memᴰ.{cases_cons as first-or-later}
use mathlib.Core.List.Memᴰ.{head as here}
use mathlib.Core.List.Memᴰ.{not-nil as none_in}
use mathlib.Core.List.Memᴰ.{tail as later}
use mathlib.Core.List.{List, [], ◌∷◌, ◌++◌, map, Memᴰ as In}
use mathlib.Core.Logic.{⊎_elim}
use Prim.Native.Nat.{ℕ, ◌+◌, ◌-◌, ◌≤◌, ◌<◌}
use native.Mathlib.Omega.{arith}
use lib.Dec.{eqb, ltb}
use lib.ListN.{length, take, drop, length-append, length-drop}
use borrow.Author.Tests.{eq-eqb}
use Rattle.laws.specs.Once.{seen, once}
use Rattle.laws.proofs.Cases.{by_bool, by_lt, both, impossible}
use Rattle.laws.proofs.Parts.{part_length}
use Rattle.objects.specs.Header.{header_of, header_at}
use Rattle.objects.specs.Steps.{nothing_open, place_of, skip, start_here, length_is, start_of_length, end_here}
use Rattle.objects.specs.Results.Reading.{Reading}
use Rattle.objects.specs.Results.Reading as reading
use Rattle.objects.proofs.StepsCarry.{opened_from}
use Rattle.store.specs.Chain.{Follows}
use Rattle.store.specs.Element.{same_key, ids_in}
use Rattle.store.specs.Held.{stored_bytes}
use Rattle.store.specs.Store.{package_start, package_walk, store_walk, store_strictness, Stands, Walk}
use Rattle.store.specs.declared.element.Element.{Element}
use Rattle.store.specs.declared.element.Strictness.{Strictness}
use Rattle.store.proofs.Chains.{PackageRead, package_read, over_long_lem, within_limit, stands_finish}
use Rattle.store.proofs.ElementLeast.{StartLeast, header_least}
use Rattle.store.proofs.Taken.{element_some}
use Rattle.numbers.specs.Refusals.{longest_input}
use Rattle.enter.specs.Entering.{Kept, kept_id, enter}
use Rattle.enter.specs.Package.{kept_in, joined, packed}
use Rattle.enter.proofs.EnteringLaws.{nothing_else, ids_once}
use Rattle.enter.proofs.Keys.{seen_member}
use Rattle.enter.proofs.PackageLengths.{length_framed}

-- ---- around the elements

-- the data byte behind a start
byte_behind : (s : List ℕ) (p from n q u : ℕ) → p + 2 ≤ from → skip s 1 (length_is 1 p (reading.At from n)) ≡ reading.At q u → p + 3 ≤ q
unfolding length_is skip
byte_behind s p from n q u h e =
    by_bool (eqb n 1)
    (λ a.
    by_bool (ltb (length s - from) 1)
    (λ b. impossible (let z = rw (a, b) at e in cc))
    (λ b. let z : reading.At (from + 1) 0 ≡ reading.At q u = rw (a, b) at e in let i : from + 1 ≡ q = grind arith in omega arith))
    (λ a. impossible (let z = rw a at e in cc))

front_on : (padding : Bool) (outer : ℕ) (s : List ℕ) (p v q u : ℕ) (c : Reading) → start_here padding s outer 0x15 true true (reading.At p v) ≡ c
    → skip s 1 (length_is 1 p c) ≡ reading.At q u → p + 3 ≤ q
unfolding length_is skip
front_on padding outer s p v q u (reading.At from n) i e =
    let o = opened_from padding s outer 0x15 true true p v from n i in
    let h : 2 ≤ o.used = subst StartLeast o.start (header_least s p) in
    let past = o.past in
    byte_behind s p from n q u (omega arith) e
front_on padding outer s p v q u (reading.Refused r) i e = impossible (cc)

package_front_lem : (padding : Bool) (outer : ℕ) (s : List ℕ) (p v q u : ℕ) → package_start padding outer s (reading.At p v) ≡ reading.At q u → p + 3 ≤ q
unfolding package_start start_of_length place_of
package_front_lem padding outer s p v q u e = front_on padding outer s p v q u (start_here padding s outer 0x15 true true (reading.At p v)) refl e

-- where an end was read there is a byte
pub end_inside : (s : List ℕ) (kind e v q u : ℕ) → end_here s kind (reading.At e v) ≡ reading.At q u → e < length s
unfolding end_here header_at header_of
end_inside s kind e v q u h =
    by_lt e (length s) (λ l. l)
    (λ l.
    let z : length (drop e s) ≡ 0 = (let d = length-drop e s in omega arith) in
    impossible (let y = rw (eq-eqb _ _ z) at h in cc))

-- ---- the elements of a chain, one behind the other

pub chain_joined : (strict : Strictness) (s : List ℕ) (done xs : List Element) (at e : ℕ) → Follows strict s done at xs e → at + length (joined (map (kept_in s) xs)) ≡ e
unfolding joined kept_in stored_bytes
chain_joined strict s done [] at e c = let i : at ≡ e = c in omega arith
chain_joined strict s done (x ∷ xs) at e c =
    let w = element_some strict (ids_in done) s at 0 x c.0 in
    let p = w.0 in
    let l = w.2 in
    let n : length (take x.length (drop x.place s)) ≡ x.length = part_length x.place x.length s (omega arith) in
    let i = chain_joined strict s (done ++ (x ∷ [])) xs (x.place + x.length) e c.1 in
    let a = length-append (take x.length (drop x.place s)) (joined (map (kept_in s) xs)) in
    omega arith

-- the package of a store that is read
store_package : (s : List ℕ) → Stands (store_walk s).last
    → PackageRead store_strictness nothing_open s (reading.At 0 0) × ((store_walk s).elements ≡ (package_walk store_strictness nothing_open s (reading.At 0 0)).elements)
store_package s h =
    by_lt longest_input (length s) (λ l. absurd (over_long_lem s l h))
    (λ l.
    let w = within_limit s l in (
      package_read store_strictness nothing_open s (reading.At 0 0) (stands_finish s (package_walk store_strictness nothing_open s (reading.At 0 0)).last (rw w at h)),
      ap (λ (x : Walk). x.elements) w,
    ))

-- written anew it is not longer
pub store_joined : (s : List ℕ) → Stands (store_walk s).last → 4 + length (joined (map (kept_in s) (store_walk s).elements)) ≤ length s
store_joined s h =
    let (r, e) = store_package s h in
    let all = (package_walk store_strictness nothing_open s (reading.At 0 0)).elements in
    let f = package_front_lem _ nothing_open s 0 0 r.first 0 r.start in
    let l = end_inside s 0x15 r.end 0 r.behind 0 r.ends in
    let i = chain_joined store_strictness s [] all r.first r.end r.chain in
    rw e (omega arith)

-- ---- the elements that enter

joined_append : (xs ys : List Kept) → length (joined (xs ++ ys)) ≡ length (joined xs) + length (joined ys)
unfolding joined
joined_append [] ys = omega arith
joined_append (x ∷ xs) ys =
    let a = length-append x.bytes (joined (xs ++ ys)) in
    let b = length-append x.bytes (joined xs) in
    let i = joined_append xs ys in
    omega arith

-- where one stands among others
in_parts : {x : Kept} (l : List Kept) → In x l → (before : List Kept) × (after : List Kept) × (l ≡ before ++ (x ∷ after))
in_parts [] m = absurd (none_in m)
in_parts {x} (y ∷ l) m =
    ⊎_elim (λ e. ([], l, ap (λ (z : Kept). z ∷ l) (sym e)))
    (λ n. let (before, after, e) = in_parts l n in (y ∷ before, after, ap (λ (r : List Kept). y ∷ r) e))
    (first-or-later m)

-- those of which no id stands twice are not longer than those among which they are
pub among_joined : (xs ys : List Kept) → once same_key (map kept_id xs) ≡ true → ((x : Kept) → In x xs → In x ys) → length (joined xs) ≤ length (joined ys)
unfolding joined once
among_joined [] ys o f = omega arith
among_joined (x ∷ xs) ys o f =
    let p = both (seen same_key x.id (map kept_id xs)) (once same_key (map kept_id xs)) o in
    let (before, after, e) = in_parts ys (f x (here refl)) in
    let others : (z : Kept) → In z xs → In z (before ++ after) =
    λ z m.
    ⊎_elim (λ n. in_front after n)
    (λ n.
    ⊎_elim
    (λ (i : z ≡ x).
    let s = seen_member kept_id xs m in
    let t = ap (λ (y : Kept). seen same_key y.id (map kept_id xs)) i in
    let u = p.0 in
    impossible (cc))
    (λ k. in_rest before k)
    (first-or-later n))
    (in_either before (subst (In z) e (f z (later m)))) in
    let i = among_joined xs (before ++ after) p.1 others in
    let a = length-append x.bytes (joined xs) in
    let b = joined_append before after in
    let c = ap (λ (l : List Kept). length (joined l)) e ∙ joined_append before (x ∷ after) in
    let d = length-append x.bytes (joined after) in
    omega arith

-- what is there and what comes are together not shorter than what there is then
pub entered_joined : (there come : List Kept) → once same_key (map kept_id there) ≡ true → once same_key (map kept_id come) ≡ true
    → length (joined (enter there come)) ≤ length (joined there) + length (joined come)
entered_joined there come a b =
    let i =
    among_joined (enter there come) (there ++ come) (ids_once there come a b)
    (λ x m. ⊎_elim (λ h. in_front come h.0) (λ n. in_rest there n) (nothing_else there come x m)) in
    let j = joined_append there come in
    omega arith

-- a store that is written anew
pub length_packed : (l : List Kept) → length (packed l) ≡ 4 + length (joined l)
unfolding packed
length_packed l = length_framed (joined l)
