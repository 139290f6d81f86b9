-- Keys that do not stand twice are no more than those among which they are (`no_more`).
-- Assumes nothing.
use mathlib.Core.Path.{◌≡◌, sym, ap, ◌∙◌}
use mathlib.Core.Bool.{true, false, not}
use mathlib.Core.List.{List, [], ◌∷◌}
use Prim.Native.Nat.{suc, ◌≤◌}
use native.Mathlib.Omega.{arith}
use lib.ListN.{length}
use Rattle.laws.specs.Once.{seen, once}
use Rattle.laws.proofs.Cases.{by_bool, both, impossible}
use Rattle.talk.specs.Wanted.{keep}
use Rattle.talk.proofs.Delivery.{length_keep}
use Rattle.store.specs.Element.{same_key}
use Rattle.store.specs.declared.element.Key.{Key}
use Rattle.store.proofs.Rows.{same_equal}
use Rattle.enter.proofs.Keys.{seen_more, seen_itself}

abbrev without : Key → List Key → List Key
without k l = keep (λ (x : Key). not (same_key k x)) l

without_fewer : (k : Key) (l : List Key) → seen same_key k l ≡ true → suc (length (without k l)) ≤ length l
unfolding seen keep
without_fewer k [] h = impossible (cc)
without_fewer k (x ∷ l) h =
    by_bool (same_key k x) (λ e. rw e (let m = length_keep (λ (y : Key). not (same_key k y)) l in omega arith))
    (λ e. let m = without_fewer k l (rw e at h) in rw e (omega arith))

without_seen : (k j : Key) (l : List Key) → same_key k j ≡ false → seen same_key j l ≡ true → seen same_key j (without k l) ≡ true
unfolding seen keep
without_seen k j [] n h = h
without_seen k j (x ∷ l) n h =
    by_bool (same_key j x) (λ e. let d : same_key k x ≡ false = ap (same_key k) (sym (same_equal j x e)) ∙ n in rw (d, e))
    (λ e.
    let i = without_seen k j l n (rw e at h) in
    by_bool (same_key k x) (λ d. rw d i) (λ d. rw (d, e) i))

pub no_more : (xs ys : List Key) → once same_key xs ≡ true → ((k : Key) → seen same_key k xs ≡ true → seen same_key k ys ≡ true) → length xs ≤ length ys
unfolding once
no_more [] ys o f = omega arith
no_more (x ∷ xs) ys o f =
    let p = both (seen same_key x xs) (once same_key xs) o in
    let other : (k : Key) → seen same_key k xs ≡ true → same_key x k ≡ false =
    λ k t.
    by_bool (same_key x k) (λ e. let u = p.0 in let z = ap (λ (j : Key). seen same_key j xs) (same_equal x k e) in impossible (cc)) (λ e. e) in
    let i = no_more xs (without x ys) p.1 (λ k t. without_seen x k ys (other k t) (f k (seen_more k x xs t))) in
    let l = without_fewer x ys (f x (seen_itself x xs)) in
    omega arith
