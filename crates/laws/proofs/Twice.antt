-- 'Seen before' and 'no key twice': one key more at the end, and what the test says of a key and those before it.
-- Assumes nothing.
use mathlib.Core.Path.{◌≡◌, refl, sym, ◌∙◌}
use mathlib.Core.Bool.{Bool, true, false}
use mathlib.Core.List.{List, [], ◌∷◌, ◌++◌}
use Rattle.laws.specs.Pick.{pick}
use Rattle.laws.specs.Once.{seen, once}
use Rattle.laws.proofs.Cases.{by_bool, neither, both}

module _ {K : Type 0} (same : K → K → Bool) where
  -- among the keys of two lists
  pub seen_append : (k : K) (xs ys : List K) → seen same k (xs ++ ys) ≡ pick (seen same k xs) true (seen same k ys)
  unfolding seen
  seen_append k [] ys = refl
  seen_append k (x ∷ xs) ys =
      by_bool (same k x) (λ e. rw e) (λ e. rw e (seen_append k xs ys))

  -- one key more at the end
  pub once_more : ((a b : K) → same a b ≡ same b a) → (k : K) (xs : List K)
      → once same (xs ++ k ∷ []) ≡ pick (once same xs) (pick (seen same k xs) false true) false
  unfolding once seen
  once_more turn k [] = refl
  once_more turn k (x ∷ xs) =
      by_bool (seen same x xs)
      (λ e. rw (seen_append x xs (k ∷ []), e))
      (λ e.
      by_bool (same k x)
      (λ f. let g : same x k ≡ true = turn x k ∙ f in rw (seen_append x xs (k ∷ []), e, g, f) (by_bool (once same xs) (λ o. rw o) (λ o. rw o)))
      (λ f. let g : same x k ≡ false = turn x k ∙ f in rw (seen_append x xs (k ∷ []), e, g, f) (once_more turn k xs)))

  -- in a list with no key twice, a key is not among those before it
  pub once_before : ((a b : K) → same a b ≡ same b a) → (k : K) (xs ys : List K) → once same (xs ++ k ∷ ys) ≡ true → seen same k xs ≡ false
  unfolding once seen
  once_before turn k [] ys h = refl
  once_before turn k (x ∷ xs) ys h =
      let p = both (seen same x (xs ++ k ∷ ys)) (once same (xs ++ k ∷ ys)) h in
      let q = neither (seen same x xs) (seen same x (k ∷ ys)) (sym (seen_append x xs (k ∷ ys)) ∙ p.0) in
      let r = neither (same x k) (seen same x ys) q.1 in
      rw (turn k x, r.0) (once_before turn k xs ys p.1)
