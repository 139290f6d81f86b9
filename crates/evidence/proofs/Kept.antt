-- Which things are in a list of those that are kept: those that were in the list, and for which the test holds.
-- Assumes nothing.
use mathlib.Core.Path.{◌≡◌, refl, sym, ap, ◌∙◌}
use mathlib.Core.Bool.{Bool, true}
use mathlib.Core.List.Memᴰ.{cases_cons as first-or-later}
use mathlib.Core.List.Memᴰ.{head as here}
use mathlib.Core.List.Memᴰ.{not-nil as none_in}
use mathlib.Core.List.Memᴰ.{tail as later}
use mathlib.Core.List.{List, [], ◌∷◌, Memᴰ as In}
use mathlib.Core.Logic.{⊎_elim}
use Rattle.laws.proofs.Cases.{by_bool}
use Rattle.talk.specs.Wanted.{keep}

module _ {E : Type 0} where
  pub keep_same : (p r : E → Bool) (l : List E) → ((x : E) → In x l → p x ≡ r x) → keep p l ≡ keep r l
  unfolding keep
  keep_same p r [] h = refl
  keep_same p r (x ∷ l) h = rw (h x (here refl), keep_same p r l (λ y m. h y (later m)))

  pub kept_was : (p : E → Bool) (l : List E) (x : E) → In x (keep p l) → In x l × (p x ≡ true)
  unfolding keep
  kept_was p [] x m = absurd (none_in m)
  kept_was p (y ∷ l) x m =
      by_bool (p y)
      (λ e.
      ⊎_elim (λ i. (here i, ap p i ∙ e)) (λ n. let r = kept_was p l x n in (later r.0, r.1)) (first-or-later (rw e at m)))
      (λ e. let r = kept_was p l x (rw e at m) in (later r.0, r.1))

  pub was_kept : (p : E → Bool) (l : List E) (x : E) → In x l → p x ≡ true → In x (keep p l)
  unfolding keep
  was_kept p [] x m h = absurd (none_in m)
  was_kept p (y ∷ l) x m h =
      ⊎_elim (λ i. let e : p y ≡ true = ap p (sym i) ∙ h in rw e (here i))
      (λ n. by_bool (p y) (λ e. rw e (later (was_kept p l x n h))) (λ e. rw e (was_kept p l x n h)))
      (first-or-later m)
