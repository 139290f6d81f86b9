-- What holds of each thing of a list holds of each of its first ones, of the one behind them, and of those that are kept.
-- Assumes nothing.
use mathlib.Core.Path.{◌≡◌, subst}
use mathlib.Core.Bool.{Bool}
use mathlib.Core.List.{List, [], ◌∷◌}
use Prim.Native.Nat.{ℕ, zero, suc}
use lib.ListN.{take, drop}
use Rattle.laws.proofs.Cases.{by_bool, impossible}
use Rattle.talk.specs.Each.{Each}
use Rattle.talk.specs.Wanted.{keep}

pub each_first : {E : Type 0} (P : E → Type 0) (k : ℕ) (l : List E) → Each P l → Each P (take k l)
each_first P zero l h = tt
each_first P (suc k) [] h = tt
each_first P (suc k) (x ∷ l) h = (h.0, each_first P k l h.1)

pub each_next : {E : Type 0} (P : E → Type 0) (k : ℕ) (l : List E) {x : E} {r : List E} → drop k l ≡ x ∷ r → Each P l → P x
each_next P zero l e h = (subst (Each P) e h).0
each_next P (suc k) [] e h = impossible (cc)
each_next P (suc k) (y ∷ l) e h = each_next P k l e h.1

pub each_kept : {E : Type 0} (P : E → Type 0) (test : E → Bool) (l : List E) → Each P l → Each P (keep test l)
unfolding keep
each_kept P test [] h = tt
each_kept P test (x ∷ l) h = by_bool (test x) (λ e. rw e (h.0, each_kept P test l h.1)) (λ e. rw e (each_kept P test l h.1))

-- what follows from it
pub each_so : {E : Type 0} (P Q : E → Type 0) (l : List E) → ((x : E) → P x → Q x) → Each P l → Each Q l
each_so P Q [] f h = tt
each_so P Q (x ∷ l) f h = (f x h.0, each_so P Q l f h.1)
