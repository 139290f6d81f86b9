-- The one loop: a bound that is proved not to matter, its equation, and induction.
-- Assumes nothing.
use mathlib.Core.Path.{◌≡◌, refl, ap, subst, ◌∙◌}
use Prim.Native.Nat.{ℕ, zero, suc, ◌<◌}
use native.Mathlib.Omega.{arith}
use Rattle.laws.specs.Loop.{Turn, after, turns, iterate}
use Rattle.laws.specs.Loop.Turn.{more, done}

-- `size` falls at a turn that goes on
abbrev pub Falls : {A R : Type 0} → (A → ℕ) → A → Turn A R → Type 0
Falls size a (more b) = size b < size a
Falls size a (done r) = Unit {0}

after_same : {A R : Type 0} (f g : A → R) (t : Turn A R) → ((b : A) → t ≡ more b → f b ≡ g b) → after f t ≡ after g t
after_same f g (more b) h = h b refl
after_same f g (done r) h = refl

module _ {A R : Type 0} (step : A → Turn A R) (size : A → ℕ) (out : R) (falls : (a : A) → Falls size a (step a)) where
  falls_to : (a b : A) → step a ≡ more b → size b < size a
  falls_to a b e = subst (λ (t : Turn A R). Falls size a t) e (falls a)

  -- any number of turns above the size gives one answer
  enough : (f g : ℕ) (a : A) → size a < f → size a < g → turns step out f a ≡ turns step out g a
  unfolding turns
  enough zero g a p q = absurd (omega arith)
  enough (suc f) zero a p q = absurd (omega arith)
  enough (suc f) (suc g) a p q =
      after_same (λ b. turns step out f b) (λ b. turns step out g b) (step a)
      (λ b e. let l = falls_to a b e in enough f g b (omega arith) (omega arith))

  pub iterate_eq : (a : A) → iterate step size out a ≡ after (λ b. iterate step size out b) (step a)
  unfolding iterate turns
  iterate_eq a =
      after_same (λ b. turns step out (size a) b) (λ b. turns step out (suc (size b)) b) (step a)
      (λ b e. let l = falls_to a b e in enough (size a) (suc (size b)) b (omega arith) (omega arith))

  pub iterate_at : (a : A) (t : Turn A R) → step a ≡ t → iterate step size out a ≡ after (λ b. iterate step size out b) t
  iterate_at a t e = iterate_eq a ∙ ap (after (λ b. iterate step size out b)) e

  -- what holds at a state if it holds at the next, holds at each
  climb : (P : A → Type 0) → ((a : A) → ((b : A) → step a ≡ more b → P b) → P a) → (f : ℕ) (a : A) → size a < f → P a
  climb P h zero a l = absurd (omega arith)
  climb P h (suc f) a l = h a (λ b e. let m = falls_to a b e in climb P h f b (omega arith))

  pub iterate_ind : (P : A → Type 0) → ((a : A) → ((b : A) → step a ≡ more b → P b) → P a) → (a : A) → P a
  iterate_ind P h a = climb P h (suc (size a)) a (omega arith)
