-- Case splits: by a test of two numbers, or through a choice.
-- Assumes nothing.
use mathlib.Core.Path.{◌≡◌, refl, sym}
use mathlib.Core.Bool.{Bool, true, false}
use Prim.Native.Nat.{ℕ, ◌≤◌, ◌<◌}
use native.Mathlib.Omega.{arith}
use lib.Dec.{ltb, eqb}
use borrow.Author.Tests.{ltb-true, ltb-false, eqb-true, eqb-false, eq-eqb, ne_eqb}
use Rattle.laws.specs.Pick.{pick}

pub by_bool : {P : Type 0} (t : Bool) → (t ≡ true → P) → (t ≡ false → P) → P
by_bool true f g = f refl
by_bool false f g = g refl

pub by_lt : {P : Type 0} (a b : ℕ) → (a < b → P) → (b ≤ a → P) → P
by_lt a b f g = by_bool (ltb a b) (λ e. f (ltb-true a b e)) (λ e. g (ltb-false a b e))

pub by_eq : {P : Type 0} (a b : ℕ) → (a ≡ b → P) → ((a ≡ b → ⊥) → P) → P
by_eq a b f g = by_bool (eqb a b) (λ e. f (eqb-true a b e)) (λ e. g (eqb-false a b e))

-- where two different constructors are equal, `impossible (cc)`
pub impossible : {P : Type 0} → ◌≡◌ {A = ℕ} 0 1 → P
impossible z = absurd (omega arith)

-- what holds of both holds of the choice
pub pick_all : {X : Type 0} (P : X → Type 0) (t : Bool) (x y : X) → (t ≡ true → P x) → (t ≡ false → P y) → P (pick t x y)
pick_all P true x y f g = f refl
pick_all P false x y f g = g refl

-- a choice that is false, or true, by its parts
pub neither : (a b : Bool) → pick a true b ≡ false → (a ≡ false) × (b ≡ false)
neither true b e = impossible (cc)
neither false b e = (refl, e)

pub both : (a b : Bool) → pick a false b ≡ true → (a ≡ false) × (b ≡ true)
both true b e = impossible (cc)
both false b e = (refl, e)

-- sameness does not care for the order
pub eqb_turn : (a b : ℕ) → eqb a b ≡ eqb b a
eqb_turn a b = by_eq a b (λ e. rw (eq-eqb a b e, eq-eqb b a (sym e))) (λ n. rw (ne_eqb a b n, ne_eqb b a (λ e. n (sym e))))
