-- The one law by which any two answers are equal that an equational contract allows, and the buffers with them.
-- A contract says what the answer tells, `tell r ≡ told`, where different answers tell different things, and what is held at exit.
-- Assumes nothing.
use mathlib.Core.Path.{◌≡◌, sym, ◌∙◌}

-- different answers tell different things
abbrev pub Telling : {A B : Type 0} → (A → B) → Type 0
Telling {A} tell = (a b : A) → tell a ≡ tell b → a ≡ b

pub one_answer : {A B : Type 0} {tell : A → B} → Telling tell → {told : B} {r q : A} → tell r ≡ told → tell q ≡ told → r ≡ q
one_answer t a b = t _ _ (a ∙ sym b)

pub one_outcome : {A B C : Type 0} {tell : A → B} → Telling tell → {told : B} {held : C} {r q : A} {x y : C}
    → (tell r ≡ told) × (x ≡ held) → (tell q ≡ told) × (y ≡ held) → (r ≡ q) × (x ≡ y)
one_outcome t a b = (one_answer t a.0 b.0, a.1 ∙ sym b.1)
