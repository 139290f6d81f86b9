-- A list that is another in a different order, and what holds of each two things of a list, the one before the other. The laws of the
-- order of rows speak of these.
-- Assumes nothing.
use Rattle.std.specs.Prelude.{List, [], ◌∷◌}
use Rattle.talk.specs.Each.{Each}

-- a list with one thing more, anywhere in it
pub data Inserted {E : Type 0} (x : E) : List E → List E → Type 0 where
  here : (l : List E) → Inserted x l (x ∷ l)
  there : (y : E) {l m : List E} → Inserted x l m → Inserted x (y ∷ l) (y ∷ m)

-- the same things, each as often, in any order
pub data Rearranged {E : Type 0} : List E → List E → Type 0 where
  nothing : Rearranged [] []
  one_more : {x : E} {xs l m : List E} → Rearranged xs l → Inserted x l m → Rearranged (x ∷ xs) m

-- of each thing and each one behind it
abbrev pub Pairs : {E : Type 0} → (E → E → Type 0) → List E → Type 0
Pairs R [] = Unit {0}
Pairs R (x ∷ xs) = Each (R x) xs × Pairs R xs
