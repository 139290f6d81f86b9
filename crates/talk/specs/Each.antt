-- What holds of each thing of a list.
-- Assumes nothing.
use Rattle.std.specs.Prelude.{List, [], ◌∷◌}

abbrev pub Each : {E : Type 0} → (E → Type 0) → List E → Type 0
Each P [] = Unit {0}
Each P (x ∷ xs) = P x × Each P xs
