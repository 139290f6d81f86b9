-- Of a list of things those for which a test holds, in their order; and the wanted ones: "Wanted = filters leave it in, and
-- the knowledge lacks its serial number." A thing is known by its key.
-- Assumes nothing.
use Rattle.std.specs.Prelude.{Bool, false, not, List, [], ◌∷◌}
use Rattle.laws.specs.Pick.{pick}

unfoldable pub keep : {E : Type 0} → (E → Bool) → List E → List E
keep test [] = []
keep test (x ∷ xs) = pick (test x) (x ∷ keep test xs) (keep test xs)

-- let in, and not known
unfoldable pub is_wanted : {E K : Type 0} → (E → K) → (E → Bool) → (K → Bool) → E → Bool
is_wanted key lets know x = pick (lets x) (not (know (key x))) false

unfoldable pub wanted : {E K : Type 0} → (E → K) → (E → Bool) → (K → Bool) → List E → List E
wanted key lets know things = keep (is_wanted key lets know) things
