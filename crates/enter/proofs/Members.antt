-- What holds of each thing of a list holds of each that is in it, and the other way round.
-- Assumes nothing.
use mathlib.Core.Path.{refl, sym, subst}
use mathlib.Core.List.Memᴰ.{cases_cons as first-or-later}
use mathlib.Core.List.Memᴰ.{head as here}
use mathlib.Core.List.Memᴰ.{not-nil as none_in}
use mathlib.Core.List.Memᴰ.{tail as later}
use mathlib.Core.List.{List, [], ◌∷◌, Memᴰ as In}
use mathlib.Core.Logic.{⊎_elim}
use Rattle.talk.specs.Each.{Each}

pub each_of : {E : Type 0} (P : E → Type 0) (l : List E) → ((x : E) → In x l → P x) → Each P l
each_of P [] f = tt
each_of P (x ∷ l) f = (f x (here refl), each_of P l (λ y m. f y (later m)))

pub of_each : {E : Type 0} (P : E → Type 0) (l : List E) → Each P l → (x : E) → In x l → P x
of_each P [] h x m = absurd (none_in m)
of_each P (y ∷ l) h x m = ⊎_elim (λ p. subst P (sym p) h.0) (λ n. of_each P l h.1 x n) (first-or-later m)
