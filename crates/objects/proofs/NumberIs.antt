-- A compact integer that must be x, by the step that reads any compact integer.
-- Assumes nothing.
use mathlib.Core.Path.{◌≡◌, refl}
use Prim.Native.Nat.{ℕ}
use mathlib.Core.Bool.{Bool}
use mathlib.Core.List.{List}
use lib.ListN.{drop}
use lib.Dec.{eqb}
use Rattle.laws.specs.Pick.{pick}
use Rattle.numbers.specs.Compact.{compact_for}
use Rattle.numbers.specs.Results.Compact.{Compact}
use Rattle.numbers.specs.Results.Compact as compact
use Rattle.objects.specs.Steps.{no, place_of, number_on, number, number_is_on, number_is}
use Rattle.objects.specs.Results.Reading.{At, Reading, Refused}

-- refusal k at p, unless it is x
abbrev pub on_number : ℕ → ℕ → ℕ → Reading → Reading
on_number x k p (At q v) = pick (eqb v x) (At q v) (no k p)
on_number x k p (Refused r) = Refused r

on_number_lem : (x k at : ℕ) (r : Compact) → number_is_on x k at r ≡ on_number x k at (number_on at r)
on_number_lem x k at (compact.Value v n padded) = refl
on_number_lem x k at (compact.Refused r) = refl

pub number_is_lem : (padding : Bool) (s : List ℕ) (x k : ℕ) (c : Reading) → number_is padding s x k c ≡ on_number x k (place_of c) (number padding s c)
unfolding number_is place_of number
number_is_lem padding s x k (At at v) = on_number_lem x k at (compact_for padding (drop at s))
number_is_lem padding s x k (Refused r) = refl
