-- Wrong answers that the definitions rule out, each on a named input.
-- Assumes nothing.
use mathlib.Core.Path.{◌≡◌, refl}
use mathlib.Core.Bool.{false}
use mathlib.Core.List.{[], ◌∷◌}
use Rattle.talk.specs.Ranges.{range, within, holds, is_before, joined, absorb, insert}

-- 5 to 6 put to 1 to 4, which it touches, is 1 to 6 and not two ranges
touching_joined : insert (range 1 1 5 6) (range 1 1 1 4 ∷ []) ≡ range 1 1 1 6 ∷ []
unfolding insert absorb is_before joined
touching_joined = refl

-- 7 put to 1 to 5 is two ranges, not one from first to last: 6 is not known
gap_kept : insert (range 1 1 7 7) (range 1 1 1 5 ∷ []) ≡ range 1 1 1 5 ∷ range 1 1 7 7 ∷ []
unfolding insert absorb is_before joined
gap_kept = refl

gap_unknown : holds (insert (range 1 1 7 7) (range 1 1 1 5 ∷ [])) 1 1 6 ≡ false
unfolding insert absorb is_before joined holds within
gap_unknown = refl

-- nothing follows 2^64-1: neither 0 of the same GUID nor 0 of the next
last_not_first : insert (range 1 1 0 0) (range 1 1 5 18446744073709551615 ∷ []) ≡ range 1 1 0 0 ∷ range 1 1 5 18446744073709551615 ∷ []
unfolding insert absorb is_before joined
last_not_first = refl

last_not_next : insert (range 1 2 0 0) (range 1 1 5 18446744073709551615 ∷ []) ≡ range 1 1 5 18446744073709551615 ∷ range 1 2 0 0 ∷ []
unfolding insert absorb is_before joined
last_not_next = refl

-- one range may meet many
all_joined : insert (range 1 1 4 9) (range 1 1 1 3 ∷ range 1 1 5 5 ∷ range 1 1 10 12 ∷ range 1 1 14 14 ∷ []) ≡ range 1 1 1 12 ∷ range 1 1 14 14 ∷ []
unfolding insert absorb is_before joined
all_joined = refl
