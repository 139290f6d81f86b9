-- What a lent buffer holds after bytes were laid over its front, or over a part of it.
-- Assumes nothing.
use Rattle.std.specs.Prelude.{◌≡◌, ℕ, ◌+◌, List, ◌++◌, length, take, drop, ltb}
use Rattle.laws.specs.Pick.{pick}

-- w and behind it s's own bytes, if w fits; else s as it was
unfoldable pub placed : List ℕ → List ℕ → List ℕ
placed w s = pick (ltb (length s) (length w)) s (w ++ drop (length w) s)

-- w at a place of s, over what stood there
abbrev pub laid : ℕ → List ℕ → List ℕ → List ℕ
laid at w s = take at s ++ (w ++ drop (at + length w) s)

-- w was laid at a place, and r is the place behind it
abbrev pub Lays : ℕ → List ℕ → List ℕ → ℕ → List ℕ → Type 0
Lays at w entry r exit = (r ≡ at + length w) × (exit ≡ laid at w entry)
