-- Bytes as numbers: little-endian, as everything is written, and in the order of the bytes themselves, the first foremost.
-- Assumes nothing.
use Rattle.std.specs.Prelude.{ℕ, zero, suc, ◌+◌, ◌*◌, ◌/◌, ◌%◌, ◌^◌, ◌<◌, Bool, true, false, List, [], ◌∷◌, length, get_or, ltb}
use Rattle.laws.specs.Pick.{pick}

-- every element is a byte
abbrev pub AllBytes : List ℕ → Type 0
AllBytes l = (i : ℕ) → get_or l i 0 < 256

-- "Little-endian throughout": the number that bytes make, the lowest first
unfoldable pub le : List ℕ → ℕ
le [] = 0
le (b ∷ s) = le s * 256 + b

-- the n lowest bytes of a number, the lowest first
unfoldable pub bytes : ℕ → ℕ → List ℕ
bytes zero x = []
bytes (suc n) x = x % 256 ∷ bytes n (x / 256)

-- one run of bytes comes before another: the first byte that differs decides, as in a dictionary
unfoldable pub before : List ℕ → List ℕ → Bool
before [] ys = false
before (x ∷ xs) [] = false
before (x ∷ xs) (y ∷ ys) = pick (ltb x y) true (pick (ltb y x) false (before xs ys))

-- the number that bytes make, the highest first
unfoldable pub be : List ℕ → ℕ
be [] = 0
be (x ∷ xs) = x * 256 ^ length xs + be xs
