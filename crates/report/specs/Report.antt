-- The report of an exported call: "a slice, if of 24 bytes or more, takes in its first 24 input (0 or 1), place and length as 8-byte
-- numbers". On a refusal the length is the needed one (D-25).
-- Assumes nothing.
use Rattle.std.specs.Prelude.{ℕ, List, [], ◌∷◌, ◌++◌}
use Rattle.laws.specs.Bytes.{bytes}
use Rattle.numbers.specs.declared.refusal.Refusal.{Refusal}

-- "as 8-byte numbers"
unfoldable pub numbers_bytes : List ℕ → List ℕ
numbers_bytes [] = []
numbers_bytes (x ∷ xs) = bytes 8 x ++ numbers_bytes xs

abbrev pub three_numbers : ℕ → ℕ → ℕ → List ℕ
three_numbers input place n = numbers_bytes (input ∷ place ∷ n ∷ [])

abbrev pub refusal_report : Refusal → List ℕ
refusal_report r = three_numbers r.input r.place r.needed
