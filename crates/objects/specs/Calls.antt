-- What the calls for a single header promise.
-- Assumes nothing.
use Rattle.std.specs.Prelude.{◌≡◌, ℕ, Bool, List, [], ◌∷◌, ltb}
use Rattle.laws.specs.Pick.{pick}
use Rattle.laws.specs.Placed.{placed}
use Rattle.numbers.specs.Refusals.{Told, gives, refuses, fault, tell_wrote}
use Rattle.numbers.specs.Calls.{single, written}
use Rattle.numbers.specs.Results.Wrote.{Wrote}
use Rattle.objects.specs.Header.{whole_header, start_bytes, end_bytes}
use Rattle.objects.specs.Results.Header.{End, ReadHeader, Refused, Start}

-- a start: type, compound bit, true length, bytes used (2: 16 bits; 4 or more: 32 bits); an end: type, bytes used (1: 8 bits; 2: 16)
abbrev pub tell_header : ReadHeader → Told
tell_header (Start k c n u) = gives (k ∷ pick c 1 0 ∷ n ∷ u ∷ [])
tell_header (End k u) = gives (k ∷ u ∷ [])
tell_header (Refused r) = refuses r

abbrev pub ReadsHeader : List ℕ → ReadHeader → Type 0
ReadsHeader s r = tell_header r ≡ single (λ t. tell_header (whole_header t)) s

-- the bytes w of a header of this type over a lent buffer: "a type over 0x3FFF to be written" is 3, and "in writing, 3 comes
-- before 14"
abbrev pub WritesTyped : ℕ → List ℕ → List ℕ → Wrote → List ℕ → Type 0
WritesTyped k w entry r exit =
    (tell_wrote r ≡ pick (ltb 0x3FFF k) (refuses (fault 3)) (written w entry))
    × (exit ≡ pick (ltb 0x3FFF k) entry (placed w entry))

abbrev pub WritesStart : ℕ → Bool → ℕ → List ℕ → Wrote → List ℕ → Type 0
WritesStart k c n entry r exit = WritesTyped k (start_bytes k c n) entry r exit

abbrev pub WritesEnd : ℕ → List ℕ → Wrote → List ℕ → Type 0
WritesEnd k entry r exit = WritesTyped k (end_bytes k) entry r exit
