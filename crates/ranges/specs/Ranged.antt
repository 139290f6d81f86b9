-- A range under a GUID, and whether ranges have a number under one. Assumes nothing.
use Rattle.std.specs.Prelude.{Bool, List, ℕ}
use Rattle.numbers.specs.Guid.{swapped}
use Rattle.numbers.specs.declared.guid.Guid.{Guid}
use Rattle.talk.specs.Ranges.{holds}
use Rattle.talk.specs.declared.range.Range.{Range}

-- the numbers from a to b under a GUID, which stands as two numbers in the order of its sixteen bytes
unfoldable pub range_of : Guid → ℕ → ℕ → Range
range_of g a b = record { upper = swapped g.low; lower = swapped g.high; from = a; to = b }

-- whether a number under a GUID is among the ranges
unfoldable pub knows : List Range → Guid → ℕ → Bool
knows l g n = holds l (swapped g.low) (swapped g.high) n
