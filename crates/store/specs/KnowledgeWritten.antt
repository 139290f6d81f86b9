-- Knowledge as it is written: "With no range the knowledge is empty, else one cell knowledge of ranges only, ordered by the
-- GUID's sixteen bytes, then by from". The order is that of the list. "writing uses the shortest".
-- Assumes nothing.
use Rattle.std.specs.Prelude.{ℕ, List, [], ◌∷◌, ◌++◌, length}
use Rattle.numbers.specs.Compact.{compact_bytes}
use Rattle.numbers.specs.Guid.{guid_bytes, swapped}
use Rattle.numbers.specs.declared.guid.Guid.{Guid}
use Rattle.objects.specs.Types.{range_type, plain_bit, knowledge_type, specialized_type, cell_type, compound_bit}
use Rattle.objects.specs.Header.{start_bytes, end_bytes}
use Rattle.talk.specs.declared.range.Range.{Range}
use Rattle.store.specs.Knowledge.{cell_guid}

-- a range's GUID, its halves as little-endian numbers again
unfoldable pub range_guid : Range → Guid
range_guid x = record { low = swapped x.upper; high = swapped x.lower }

-- "ranges (GUID, from, to, both ends known)"
unfoldable pub range_data : Range → List ℕ
range_data x = guid_bytes (range_guid x) ++ (compact_bytes x.from ++ compact_bytes x.to)

unfoldable pub range_bytes : Range → List ℕ
range_bytes x = start_bytes range_type plain_bit (length (range_data x)) ++ range_data x

unfoldable pub ranges_bytes : List Range → List ℕ
ranges_bytes [] = []
ranges_bytes (x ∷ xs) = range_bytes x ++ ranges_bytes xs

-- a knowledge with one cell knowledge, up to its first range, and from behind its last
unfoldable pub cell_front : List ℕ
cell_front = start_bytes knowledge_type compound_bit 0 ++ (start_bytes specialized_type compound_bit 16 ++ (guid_bytes cell_guid ++ start_bytes cell_type compound_bit 0))

unfoldable pub cell_back : List ℕ
cell_back = end_bytes cell_type ++ (end_bytes specialized_type ++ end_bytes knowledge_type)

unfoldable pub knowledge_bytes : List Range → List ℕ
knowledge_bytes [] = start_bytes knowledge_type compound_bit 0 ++ end_bytes knowledge_type
knowledge_bytes (x ∷ xs) = cell_front ++ (ranges_bytes (x ∷ xs) ++ cell_back)
