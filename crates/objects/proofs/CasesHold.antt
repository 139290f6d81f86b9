-- Document 01's cases marked P hold, all of them by one proof.
-- Assumes nothing.
use mathlib.Core.Path.{◌≡◌, refl}
use mathlib.Core.List.{map}
use lib.Count.{count_trailing_zeros}
use Rattle.laws.specs.Bytes.{le}
use Rattle.numbers.specs.Compact.{size_of, compact_value, read_form, read_compact}
use Rattle.numbers.specs.Calls.{single}
use Rattle.objects.specs.Header.{start_of, end_of, sized, header_of, length_at, whole_header}
use Rattle.objects.specs.Cases.{Case, promised, told, cases}

pub cases_hold : map (λ (c : Case). promised c.kind c.given) cases ≡ map (λ (c : Case). told c.given c.answer) cases
unfolding cases promised told single read_compact read_form compact_value size_of whole_header header_of sized start_of end_of length_at le count_trailing_zeros
cases_hold = refl
