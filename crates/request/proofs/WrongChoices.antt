-- Two wrong answers that the contract of `choose` rules out, each tried on one input.
-- Assumes nothing.
use mathlib.Core.List.{List, [], ◌∷◌}
use Prim.Native.Nat.{ℕ}
use Rattle.laws.proofs.Cases.{impossible}
use Rattle.laws.specs.Bytes.{le}
use Rattle.objects.specs.Steps.{value_of, need, fixed_in, start_here, run_here}
use Rattle.objects.specs.Header.{header_at, header_of, sized, start_of, length_at}
use Rattle.objects.specs.Results.Reading.{At}
use Rattle.request.specs.Filter.{kind_taken, filter_fields}
use Rattle.request.specs.Meaning.{filter_read, filters_read, matches, set_by, left_in, lets_in}
use Rattle.store.specs.Tables.{elements_in_rows}
use Rattle.request.specs.Choice.{flag_of, flags_of, Chooses}

-- one element of type 5, in both tables
abbrev rows : List ℕ
rows = 0 ∷ 46 ∷ 5 ∷ 0 ∷ 1 ∷ 7 ∷ []

abbrev ids : List ℕ
ids = 0 ∷ 1 ∷ 3 ∷ []

-- a filter of all elements that sets out: `3E 02 04 00` starts it, `1F 01` ends it
abbrev all_out : List ℕ
all_out = 0x3E ∷ 0x02 ∷ 0x04 ∷ 0x00 ∷ 1 ∷ 0 ∷ 0x1F ∷ 0x01 ∷ []

-- no filter: the element starts in
starts_out : Chooses [] (At 0 0) 0 rows ids 1 (9 ∷ 9 ∷ []) (0 ∷ 9 ∷ []) → ⊥
unfolding filters_read lets_in left_in elements_in_rows flags_of flag_of
starts_out h = impossible (cc)

-- operation 0 sets out
stays_in : Chooses all_out (At 0 0) 1 rows ids 1 (9 ∷ 9 ∷ []) (1 ∷ 9 ∷ []) → ⊥
unfolding filters_read filter_read filter_fields kind_taken matches set_by lets_in left_in elements_in_rows flags_of flag_of start_here run_here header_at header_of sized start_of length_at le value_of need fixed_in
stays_in h = impossible (cc)
