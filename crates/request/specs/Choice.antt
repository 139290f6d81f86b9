-- The filters put to a whole list of elements by flags: a byte for each element, 1 where it is in and 0 where it is out.
-- Assumes nothing.
use Rattle.std.specs.Prelude.{◌≡◌, ℕ, Bool, true, false, List, [], ◌∷◌, ◌++◌, drop, eqb}
use Rattle.laws.specs.Pick.{pick}
use Rattle.laws.specs.Once.{seen}
use Rattle.objects.specs.Types.{filter_type, filter_of_ids_type, plain_bit, with_room}
use Rattle.objects.specs.Steps.{value_of, start_here, run_here}
use Rattle.objects.specs.Results.Reading.{Reading}
use Rattle.store.specs.Element.{same_key}
use Rattle.store.specs.Tables.{elements_in}
use Rattle.store.specs.declared.element.Key.{Key}
use Rattle.store.specs.declared.element.Element.{Element}
use Rattle.request.specs.Filter.{type_part, request_padding}
use Rattle.request.specs.Meaning.{Filter, keys_in, matches, filters_read, lets_in}
use Rattle.request.specs.declared.choice.Matched.{Matched}
use Rattle.request.specs.declared.choice.Matched.TheVariants.{All, OfType, WithId}

-- ---- flags

-- 1 for in, 0 for out
unfoldable pub flag_of : Bool → ℕ
flag_of inside = pick inside 1 0

unfoldable pub flags_of : List Bool → List ℕ
flags_of [] = []
flags_of (b ∷ bs) = flag_of b ∷ flags_of bs

-- the flags of those elements for which a test holds are set; the others, and all behind the last element's, stay
unfoldable pub set_flags : (Element → Bool) → ℕ → List Element → List ℕ → List ℕ
set_flags test to [] flags = flags
set_flags test to (x ∷ xs) [] = []
set_flags test to (x ∷ xs) (b ∷ flags) = pick (test x) to b ∷ set_flags test to xs flags

-- one filter, the whole list of elements, the flags
abbrev pub set_by_filter : Filter → List Element → List ℕ → List ℕ
set_by_filter f all flags = set_flags (matches f all) (flag_of (eqb f.operation 1)) all flags

-- ---- what is matched at one go through the elements

unfoldable pub matched_by : Matched → Element → Bool
matched_by All x = true
matched_by (OfType t) x = eqb x.kind t
matched_by (WithId k) x = same_key x.id k

-- the test of a filter of ids
abbrev pub with_ids : List Key → Element → Bool
with_ids keys x = seen same_key x.id keys

-- the test of a filter of this kind that stands open at c
unfoldable pub kind_matches : List ℕ → ℕ → Reading → Element → Bool
kind_matches s kind c x =
    pick (eqb kind 1) true
    (pick (eqb kind 2) (eqb x.kind (value_of (type_part s c)))
    (pick (eqb kind 6) (with_ids (keys_in (run_here s (start_here request_padding s filter_type filter_of_ids_type plain_bit with_room c))) x) false))

-- ---- what choosing promises: the flags of n elements, and behind them what was there
abbrev pub Chooses : List ℕ → Reading → ℕ → List ℕ → List ℕ → ℕ → List ℕ → List ℕ → Type 0
Chooses s c count rows ids n entry exit = exit ≡ flags_of (lets_in (filters_read count s c) (elements_in rows ids n)) ++ drop n entry
