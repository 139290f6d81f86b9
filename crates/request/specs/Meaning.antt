-- What filters mean: "all elements start in. Each filter in turn sets those it matches in or out, by its operation." A filter
-- sees the whole list of elements.
-- Assumes nothing.
use Rattle.std.specs.Prelude.{ℕ, zero, suc, ◌-◌, Bool, true, false, List, [], ◌∷◌, ◌++◌, map, eqb}
use Rattle.laws.specs.Pick.{pick}
use Rattle.laws.specs.Once.{seen}
use Rattle.numbers.specs.Results.ExtendedGuid as id
use Rattle.objects.specs.Types.{filter_type, filter_of_ids_type, plain_bit, with_room}
use Rattle.objects.specs.Steps.{value_of, id_here, start_here, run_here}
use Rattle.objects.specs.Results.Reading.{Reading}
use Rattle.objects.specs.Results.ReadingId.{ReadingId}
use Rattle.objects.specs.Results.ReadingId as id'
use Rattle.store.specs.Element.{key_of, same_key}
use Rattle.store.specs.declared.element.Key.{Key}
use Rattle.store.specs.declared.element.Element.{Element}
use Rattle.request.specs.Filter.{filter_fields, one_number, id_step, type_part, filter_start, filter_opened, filter_at, request_padding}

-- ---- what a filter says

pub record Filter : Type 0 where
  pub kind : ℕ
  pub operation : ℕ
  pub type : ℕ  -- of a Data Element Type filter
  pub ids : List Key  -- of a Data Element IDs filter

-- an id that was read, if it is not null: a null id matches nothing
unfoldable pub key_in : ReadingId → List Key
key_in (id'.At p id.Null) = []
key_in (id'.At p (id.Named g x)) = key_of g x ∷ []
key_in (id'.Refused r) = []

-- n ids from c on, in the data run d; at most so many
unfoldable pub keys_from : ℕ → List ℕ → ℕ → Reading → List Key
keys_from zero d n c = []
keys_from (suc left) d n c = pick (eqb n 0) [] (key_in (id_here d c) ++ keys_from left d (n - 1) (id_step d c))

unfoldable pub keys_in : List ℕ → List Key
keys_in d = keys_from 64 d (value_of (one_number d)) (one_number d)

-- the filter that stands at c
unfoldable pub filter_read : List ℕ → Reading → Filter
filter_read s c =
    record {
      kind = (filter_fields (run_here s (filter_start s c))).kind;
      operation = (filter_fields (run_here s (filter_start s c))).operation;
      type = value_of (type_part s (filter_opened s c));
      ids = keys_in (run_here s (start_here request_padding s filter_type filter_of_ids_type plain_bit with_room (filter_opened s c)));
    }

-- n filters from c on
unfoldable pub filters_read : ℕ → List ℕ → Reading → List Filter
filters_read zero s c = []
filters_read (suc n) s c = filter_read s c ∷ filters_read n s (filter_at s c)

-- ---- what it matches, among these elements

unfoldable pub matches : Filter → List Element → Element → Bool
matches f all x =
    pick (eqb f.kind 1) true
    (pick (eqb f.kind 2) (eqb x.kind f.type)
    (pick (eqb f.kind 6) (seen same_key x.id f.ids) false))

-- operation 1 sets in, 0 sets out
unfoldable pub set_by : Filter → List Element → Element → Bool → Bool
set_by f all x inside = pick (matches f all x) (eqb f.operation 1) inside

-- one element, by each filter in turn; it starts in
unfoldable pub left_in : List Filter → List Element → Element → Bool → Bool
left_in [] all x inside = inside
left_in (f ∷ fs) all x inside = left_in fs all x (set_by f all x inside)

-- every element
unfoldable pub lets_in : List Filter → List Element → List Bool
lets_in fs all = map (λ (x : Element). left_in fs all x true) all
