-- An extended GUID that must be null, by the step that reads any extended GUID.
-- Assumes nothing.
use mathlib.Core.Path.{◌≡◌, refl}
use Prim.Native.Nat.{ℕ}
use mathlib.Core.List.{List}
use lib.ListN.{drop}
use Rattle.numbers.specs.ExtendedGuid.{read_extended_guid}
use Rattle.numbers.specs.Results.ExtendedGuid as id
use Rattle.numbers.specs.Results.ReadExtendedGuid.{ReadExtendedGuid}
use Rattle.numbers.specs.Results.ReadExtendedGuid as extended
use Rattle.objects.specs.Steps.{no, place_of, null_id_on, null_id, id_on, id_here}
use Rattle.objects.specs.Results.Reading.{At, Reading, Refused}
use Rattle.objects.specs.Results.ReadingId.{ReadingId}
use Rattle.objects.specs.Results.ReadingId as id'

-- refusal k at p, if it is not null
abbrev pub on_null : ℕ → ℕ → ReadingId → Reading
on_null k p (id'.At at id.Null) = At at 0
on_null k p (id'.At at (id.Named g x)) = no k p
on_null k p (id'.Refused r) = Refused r

on_null_lem : (k at : ℕ) (r : ReadExtendedGuid) → null_id_on k at r ≡ on_null k at (id_on at r)
on_null_lem k at (extended.Value id.Null n) = refl
on_null_lem k at (extended.Value (id.Named g x) n) = refl
on_null_lem k at (extended.Refused r) = refl

pub null_id_lem : (s : List ℕ) (k : ℕ) (c : Reading) → null_id s k c ≡ on_null k (place_of c) (id_here s c)
unfolding null_id place_of id_here
null_id_lem s k (At at v) = on_null_lem k at (read_extended_guid (drop at s))
null_id_lem s k (Refused r) = refl
