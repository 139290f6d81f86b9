-- One object and a run of objects (document 01, 'Objects within objects'): "Length counts the object's own data only. .. A
-- compound object then holds a run of objects, each of which may hold a run again, and an end of its own type. A plain
-- object has no end." The depth is how many compound objects may still be opened; a true length may be padded where padding is taken.
-- Assumes nothing.
use Rattle.std.specs.Prelude.{ℕ, zero, suc, ◌+◌, ◌-◌, Bool, List, length, ltb, eqb}
use Rattle.laws.specs.Pick.{pick}
use Rattle.laws.specs.Loop.{Turn, iterate}
use Rattle.laws.specs.Loop.Turn.{more, done}
use Rattle.numbers.specs.Refusals.{fault_at}
use Rattle.objects.specs.Header.{header_at, length_at}
use Rattle.objects.specs.Results.Header.{ReadHeader}
use Rattle.objects.specs.Results.Header as header
use Rattle.objects.specs.Results.Length.{Length}
use Rattle.objects.specs.Results.Length as length'
use Rattle.objects.specs.Results.Passed.{Passed, Refused, To}

-- ---- the data run, not divided: 2 at its own first byte (D-7)

abbrev pub data_on : List ℕ → Length → Passed
data_on s (length'.Is v from) = pick (ltb (length s - from) v) (Refused (fault_at 2 from)) (To (from + v))
data_on s (length'.Refused r) = Refused r

-- the place behind the data of a header with the length n that ends at `at`
unfoldable pub data_past : Bool → List ℕ → ℕ → ℕ → Passed
data_past padding s at n = data_on s (length_at padding s at n)

abbrev pub and_on : Passed → (ℕ → Passed) → Passed
and_on (To e) go = go e
and_on (Refused r) go = Refused r

-- ---- a run of objects, up to the end of the open object of type `kind`: 4 for another end

abbrev pub onward : Passed → Turn ℕ Passed
onward (To e) = more e
onward (Refused r) = done (Refused r)

abbrev pub run_turn : (ℕ → Passed) → ℕ → ℕ → ReadHeader → Turn ℕ Passed
run_turn object kind at (header.Refused r) = done (Refused r)
run_turn object kind at (header.End k u) = done (pick (eqb k kind) (To (at + u)) (Refused (fault_at 4 at)))
run_turn object kind at (header.Start k c n u) = onward (object at)

abbrev pub run_of : (ℕ → Passed) → List ℕ → ℕ → ℕ → Passed
run_of object s kind at = iterate (λ i. run_turn object kind i (header_at s i)) (λ i. length s - i) (Refused (fault_at 0 0)) at

-- ---- one object: 4 for an end; 6 for a compound start past the depth, before its true length and its data

abbrev pub object_by : Bool → (ℕ → Passed → Passed) → List ℕ → ℕ → ReadHeader → Passed
object_by padding inside s at (header.Refused r) = Refused r
object_by padding inside s at (header.End k u) = Refused (fault_at 4 at)
object_by padding inside s at (header.Start k c n u) = pick c (inside k (data_past padding s (at + u) n)) (data_past padding s (at + u) n)

unfoldable pub object_d : Bool → ℕ → List ℕ → ℕ → Passed
object_d padding zero s at = object_by padding (λ k p. Refused (fault_at 6 at)) s at (header_at s at)
object_d padding (suc d) s at = object_by padding (λ k p. and_on p (λ e. run_of (λ i. object_d padding d s i) s k e)) s at (header_at s at)

-- ---- at a place of the input, with the depth left

unfoldable pub object_at : Bool → List ℕ → ℕ → ℕ → Passed
object_at padding s at d = object_d padding d s at

unfoldable pub run_at : Bool → List ℕ → ℕ → ℕ → ℕ → Passed
run_at padding s at d kind = run_of (λ i. object_at padding s i d) s kind at
