-- What stands at a place of a run, an object from there, what a run meets, and what is answered in one number. Only the code of `header`,
-- `layout` and `nesting` needs this: that a run is what document 01 says stands in Nesting.antt, and nothing here adds to it, so a reader
-- of the promises can skip it.
-- Assumes nothing.
use Rattle.std.specs.Prelude.{ℕ, ◌+◌, ◌-◌, ◌/◌, ◌%◌, Bool, false, List, length, take, drop, ltb, eqb}
use Rattle.laws.specs.Pick.{pick}
use Rattle.laws.specs.Bytes.{le}
use Rattle.numbers.specs.Refusals.{fault_at, refusal_number}
use Rattle.numbers.specs.declared.refusal.Refusal.{Refusal}
use Rattle.objects.specs.Header.{header_at}
use Rattle.objects.specs.Nesting.{data_past, run_at}
use Rattle.objects.specs.Steps.{same_bit}
use Rattle.objects.specs.Results.Header.{ReadHeader}
use Rattle.objects.specs.Results.Header as header
use Rattle.objects.specs.Results.Passed.{Passed, Refused, To}
use Rattle.objects.specs.Results.Next.{ReadNext}
use Rattle.objects.specs.Results.Next as next
use Rattle.objects.specs.declared.nesting.Met.{Met}
use Rattle.objects.specs.declared.nesting.Met.TheVariants as met

-- the two bytes at a place as a number; 3 where they are not there, which is neither a start of two bytes nor an end of one
unfoldable pub short_number : List ℕ → ℕ → ℕ
short_number s at = pick (ltb (length s - at) 2) 3 (le (take 2 (drop at s)))

-- a start of two bytes with this type and compound bit
unfoldable pub short_is : ℕ → ℕ → Bool → Bool
short_is w kind compound = pick (eqb (w % 4) 0) (pick (eqb (w / 8 % 64) kind) (same_bit (eqb (w / 4 % 2) 1) compound) false) false

-- ---- what stands at a place

abbrev pub passing : Passed → ReadNext
passing (To e) = next.Past e
passing (Refused r) = next.Refused r

abbrev pub opening : ℕ → Passed → ReadNext
opening k (To e) = next.Opens k e
opening k (Refused r) = next.Refused r

abbrev pub next_on : Bool → List ℕ → ℕ → ℕ → ReadHeader → ReadNext
next_on padding s at d (header.Refused r) = next.Refused r
next_on padding s at d (header.End k u) = next.Ends k (at + u)
next_on padding s at d (header.Start k c n u) =
    pick c (pick (eqb d 0) (next.Refused (fault_at 6 at)) (opening k (data_past padding s (at + u) n))) (passing (data_past padding s (at + u) n))

unfoldable pub next_at : Bool → List ℕ → ℕ → ℕ → ReadNext
next_at padding s at d = next_on padding s at d (header_at s at)

-- ---- an object, from there

abbrev pub object_on : Bool → List ℕ → ℕ → ℕ → ReadNext → Passed
object_on padding s at d (next.Refused r) = Refused r
object_on padding s at d (next.Ends k e) = Refused (fault_at 4 at)
object_on padding s at d (next.Past e) = To e
object_on padding s at d (next.Opens k e) = run_at padding s e (d - 1) k

-- ---- the short start of a compound object

-- the place behind its n bytes of data, which are there, with a level left to open it; 0 for anything else
abbrev pub opened_on : List ℕ → ℕ → ℕ → ℕ → ℕ
opened_on s at d n = pick (eqb d 0) 0 (pick (ltb (length s - at - 2) n) 0 (pick (ltb 127 n) 0 (at + 2 + n)))

unfoldable pub opened_at : List ℕ → ℕ → ℕ → ℕ
opened_at s at d = pick (eqb (short_number s at % 8) 4) (opened_on s at d (short_number s at / 8 / 64)) 0

-- ---- what `read_object` and `read_run` answer, in one number: a place, or, from 2^63 on, a refusal by its place or by its number

abbrev pub refused_from : ℕ
refused_from = 0x8000000000000000

unfoldable pub told_refusal : Bool → Refusal → ℕ
told_refusal placed r = refused_from + pick placed r.place (refusal_number r)

unfoldable pub told_number : Bool → Passed → ℕ
told_number placed (To e) = e
told_number placed (Refused r) = told_refusal placed r

-- ---- what a run of the open object of type `kind` meets: a plain object whose header has two bytes, and whose data is there; its own end;
-- or what is for `read_object`

abbrev pub met_by : ℕ → ℕ → ReadHeader → Met
met_by kind at (header.Refused r) = met.Object
met_by kind at (header.End k u) = pick (eqb k kind) (met.Ended (at + u)) met.Object
met_by kind at (header.Start k c n u) = met.Object

-- a start of two bytes of a plain object with n bytes of data, if they are there
abbrev pub plain_on : List ℕ → ℕ → ℕ → Met
plain_on s at n = pick (ltb (length s - at - 2) n) met.Object (pick (ltb 127 n) met.Object (met.Plain (at + 2 + n)))

abbrev pub met_on : List ℕ → ℕ → ℕ → ℕ → Met
met_on s kind at w = pick (eqb (w % 8) 0) (plain_on s at (w / 8 / 64)) (met_by kind at (header_at s at))

unfoldable pub met_at : List ℕ → ℕ → ℕ → Met
met_at s kind at = met_on s kind at (short_number s at)
