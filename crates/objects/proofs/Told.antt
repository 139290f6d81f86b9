-- What `read_object` and `read_run` answer in one number: a place of the input is below 2^63, and a refusal is not; told by its place and by
-- its number it is known. Only the proofs of `nesting` need this.
-- Assumes nothing.
use mathlib.Core.Path.{◌≡◌, refl, ap, subst, ◌∙◌}
use mathlib.Core.Bool.{Bool, true, false}
use mathlib.Core.List.{List}
use Prim.Native.Nat.{ℕ, ◌+◌, ◌-◌, ◌≤◌, ◌<◌}
use native.Mathlib.Omega.{arith}
use lib.ListN.{length}
use Rattle.numbers.specs.Refusals.{fault_at, refusal_number}
use Rattle.numbers.specs.declared.refusal.Refusal.{Refusal}
use Rattle.objects.specs.Header.{header_at}
use Rattle.objects.specs.Nesting.{and_on, object_at, run_at}
use Rattle.objects.specs.Next.{refused_from, told_refusal, told_number}
use Rattle.objects.specs.Results.Header.{ReadHeader}
use Rattle.objects.specs.Results.Header as header
use Rattle.objects.specs.Results.Passed.{Passed, Refused, To}
use Rattle.objects.proofs.HeaderLaws.{Fits, header_fits}
use Rattle.objects.proofs.Ahead.{NestingFault, two, three, four, six, Ahead, object_ahead, object_at_lem, run_at_lem}

-- ---- what is told

pub told_place : (placed : Bool) (p : Passed) (e : ℕ) → p ≡ To e → e ≡ told_number placed p
unfolding told_number
told_place placed p e q = rw q

pub told_fault : (placed : Bool) (p : Passed) (r : Refusal) (n : ℕ) → n ≡ told_refusal placed r → p ≡ Refused r → n ≡ told_number placed p
unfolding told_number
told_fault placed p r n t q = rw q t

-- ---- which of the two it is

goes : (placed : Bool) (p : Passed) → told_number placed p < refused_from → p ≡ To (told_number placed p)
unfolding told_number told_refusal
goes placed (To e) h = refl
goes placed (Refused r) h = absurd (omega arith)

pub told_goes : (placed : Bool) (p : Passed) (n : ℕ) → n ≡ told_number placed p → n < refused_from → p ≡ To n
told_goes placed p n t h = rw t (goes placed p (rw t at h))

stops : (s : List ℕ) (at : ℕ) (placed : Bool) (p : Passed) (go : ℕ → Passed) → length s < refused_from → Ahead s at p
    → refused_from ≤ told_number placed p → told_number placed p ≡ told_number placed (and_on p go)
unfolding told_number
stops s at placed (To e) go short a h = absurd (omega arith)
stops s at placed (Refused r) go short a h = refl

-- a run stops at a refusal of its object
pub told_stops : (padding : Bool) (s : List ℕ) (at d : ℕ) (placed : Bool) (go : ℕ → Passed) (n : ℕ) → length s < refused_from
    → n ≡ told_number placed (object_at padding s at d) → refused_from ≤ n → n ≡ told_number placed (and_on (object_at padding s at d) go)
told_stops padding s at d placed go n short t h = t ∙ stops s at placed (object_at padding s at d) go short (object_ahead padding s at d) (rw t at h)

-- ---- a refusal, by both

fault_is : (r : Refusal) → NestingFault r → (r ≡ fault_at (refusal_number r) r.place) × (refusal_number r ≤ 6)
fault_is r (two p) = (refl, omega arith)
fault_is r (three p) = (refl, omega arith)
fault_is r (four p) = (refl, omega arith)
fault_is r (six p) = (refl, omega arith)

-- what is told by number is a byte; what is told by place is a refusal too; and the fault is known by both
abbrev pub Both : Passed → ℕ → ℕ → Type 0
Both p n q = (n - refused_from ≤ 6) × (refused_from ≤ q) × (p ≡ Refused (fault_at (n - refused_from) (q - refused_from)))

both : (s : List ℕ) (at : ℕ) (p : Passed) → length s < refused_from → Ahead s at p → refused_from ≤ told_number false p → Both p (told_number false p) (told_number true p)
unfolding told_number told_refusal
both s at (To e) short a h = absurd (omega arith)
both s at (Refused r) short a h =
    let f = fault_is r a.2 in
    let k : refused_from + refusal_number r - refused_from ≡ refusal_number r = omega arith in
    let q : refused_from + r.place - refused_from ≡ r.place = omega arith in
    (rw k f.1, omega arith, ap Refused (f.0 ∙ rw (k, q)))

pub told_both : (s : List ℕ) (at : ℕ) (p : Passed) (n q : ℕ) → length s < refused_from → Ahead s at p → n ≡ told_number false p → q ≡ told_number true p
    → refused_from ≤ n → Both p n q
told_both s at p n q short a t u h = rw (t, u) (both s at p short a (rw t at h))

-- ---- where a fault stands

pub refused_within : (padding : Bool) (s : List ℕ) (at d : ℕ) (r : Refusal) → at ≤ length s → object_at padding s at d ≡ Refused r → r.place ≤ length s
refused_within padding s at d r h q = (subst (Ahead s at) q (object_ahead padding s at d)).1 h

-- behind the input there is no header
header_behind : (s : List ℕ) (at : ℕ) (h : ReadHeader) → length s < at → Fits at (length s - at) h → h ≡ header.Refused (fault_at 2 at)
header_behind s at (header.Refused r) l w = ap header.Refused w
header_behind s at (header.End k u) l w = absurd (omega arith)
header_behind s at (header.Start k c n u) l w = absurd (omega arith)

pub object_behind : (padding : Bool) (s : List ℕ) (at d : ℕ) → length s < at → object_at padding s at d ≡ Refused (fault_at 2 at)
object_behind padding s at d l = object_at_lem padding s at d (header.Refused (fault_at 2 at)) (header_behind s at (header_at s at) l (header_fits s at))

pub run_behind : (padding : Bool) (s : List ℕ) (at d kind : ℕ) → length s < at → run_at padding s at d kind ≡ Refused (fault_at 2 at)
run_behind padding s at d kind l = run_at_lem padding s at d kind (header.Refused (fault_at 2 at)) (header_behind s at (header_at s at) l (header_fits s at))
