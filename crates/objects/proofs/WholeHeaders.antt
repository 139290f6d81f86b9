-- A single header, true length included, is not empty and lies within its part, a fault's place too; and it depends only on
-- its own bytes.
-- Assumes nothing.
use mathlib.Core.Path.{◌≡◌, refl, sym, subst, ◌∙◌}
use mathlib.Core.Bool.{Bool}
use mathlib.Core.Logic.{◌⊎◌, inl, inr}
use mathlib.Core.List.{List}
use Prim.Native.Nat.{ℕ, ◌+◌, ◌-◌, ◌<◌, ◌≤◌}
use native.Mathlib.Omega.{arith}
use lib.ListN.{length}
use Rattle.numbers.specs.Compact.{padding_taken}
use Rattle.laws.proofs.Agreement.{Agree, agree_less, agree_drop}
use Rattle.numbers.specs.Refusals.{fault_at}
use Rattle.objects.specs.Header.{header_of, header_at, length_at, lengthened, with_length, whole_header}
use Rattle.objects.specs.Results.Header.{End, ReadHeader, Refused, Start}
use Rattle.objects.specs.Results.Length.{Is, Length}
use Rattle.objects.specs.Results.Length as length'
use Rattle.objects.proofs.HeaderLaws.{Fits, header_of_fits, LengthFits, length_fits}
use Rattle.objects.proofs.Local.{start_local, end_local, length_local}

-- 2 or 3, at a place within the part
abbrev pub WholeWithin : ℕ → ReadHeader → Type 0
WholeWithin n (Start k c m u) = (0 < u) × (u ≤ n)
WholeWithin n (End k u) = (0 < u) × (u ≤ n)
WholeWithin n (Refused r) = (r.place ≤ n) × ((r ≡ fault_at 2 r.place) ⊎ (r ≡ fault_at 3 r.place))

lengthened_within : (s : List ℕ) (k : ℕ) (c : Bool) (u : ℕ) (l : Length) → 0 < u → u ≤ length s → LengthFits s u l → WholeWithin (length s) (lengthened k c l)
lengthened_within s k c u (Is v from) p h w = (omega arith, w.1 h)
lengthened_within s k c u (length'.Refused r) p h (inl e) = rw e (h, inl refl)
lengthened_within s k c u (length'.Refused r) p h (inr e) = rw e (h, inr refl)

with_length_within : (s : List ℕ) (h : ReadHeader) → Fits 0 (length s) h → WholeWithin (length s) (with_length s h)
with_length_within s (Start k c n u) w = lengthened_within s k c u (length_at padding_taken s u n) w.0 w.1 (length_fits padding_taken s u n)
with_length_within s (End k u) w = w
with_length_within s (Refused r) w = rw w (omega arith, inl refl)

pub whole_header_within : (s : List ℕ) → WholeWithin (length s) (whole_header s)
unfolding whole_header
whole_header_within s = with_length_within s (header_of 0 s) (header_of_fits 0 s)

-- ---- its own bytes

-- of what u bytes in front say
abbrev WholeOwn : List ℕ → List ℕ → ReadHeader → Type 0
WholeOwn s t (Start k c n u) = Agree s t u → whole_header t ≡ Start k c n u
WholeOwn s t (End k u) = Agree s t u → whole_header t ≡ End k u
WholeOwn s t (Refused r) = Unit {0}

front : (s : List ℕ) → header_at s 0 ≡ header_of 0 s
unfolding header_at
front s = refl

lengthened_own : (s t : List ℕ) (k : ℕ) (c : Bool) (n u : ℕ) (l : Length) → header_of 0 s ≡ Start k c n u → length_at padding_taken s u n ≡ l → u ≤ length s
    → WholeOwn s t (lengthened k c l)
unfolding whole_header
lengthened_own s t k c n u (Is v from) e q h =
    λ a.
    let w : LengthFits s u (Is v from) = subst (LengthFits s u) q (length_fits padding_taken s u n) in
    let f : header_of 0 t ≡ Start k c n u = sym (front t) ∙ start_local s 0 t 0 k c n u (front s ∙ e) (agree_less s t from u (omega arith) a) in
    let i : u + (from - u) ≡ from = omega arith in
    let g = length_local padding_taken s u t u n v (from - u) (rw i q) (agree_drop s t u (from - u) (rw i a)) in
    rw (f, g, i)
lengthened_own s t k c n u (length'.Refused r) e q h = tt

with_length_own : (s t : List ℕ) (h : ReadHeader) → header_of 0 s ≡ h → Fits 0 (length s) h → WholeOwn s t (with_length s h)
unfolding whole_header
with_length_own s t (Start k c n u) e w = lengthened_own s t k c n u (length_at padding_taken s u n) e refl w.1
with_length_own s t (End k u) e w =
    λ a. let f : header_of 0 t ≡ End k u = sym (front t) ∙ end_local s 0 t 0 k u (front s ∙ e) a in rw f
with_length_own s t (Refused r) e w = tt

whole_own : (s t : List ℕ) → WholeOwn s t (whole_header s)
unfolding whole_header
whole_own s t = with_length_own s t (header_of 0 s) refl (header_of_fits 0 s)

pub start_own : (s t : List ℕ) (k : ℕ) (c : Bool) (n u : ℕ) → whole_header s ≡ Start k c n u → Agree s t u → whole_header t ≡ Start k c n u
start_own s t k c n u e = subst (WholeOwn s t) e (whole_own s t)

pub end_own : (s t : List ℕ) (k u : ℕ) → whole_header s ≡ End k u → Agree s t u → whole_header t ≡ End k u
end_own s t k u e = subst (WholeOwn s t) e (whole_own s t)
