-- What every header has: it is not empty and lies within the input, and what is behind the input; the true length too.
-- Assumes nothing.
use mathlib.Core.Bool.{Bool}
use mathlib.Core.Path.{◌≡◌, refl, subst}
use mathlib.Core.Logic.{◌⊎◌, inl, inr}
use mathlib.Core.List.{List, []}
use Prim.Native.Nat.{ℕ, ◌+◌, ◌-◌, ◌%◌, ◌<◌, ◌≤◌}
use native.Mathlib.Omega.{arith}
use lib.ListN.{length, get_or, take, drop, length-drop, drop_of_length-le}
use lib.Dec.{ltb, eqb}
use borrow.Author.Tests.{ltb-false}
use Rattle.laws.specs.Bytes.{le}
use Rattle.laws.proofs.Cases.{pick_all}
use Rattle.numbers.specs.Refusals.{fault, fault_at, refusal_number}
use Rattle.numbers.specs.Compact.{read_compact, compact_for}
use Rattle.numbers.specs.declared.refusal.Refusal.{Refusal}
use Rattle.numbers.specs.Results.Compact.{Compact}
use Rattle.numbers.specs.Results.Compact as compact
use Rattle.numbers.proofs.Within.{CompactWithin, compact_within, ItemFault}
use Rattle.objects.specs.Header.{start_of, end_of, sized, header_of, header_at, escape, length_on, length_at}
use Rattle.objects.specs.Results.Header.{End, ReadHeader, Refused, Start}
use Rattle.objects.specs.Results.Length.{Is, Length}
use Rattle.objects.specs.Results.Length as length'

-- u bytes at a place from which m are left; a header's own fault is 2 at its place
abbrev pub Fits : ℕ → ℕ → ReadHeader → Type 0
Fits at m (Start k c n u) = (0 < u) × (u ≤ m)
Fits at m (End k u) = (0 < u) × (u ≤ m)
Fits at m (Refused r) = r ≡ fault_at 2 at

sized_fits : (at n : ℕ) (form : ℕ → ℕ → ReadHeader) (t : List ℕ) → ((w : ℕ) → n ≤ length t → Fits at (length t) (form n w)) → Fits at (length t) (sized at n form t)
unfolding sized
sized_fits at n form t f =
    pick_all (Fits at (length t)) (ltb (length t) n) _ _ (λ e. refl) (λ e. f (le (take n t)) (ltb-false _ _ e))

start_fits : (at n span : ℕ) (t : List ℕ) → 0 < n → Fits at (length t) (sized at n (start_of span) t)
unfolding start_of
start_fits at n span t p = sized_fits at n (start_of span) t (λ w h. (p, h))

end_fits : (at n : ℕ) (t : List ℕ) → 0 < n → Fits at (length t) (sized at n end_of t)
unfolding end_of
end_fits at n t p = sized_fits at n end_of t (λ w h. (p, h))

pub header_of_fits : (at : ℕ) (t : List ℕ) → Fits at (length t) (header_of at t)
unfolding header_of
header_of_fits at t =
    let P = Fits at (length t) in
    pick_all P (eqb (length t) 0) _ _ (λ a. refl)
    (λ a.
    pick_all P (eqb (get_or t 0 0 % 4) 0) _ _ (λ b. start_fits at 2 64 t (omega arith))
    (λ b.
    pick_all P (eqb (get_or t 0 0 % 4) 1) _ _ (λ c. end_fits at 1 t (omega arith))
    (λ c. pick_all P (eqb (get_or t 0 0 % 4) 2) _ _ (λ d. start_fits at 4 16384 t (omega arith)) (λ d. end_fits at 2 t (omega arith)))))

pub header_fits : (s : List ℕ) (at : ℕ) → Fits at (length s - at) (header_at s at)
unfolding header_at
header_fits s at = subst (λ (m : ℕ). Fits at m (header_of at (drop at s))) (length-drop at s) (header_of_fits at (drop at s))

pub header_fits_at : (s : List ℕ) (at : ℕ) (h : ReadHeader) → header_at s at ≡ h → Fits at (length s - at) h
header_fits_at s at h e = subst (Fits at (length s - at)) e (header_fits s at)

-- behind the input
pub header_past : (s : List ℕ) (at : ℕ) → length s < at → header_at s at ≡ Refused (fault_at 2 at)
unfolding header_at header_of
header_past s at h = let l : length s ≤ at = omega arith in rw (drop_of_length-le s {i = at} l)

-- ---- the true length

compact_none : (padding : Bool) → compact_for padding [] ≡ compact.Refused (fault 2)
unfolding compact_for read_compact
compact_none padding = refl

pub compact_past : (padding : Bool) (s : List ℕ) (at : ℕ) → length s < at → compact_for padding (drop at s) ≡ compact.Refused (fault 2)
compact_past padding s at h = let l : length s ≤ at = omega arith in rw (drop_of_length-le s {i = at} l) (compact_none padding)

pub compact_fits : (padding : Bool) (s : List ℕ) (at v n : ℕ) (padded : Bool) → compact_for padding (drop at s) ≡ compact.Value v n padded → (0 < n) × (at + n ≤ length s)
compact_fits padding s at v n padded e =
    let w : CompactWithin (length (drop at s)) (compact.Value v n padded) = subst (CompactWithin (length (drop at s))) e (compact_within padding (drop at s)) in
    (w.0, omega (arith, length-drop at s))

-- the data begins at or behind `at`, and within the input if `at` does; a fault is 2 or 3 at `at`
abbrev pub LengthFits : List ℕ → ℕ → Length → Type 0
LengthFits s at (Is v from) = (at ≤ from) × (at ≤ length s → from ≤ length s)
LengthFits s at (length'.Refused r) = (r ≡ fault_at 2 at) ⊎ (r ≡ fault_at 3 at)

fault_at_lem : (at : ℕ) (r : Refusal) → ItemFault r → (fault_at (refusal_number r) at ≡ fault_at 2 at) ⊎ (fault_at (refusal_number r) at ≡ fault_at 3 at)
fault_at_lem at r (inl e) = inl (rw e)
fault_at_lem at r (inr e) = inr (rw e)

length_on_fits : (padding : Bool) (s : List ℕ) (at : ℕ) (r : Compact) → compact_for padding (drop at s) ≡ r → LengthFits s at (length_on at r)
length_on_fits padding s at (compact.Value v n padded) e = let w = compact_fits padding s at v n padded e in (omega arith, λ h. omega arith)
length_on_fits padding s at (compact.Refused r) e = fault_at_lem at r (subst (CompactWithin (length (drop at s))) e (compact_within padding (drop at s)))

pub length_fits : (padding : Bool) (s : List ℕ) (at n : ℕ) → LengthFits s at (length_at padding s at n)
unfolding length_at
length_fits padding s at n =
    pick_all (LengthFits s at) (eqb n escape) _ _ (λ e. length_on_fits padding s at (compact_for padding (drop at s)) refl) (λ e. (omega arith, λ h. h))

pub length_fits_at : (padding : Bool) (s : List ℕ) (at n : ℕ) (r : Length) → length_at padding s at n ≡ r → LengthFits s at r
length_fits_at padding s at n r e = subst (LengthFits s at) e (length_fits padding s at n)
