-- Each call for a single header determines its answer, and the buffer that it is lent: any two that its promise allows are equal.
-- Assumes nothing.
use mathlib.Core.Path.{◌≡◌, ap}
use mathlib.Core.Bool.{Bool, true, false}
use Prim.Native.Nat.{ℕ}
use mathlib.Core.List.{List}
use native.Mathlib.Omega.{arith}
use Rattle.laws.specs.Pick.{pick}
use Rattle.laws.proofs.OneAnswer.{Telling, one_answer, one_outcome}
use Rattle.numbers.specs.Results.Wrote.{Wrote}
use Rattle.numbers.proofs.OneAnswers.{refuses_telling, wrote_telling, values_of}
use Rattle.objects.specs.Calls.{tell_header, ReadsHeader, WritesTyped}
use Rattle.objects.specs.Results.Header.{End, ReadHeader, Refused, Start}

-- ---- an answer is known by what it tells

same_bit_lem : (c d : Bool) → ◌≡◌ {A = ℕ} (pick c 1 0) (pick d 1 0) → c ≡ d
same_bit_lem true true e = cc
same_bit_lem true false e = absurd (omega arith)
same_bit_lem false true e = absurd (omega arith)
same_bit_lem false false e = cc

pub header_telling : Telling tell_header
header_telling (Start k c n u) (Start j d m v) e =
    let x = values_of _ _ e in
    let b : c ≡ d = same_bit_lem c d (cc) in
    cc
header_telling (Start k c n u) (End j v) e = absurd (let x = values_of _ _ e in let z : ◌≡◌ {A = ℕ} 0 1 = cc in omega arith)
header_telling (Start k c n u) (Refused q) e = absurd (let x = values_of _ _ e in let z : ◌≡◌ {A = ℕ} 0 1 = cc in omega arith)
header_telling (End k u) (Start j d m v) e = absurd (let x = values_of _ _ e in let z : ◌≡◌ {A = ℕ} 0 1 = cc in omega arith)
header_telling (End k u) (End j v) e = let x = values_of _ _ e in cc
header_telling (End k u) (Refused q) e = absurd (let x = values_of _ _ e in let z : ◌≡◌ {A = ℕ} 0 1 = cc in omega arith)
header_telling (Refused r) (Start j d m v) e = absurd (let x = values_of _ _ e in let z : ◌≡◌ {A = ℕ} 0 1 = cc in omega arith)
header_telling (Refused r) (End j v) e = absurd (let x = values_of _ _ e in let z : ◌≡◌ {A = ℕ} 0 1 = cc in omega arith)
header_telling (Refused r) (Refused q) e = ap Refused (refuses_telling r q e)

-- ---- any two answers allowed are equal

pub read_header_one : (s : List ℕ) (r q : ReadHeader) → ReadsHeader s r → ReadsHeader s q → r ≡ q
read_header_one s r q a b = one_answer header_telling a b

-- of any type k and any header's bytes w, so of a start and of an end
pub writes_typed_one : (k : ℕ) (w entry : List ℕ) (r q : Wrote) (x y : List ℕ) → WritesTyped k w entry r x → WritesTyped k w entry q y → (r ≡ q) × (x ≡ y)
writes_typed_one k w entry r q x y a b = one_outcome wrote_telling a b
