-- What is told of the fault of an input that may have so many bytes: 1 with the limit as its place exactly where the input is over-long,
-- else a fault of its layout.
-- Assumes nothing.
use mathlib.Core.Path.{◌≡◌, refl, sym, subst, ◌∙◌}
use mathlib.Core.List.{List}
use Prim.Native.Nat.{ℕ, ◌≤◌, ◌<◌}
use native.Mathlib.Omega.{arith}
use lib.ListN.{length}
use Rattle.laws.proofs.Cases.{by_lt}
use Rattle.numbers.specs.Refusals.{fault_at, refusal_number}
use Rattle.numbers.specs.declared.refusal.Refusal.{Refusal}
use Rattle.objects.specs.Steps.{FaultWithin, Good}
use Rattle.objects.specs.Results.Reading.{Reading, Refused}

pub record InputFault (limit : ℕ) (x : List ℕ) (r : Refusal) : Type 0 where
  pub over : limit < length x → r ≡ fault_at 1 limit
  pub within : length x ≤ limit → FaultWithin (length x) r

-- reading refuses an over-long input, and else goes on to d
pub input_fault : (limit : ℕ) (x : List ℕ) (c d : Reading) (r : Refusal) → (limit < length x → c ≡ Refused (fault_at 1 limit)) → (length x ≤ limit → c ≡ d)
    → Good x d → c ≡ Refused r → InputFault limit x r
input_fault limit x c d r long fine g h =
    record { over = λ l. let z = long l in cc; within = λ l. subst (Good x) (sym (fine l) ∙ h) g }

-- so its number is from 1 to 12, it is of the first input, its place lies within, and it needs no length
pub record InputTold (x : List ℕ) (r : Refusal) : Type 0 where
  pub least : 1 ≤ refusal_number r
  pub most : refusal_number r ≤ 12
  pub input : r.input ≡ 0
  pub place : r.place ≤ length x
  pub needed : r.needed ≡ 0

pub input_told : (limit : ℕ) (x : List ℕ) (r : Refusal) → InputFault limit x r → InputTold x r
input_told limit x r f =
    by_lt limit (length x)
    (λ l.
    let p : limit ≤ length x = omega arith in
    rw (f.over l) (record { least = omega arith; most = omega arith; input = refl; place = p; needed = refl }))
    (λ l.
    let w = f.within l in
    let n = w.number in
    record { least = omega arith; most = n.1; input = w.input; place = w.place; needed = w.needed })
