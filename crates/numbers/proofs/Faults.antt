-- Each fault has its own number, from 1 to 16, and each of these is a fault's.
-- Assumes nothing.
use mathlib.Core.Path.{◌≡◌, ap, refl, sym, ◌∙◌}
use Prim.Native.Nat.{ℕ, ◌≤◌}
use native.Mathlib.Omega.{arith}
use lib.Dec.{eqb}
use borrow.Author.Tests.{eqb-true, eqb-false}
use Rattle.laws.specs.Pick.{pick}
use Rattle.laws.proofs.Cases.{pick_all}
use Rattle.numbers.specs.Refusals.{number_of, fault_of}
use Rattle.numbers.specs.declared.refusal.Fault.{Fault}
use Rattle.numbers.specs.declared.refusal.Fault.TheVariants.{InputTooLong, RunsPast, NoForm, WrongEnd, WrongLayout, TooDeep, WrongVersion, NotServed, TooMany, NullName, SeenBefore, FromAboveTo, TablesTooShort, OutputTooShort, OtherIndex, NoSerialLeft}

pub fault_of_number : (f : Fault) → fault_of (number_of f) ≡ f
fault_of_number InputTooLong = refl
fault_of_number RunsPast = refl
fault_of_number NoForm = refl
fault_of_number WrongEnd = refl
fault_of_number WrongLayout = refl
fault_of_number TooDeep = refl
fault_of_number WrongVersion = refl
fault_of_number NotServed = refl
fault_of_number TooMany = refl
fault_of_number NullName = refl
fault_of_number SeenBefore = refl
fault_of_number FromAboveTo = refl
fault_of_number TablesTooShort = refl
fault_of_number OutputTooShort = refl
fault_of_number OtherIndex = refl
fault_of_number NoSerialLeft = refl

-- faults of one number are the same
pub same_fault : (f g : Fault) → number_of f ≡ number_of g → f ≡ g
same_fault f g e = sym (fault_of_number f) ∙ (ap fault_of e ∙ fault_of_number g)

-- the choice of one more fault
one_more : (k n : ℕ) (f g : Fault) → number_of f ≡ n → ((k ≡ n → ⊥) → number_of g ≡ k) → number_of (pick (eqb k n) f g) ≡ k
one_more k n f g e h = pick_all (λ x. number_of x ≡ k) (eqb k n) f g (λ t. rw (e, eqb-true k n t)) (λ t. h (eqb-false k n t))

pub number_of_fault : (k : ℕ) → 1 ≤ k → k ≤ 16 → number_of (fault_of k) ≡ k
number_of_fault k least most =
    one_more k 1 InputTooLong _ refl (λ n1.
    one_more k 2 RunsPast _ refl (λ n2.
    one_more k 3 NoForm _ refl (λ n3.
    one_more k 4 WrongEnd _ refl (λ n4.
    one_more k 5 WrongLayout _ refl (λ n5.
    one_more k 6 TooDeep _ refl (λ n6.
    one_more k 7 WrongVersion _ refl (λ n7.
    one_more k 8 NotServed _ refl (λ n8.
    one_more k 9 TooMany _ refl (λ n9.
    one_more k 10 NullName _ refl (λ n10.
    one_more k 11 SeenBefore _ refl (λ n11.
    one_more k 12 FromAboveTo _ refl (λ n12.
    one_more k 13 TablesTooShort _ refl (λ n13.
    one_more k 14 OutputTooShort _ refl (λ n14.
    one_more k 15 OtherIndex _ refl (λ n15.
    omega arith)))))))))))))))
