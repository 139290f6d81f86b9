-- What a call tells, in document 01's terms: "Each refusal gives number, input .., place, and the needed length for 14 (else 0)."
-- For each type that a call answers, one definition `tell..` gives number, input, place, needed length and values case by case.
-- Assumes nothing.
use Rattle.std.specs.Prelude.{ℕ, List, [], ◌∷◌, eqb}
use Rattle.laws.specs.Pick.{pick}
use Rattle.numbers.specs.declared.refusal.Fault.{Fault}
use Rattle.numbers.specs.declared.refusal.Fault.TheVariants.{InputTooLong, RunsPast, NoForm, WrongEnd, WrongLayout, TooDeep, WrongVersion, NotServed, TooMany, NullName, SeenBefore, FromAboveTo, TablesTooShort, OutputTooShort, OtherIndex, NoSerialLeft}
use Rattle.numbers.specs.declared.refusal.Refusal.{Refusal}
use Rattle.numbers.specs.Results.Wrote.{Done, Refused, Wrote}

-- the number of a fault
abbrev pub number_of : Fault → ℕ
number_of InputTooLong = 1
number_of RunsPast = 2
number_of NoForm = 3
number_of WrongEnd = 4
number_of WrongLayout = 5
number_of TooDeep = 6
number_of WrongVersion = 7
number_of NotServed = 8
number_of TooMany = 9
number_of NullName = 10
number_of SeenBefore = 11
number_of FromAboveTo = 12
number_of TablesTooShort = 13
number_of OutputTooShort = 14
number_of OtherIndex = 15
number_of NoSerialLeft = 16

-- the fault of a number from 1 to 16, so that a fault may be told by its number; of any other number the last
abbrev pub fault_of : ℕ → Fault
fault_of k =
    pick (eqb k 1) InputTooLong
    (pick (eqb k 2) RunsPast
    (pick (eqb k 3) NoForm
    (pick (eqb k 4) WrongEnd
    (pick (eqb k 5) WrongLayout
    (pick (eqb k 6) TooDeep
    (pick (eqb k 7) WrongVersion
    (pick (eqb k 8) NotServed
    (pick (eqb k 9) TooMany
    (pick (eqb k 10) NullName
    (pick (eqb k 11) SeenBefore
    (pick (eqb k 12) FromAboveTo
    (pick (eqb k 13) TablesTooShort
    (pick (eqb k 14) OutputTooShort
    (pick (eqb k 15) OtherIndex NoSerialLeft))))))))))))))

abbrev pub refusal_number : Refusal → ℕ
refusal_number r = r.number

pub record Told : Type 0 where
  pub number : ℕ  -- 0: no refusal
  pub input : ℕ  -- 0: the store, or the first input
  pub place : ℕ
  pub needed : ℕ
  pub values : List ℕ  -- what the call gives, in the order that its `tell..` says; empty on a refusal

-- nothing is refused
abbrev pub gives : List ℕ → Told
gives values = record { number = 0; input = 0; place = 0; needed = 0; values = values }

-- a refusal, in the paper's four numbers
abbrev pub refuses : Refusal → Told
refuses r = record { number = r.number; input = r.input; place = r.place; needed = r.needed; values = [] }

-- a fault of the item at the front of the first input
abbrev pub fault : ℕ → Refusal
fault k = record { number = k; input = 0; place = 0; needed = 0 }

-- a fault at a place of the first input
abbrev pub fault_at : ℕ → ℕ → Refusal
fault_at k p = record { number = k; input = 0; place = p; needed = 0 }

-- 1: "an input is over 16,777,216 bytes"; "the limit as its place"
abbrev pub longest_input : ℕ
longest_input = 16777216

abbrev pub over_long : Refusal
over_long = record { number = 1; input = 0; place = longest_input; needed = 0 }

-- 14: the output is shorter "than the page of 1 .., or than the single item to be written"; it "names the store, place 0"
abbrev pub too_short : ℕ → Refusal
too_short n = record { number = 14; input = 0; place = 0; needed = n }

-- writing a single item: how many bytes it took
abbrev pub tell_wrote : Wrote → Told
tell_wrote (Done n) = gives (n ∷ [])
tell_wrote (Refused r) = refuses r
