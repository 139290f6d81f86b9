-- Elements that share a serial number (document 02, Q-3), in closed bytes: three elements of which the first and the third have the serial
-- number 7. They are a group and go out together, before the second. Sent alone, the first would have hidden the third for ever: "merely
-- allowing it would lose the second element once the first is known". Each line is found by computing; a reader needs the statements only.
-- Assumes nothing.
use mathlib.Core.Path.{◌≡◌, refl}
use mathlib.Core.Bool.{true}
use mathlib.Core.List.{List, [], ◌∷◌, ◌++◌}
use Prim.Native.Nat.{ℕ}
use lib.ListN.{length}
use Rattle.numbers.specs.Refusals.{too_short}
use Rattle.objects.specs.Results.Reading.{At}
use Rattle.talk.specs.declared.range.Range.{Range}
use Rattle.store.specs.Store.{walked, store_walk}
use Rattle.order.specs.Groups.{Group, single}
use Rattle.pages.specs.Answer.{Outcome, refused, answered, outcome}
use Rattle.evidence.specs.Talk.{wanted_of}
use Rattle.evidence.specs.Bench.{filters_in, knows_by}
use Rattle.evidence.proofs.Example.{element, stored, asking, asking_with, numbers_to, known, answer_telling, received, exporting}
use Rattle.evidence.proofs.FilteredExample.{id_filter, filtering}

-- ---- the store: the elements 1, 2 and 3, with the serial numbers 7, 8 and 7

abbrev pub twins : List ℕ
twins = 0xAC ∷ 0x02 ∷ 0x00 ∷ (element 1 7 ++ (element 2 8 ++ (element 3 7 ++ (0x55 ∷ []))))

-- it is read, and nothing in it is refused: "11 is kept for ids only"
pub twins_read : store_walk twins ≡ walked (stored 3 1 7 ∷ stored 49 2 8 ∷ stored 95 3 7 ∷ []) (At 142 0)
unfolding exporting
twins_read = refl

-- ---- what is wanted: the first and the third as one, at the place of the first; then the second

abbrev pub pair : Group
pair = record { first = stored 3 1 7; others = stored 95 3 7 ∷ [] }

pub twins_wanted : wanted_of twins (filters_in []) (knows_by []) ≡ pair ∷ single (stored 49 2 8) ∷ []
unfolding filtering
twins_wanted = refl

-- "The filters let a group in as soon as they let one member in": with the first set out, or the third, it is wanted whole; with both set
-- out it is not
pub one_set_out :
    (wanted_of twins (filters_in (id_filter 0 1)) (knows_by []) ≡ pair ∷ single (stored 49 2 8) ∷ [])
    × (wanted_of twins (filters_in (id_filter 0 3)) (knows_by []) ≡ pair ∷ single (stored 49 2 8) ∷ [])
    × (wanted_of twins (filters_in (id_filter 0 1 ++ id_filter 0 3)) (knows_by []) ≡ single (stored 49 2 8) ∷ [])
unfolding filtering
one_set_out = (refl, refl, refl)

-- once 7 is known, the second alone is wanted: whoever knows 7 and lacks the third never asks for it again
pub seven_known : wanted_of twins (filters_in []) (knows_by (known 7)) ≡ single (stored 49 2 8) ∷ []
unfolding filtering
seven_known = refl

-- ---- so they are sent together, whatever the limit: "the first group has no byte limit"

abbrev pub pair_sent : List ℕ
pair_sent = answer_telling (element 1 7 ++ element 3 7) 1 (known 7)

abbrev pub second_sent : List ℕ
second_sent = answer_telling (element 2 8) 0 (known 8)

abbrev pub all_sent : List ℕ
all_sent = answer_telling (element 1 7 ++ (element 3 7 ++ element 2 8)) 0 (known 8)

abbrev pub answered_with : List ℕ → List Range → Outcome
answered_with w ranges = answered w (stored 3 1 7 ∷ stored 49 2 8 ∷ stored 95 3 7 ∷ []) ranges

-- under limit 0 the pair, and asked again with its knowledge the second; under 137, one less than all lengths sum to, the same; under 138 all
-- of them, in this order
pub twins_answered :
    (outcome twins (asking 0 []) 1000 ≡ answered_with pair_sent (numbers_to 7 7 ∷ []))
    × (outcome twins (asking 0 (known 7)) 1000 ≡ answered_with second_sent (numbers_to 7 8 ∷ []))
    × (outcome twins (asking 137 []) 1000 ≡ answered_with pair_sent (numbers_to 7 7 ∷ []))
    × (outcome twins (asking 138 []) 1000 ≡ answered_with all_sent (numbers_to 7 8 ∷ []))
unfolding exporting
twins_answered = (refl, refl, refl, refl)

-- a bench reads two elements in the first answer, and it is marked
pub pair_received : ((received pair_sent).count ≡ 2) × ((received pair_sent).partial ≡ true)
unfolding exporting received
pair_received = (refl, refl)

-- "14 reports the length for the first group": one byte less than the pair's answer is refused, and its length is the needed one
pub pair_needed : (outcome twins (asking 0 []) 177 ≡ refused (too_short 178)) × (length pair_sent ≡ 178)
unfolding exporting
pair_needed = (refl, refl)

-- with the third set out by a filter it goes out all the same, with the first
pub whole_though_set_out : outcome twins (asking_with (id_filter 0 3) 0 []) 1000 ≡ answered_with pair_sent (numbers_to 7 7 ∷ [])
unfolding filtering
whole_though_set_out = refl
