-- The numbers of refusals that have an "if and only if" of their own: 13, 1, 9 for a page and 14, of any number that is told as the
-- definitions have it (`number_in`). DemandOne.antt says it of the calls; who reads that file can skip all of this one.
-- Assumes nothing.
use mathlib.Core.Path.{◌≡◌, sym, ap, ◌∙◌}
use mathlib.Core.List.{List}
use mathlib.Core.Logic.{◌⊎◌, ⊎_elim}
use Prim.Native.Nat.{ℕ, ◌<◌}
use native.Mathlib.Omega.{arith}
use lib.ListN.{length}
use Rattle.numbers.specs.Refusals.{Told}
use Rattle.order.specs.Order.{ranked_numbers}
use Rattle.pages.specs.Answer.{Ask, Outcome, refused, answered, number_in, page_ranges, tell_answered, answer_told, outcome, answer_of, knowledge_numbers}
use Rattle.pages.specs.Cases.{Asks, OverLong, TooShort}
use Rattle.pages.specs.Results.Answered.{Answered}
use Rattle.pages.proofs.Refusing.{tables_fine, thirteen_if, thirteen_only_if, one_only_if, one_if_store, one_if_request, fourteen_of_call, call_of_fourteen, nine_of_call, call_of_nine}
use Rattle.evidence.specs.Refusing.{Tables, IfAndOnlyIf}
use Rattle.evidence.proofs.Calling.{number_outcome}

-- what the call that is lent tables tells, as a number
pub number_told : (r : Answered) (o : Outcome) → tell_answered r ≡ tell_answered (answer_told o) → (tell_answered r).number ≡ number_in o
unfolding answer_told number_in
number_told r (refused x) h = ap (λ (t : Told). t.number) h
number_told r (answered w all l) h = ap (λ (t : Told). t.number) h

module _ (s q : List ℕ) (rows ranges room number : ℕ) (is : number ≡ number_in (answer_of s q rows ranges room)) where
  -- with tables that are long enough, it is the outcome's number; and it is that, unless it is 13
  of_outcome : Tables rows ranges → (o : Outcome) → outcome s q room ≡ o → number ≡ number_in o
  of_outcome t o e = is ∙ ap number_in (tables_fine s q rows ranges room t.0 t.1 ∙ e)

  to_outcome : (n : ℕ) → (n ≡ 13 → ⊥) → number ≡ n → Tables rows ranges × (number_in (outcome s q room) ≡ n)
  to_outcome n d h = number_outcome s q rows ranges room n d (sym is ∙ h)

  pub thirteen_exactly : IfAndOnlyIf (number ≡ 13) ((rows < ranked_numbers) ⊎ (ranges < knowledge_numbers))
  unfolding number_in
  thirteen_exactly = (λ h. thirteen_only_if s q rows ranges room (sym is ∙ h), λ h. is ∙ ap number_in (thirteen_if s q rows ranges room h))

  pub one_exactly : IfAndOnlyIf (number ≡ 1) (Tables rows ranges × OverLong s q)
  unfolding number_in
  one_exactly = (
    λ h. let z = to_outcome 1 (λ e. omega arith) h in (z.0, one_only_if s q room z.1),
    λ h. ⊎_elim (λ l. of_outcome h.0 _ (one_if_store s q room l)) (λ l. of_outcome h.0 _ (one_if_request s q room l.0 l.1)) h.1,
  )

  pub nine_exactly : (a : Ask) → Asks s q a
      → IfAndOnlyIf (number ≡ 9) (Tables rows ranges × (0 < length a.wanted) × (a.most < length (page_ranges a 1)))
  unfolding number_in
  nine_exactly a x = (
    λ h. let z = to_outcome 9 (λ e. omega arith) h in let y = nine_of_call s q room a x z.1 in (z.0, y.0, y.1),
    λ h. of_outcome h.0 _ (call_of_nine s q room a x h.1 h.2),
  )

  pub fourteen_exactly : IfAndOnlyIf (number ≡ 14) (Tables rows ranges × (a : Ask) × TooShort s q room a)
  unfolding number_in
  fourteen_exactly = (
    λ h. let z = to_outcome 14 (λ e. omega arith) h in let y = fourteen_of_call s q room z.1 in (z.0, y.0, y.1),
    λ h. of_outcome h.0 _ (call_of_fourteen s q room h.1 h.2),
  )

-- all four
pub numbers_exactly : (s q : List ℕ) (rows ranges room number : ℕ) → number ≡ number_in (answer_of s q rows ranges room)
    → IfAndOnlyIf (number ≡ 13) ((rows < ranked_numbers) ⊎ (ranges < knowledge_numbers))
    × IfAndOnlyIf (number ≡ 1) (Tables rows ranges × OverLong s q)
    × ((a : Ask) → Asks s q a → IfAndOnlyIf (number ≡ 9) (Tables rows ranges × (0 < length a.wanted) × (a.most < length (page_ranges a 1))))
    × IfAndOnlyIf (number ≡ 14) (Tables rows ranges × (a : Ask) × TooShort s q room a)
numbers_exactly s q rows ranges room number is = (
  thirteen_exactly s q rows ranges room number is,
  one_exactly s q rows ranges room number is,
  nine_exactly s q rows ranges room number is,
  fourteen_exactly s q rows ranges room number is,
)
