-- The numbers of a put's refusals, one by one: each that falls on no item is told exactly where its test holds and no earlier one does.
-- PutDemands.antt says it in a record; who reads that file can skip all of this one.
-- Assumes nothing.
use mathlib.Core.Path.{◌≡◌, refl, sym, ap, subst, ◌∙◌}
use mathlib.Core.List.{List}
use mathlib.Core.Logic.{◌⊎◌, inl, inr}
use Prim.Native.Nat.{ℕ, ◌≤◌, ◌<◌}
use native.Mathlib.Omega.{arith}
use lib.ListN.{length}
use Rattle.laws.proofs.Cases.{by_lt}
use Rattle.numbers.specs.Refusals.{fault_at, too_short, longest_input, refusal_number}
use Rattle.numbers.specs.declared.guid.Guid.{Guid}
use Rattle.numbers.specs.declared.refusal.Refusal.{Refusal}
use Rattle.objects.specs.Results.Reading.{Refused}
use Rattle.objects.proofs.InputFaults.{input_told}
use Rattle.store.specs.Store.{store_walk, Stands}
use Rattle.store.specs.Tables.{most_elements}
use Rattle.store.proofs.Places.{store_fault}
use Rattle.request.specs.Message.{in_request}
use Rattle.puts.specs.Applied.{last_number}
use Rattle.puts.specs.Put.{put_walk}
use Rattle.hub.specs.Put.{guid_of, HubPuts}
use Rattle.evidence.specs.Puts.{elements_behind, store_behind, answer_to, BothRead, Expects, last_given, WhyPut}
use Rattle.evidence.specs.Refusing.{IfAndOnlyIf}
use Rattle.evidence.proofs.PutRefusals.{put_fault}
use Rattle.evidence.proofs.PutResults.{HubPutComes, hub_put_comes}
use Rattle.evidence.proofs.Results.{gives, refuses}

-- what a call told: 0 where there is no reason, else the number of the one refusal that has a reason
pub data PutTold (s q : List ℕ) (g : Guid) (storeRoom room number : ℕ) : Type 0 where
  nothing : number ≡ 0 → ((r : Refusal) → WhyPut s q g storeRoom room r → ⊥) → PutTold s q g storeRoom room number
  because : (r : Refusal) → number ≡ refusal_number r → WhyPut s q g storeRoom room r → ((x : Refusal) → WhyPut s q g storeRoom room x → r ≡ x) → PutTold s q g storeRoom room number

told_by : (s q : List ℕ) (low high number : ℕ) (new new' out out' report report' : List ℕ) → HubPutComes s q low high number new new' out out' report report'
    → PutTold s q (guid_of low high) (length new) (length out) number
told_by s q low high number new new' out out' report report' (gives z none) = nothing z.0 none
told_by s q low high number new new' out out' report report' (refuses r z w one) = because r z.0 w one

pub why_told : (s q : List ℕ) (low high number : ℕ) (new new' out out' report report' : List ℕ) → HubPuts s q low high number new new' out out' report report'
    → PutTold s q (guid_of low high) (length new) (length out) number
why_told s q low high number new new' out out' report report' h = told_by s q low high number new new' out out' report report' (hub_put_comes s q low high number new new' out out' report report' h)

told_number_lem : {s q : List ℕ} {g : Guid} {storeRoom room number : ℕ} → PutTold s q g storeRoom room number → (r : Refusal) → WhyPut s q g storeRoom room r → number ≡ refusal_number r
told_number_lem (nothing z none) r w = absurd (none r w)
told_number_lem (because x e v one) r w = e ∙ ap refusal_number (one r w)

told_reason : {s q : List ℕ} {g : Guid} {storeRoom room number : ℕ} → PutTold s q g storeRoom room number → (number ≡ 0 → ⊥)
    → (r : Refusal) × (number ≡ refusal_number r) × WhyPut s q g storeRoom room r
told_reason (nothing z none) n = absurd (n z)
told_reason (because x e v one) n = (x, e, v)

number_of : {r x : Refusal} → r ≡ x → refusal_number r ≡ refusal_number x
number_of e = ap refusal_number e

module _ (s q : List ℕ) (g : Guid) (storeRoom room : ℕ) where
  abbrev Reason : Refusal → Type 0
  Reason r = WhyPut s q g storeRoom room r

  of_store : (r : Refusal) → (store_walk s).last ≡ Refused r → refusal_number r ≤ 12
  of_store r h = (input_told longest_input s r (store_fault s r h)).most

  of_put : (x r : Refusal) → (put_walk q).last ≡ Refused x → r ≡ in_request x → refusal_number r ≤ 12
  of_put x r h e = let m = (input_told longest_input q x (put_fault q x h)).most in let z = number_of e in omega arith

  -- ---- from the number to its test

  fifteen_why : (r : Refusal) → Reason r → refusal_number r ≡ 15 → BothRead s q × (Expects s q → ⊥)
  fifteen_why r (WhyPut.store h) n = let m = of_store r h in absurd (omega arith)
  fifteen_why r (WhyPut.put x a h e) n = let m = of_put x r h e in absurd (omega arith)
  fifteen_why r (WhyPut.another_index b i e) n = (b, i)
  fifteen_why r (WhyPut.no_number b i l e) n = let z = number_of e in absurd (omega arith)
  fifteen_why r (WhyPut.too_many b i l c e) n = let z = number_of e in absurd (omega arith)
  fifteen_why r (WhyPut.too_long b i l c m e) n = let z = number_of e in absurd (omega arith)
  fifteen_why r (WhyPut.buffer_short b i l c m k e) n = let z = number_of e in absurd (omega arith)
  fifteen_why r (WhyPut.output_short b i l c m k o e) n = let z = number_of e in absurd (omega arith)

  sixteen_why : (r : Refusal) → Reason r → refusal_number r ≡ 16 → BothRead s q × Expects s q × (last_number < last_given s q g)
  sixteen_why r (WhyPut.store h) n = let m = of_store r h in absurd (omega arith)
  sixteen_why r (WhyPut.put x a h e) n = let m = of_put x r h e in absurd (omega arith)
  sixteen_why r (WhyPut.another_index b i e) n = let z = number_of e in absurd (omega arith)
  sixteen_why r (WhyPut.no_number b i l e) n = (b, i, l)
  sixteen_why r (WhyPut.too_many b i l c e) n = let z = number_of e in absurd (omega arith)
  sixteen_why r (WhyPut.too_long b i l c m e) n = let z = number_of e in absurd (omega arith)
  sixteen_why r (WhyPut.buffer_short b i l c m k e) n = let z = number_of e in absurd (omega arith)
  sixteen_why r (WhyPut.output_short b i l c m k o e) n = let z = number_of e in absurd (omega arith)

  nine_why : BothRead s q → (r : Refusal) → Reason r → refusal_number r ≡ 9 → Expects s q × (last_given s q g ≤ last_number) × (most_elements < length (elements_behind s q g))
  nine_why p r (WhyPut.store h) n = absurd (subst Stands h p.0)
  nine_why p r (WhyPut.put x a h e) n = absurd (subst Stands h p.1)
  nine_why p r (WhyPut.another_index b i e) n = let z = number_of e in absurd (omega arith)
  nine_why p r (WhyPut.no_number b i l e) n = let z = number_of e in absurd (omega arith)
  nine_why p r (WhyPut.too_many b i l c e) n = (i, l, c)
  nine_why p r (WhyPut.too_long b i l c m e) n = let z = number_of e in absurd (omega arith)
  nine_why p r (WhyPut.buffer_short b i l c m k e) n = let z = number_of e in absurd (omega arith)
  nine_why p r (WhyPut.output_short b i l c m k o e) n = let z = number_of e in absurd (omega arith)

  one_why : BothRead s q → (r : Refusal) → Reason r → refusal_number r ≡ 1
      → Expects s q × (last_given s q g ≤ last_number) × (length (elements_behind s q g) ≤ most_elements) × (longest_input < length (store_behind s q g))
  one_why p r (WhyPut.store h) n = absurd (subst Stands h p.0)
  one_why p r (WhyPut.put x a h e) n = absurd (subst Stands h p.1)
  one_why p r (WhyPut.another_index b i e) n = let z = number_of e in absurd (omega arith)
  one_why p r (WhyPut.no_number b i l e) n = let z = number_of e in absurd (omega arith)
  one_why p r (WhyPut.too_many b i l c e) n = let z = number_of e in absurd (omega arith)
  one_why p r (WhyPut.too_long b i l c m e) n = (i, l, c, m)
  one_why p r (WhyPut.buffer_short b i l c m k e) n = let z = number_of e in absurd (omega arith)
  one_why p r (WhyPut.output_short b i l c m k o e) n = let z = number_of e in absurd (omega arith)

  abbrev Short : Type 0
  Short =
      BothRead s q × Expects s q × (last_given s q g ≤ last_number) × (length (elements_behind s q g) ≤ most_elements) × (length (store_behind s q g) ≤ longest_input)
      × ((storeRoom < length (store_behind s q g)) ⊎ (room < length (answer_to s q g)))

  fourteen_why : (r : Refusal) → Reason r → refusal_number r ≡ 14 → Short
  fourteen_why r (WhyPut.store h) n = let m = of_store r h in absurd (omega arith)
  fourteen_why r (WhyPut.put x a h e) n = let m = of_put x r h e in absurd (omega arith)
  fourteen_why r (WhyPut.another_index b i e) n = let z = number_of e in absurd (omega arith)
  fourteen_why r (WhyPut.no_number b i l e) n = let z = number_of e in absurd (omega arith)
  fourteen_why r (WhyPut.too_many b i l c e) n = let z = number_of e in absurd (omega arith)
  fourteen_why r (WhyPut.too_long b i l c m e) n = let z = number_of e in absurd (omega arith)
  fourteen_why r (WhyPut.buffer_short b i l c m k e) n = (b, i, l, c, m, inl k)
  fourteen_why r (WhyPut.output_short b i l c m k o e) n = (b, i, l, c, m, inr o)

  -- ---- and back

  short_number_lem : (number : ℕ) → PutTold s q g storeRoom room number → Short → number ≡ 14
  short_number_lem number t (b, i, l, c, m, inl k) = told_number_lem t (too_short (length (store_behind s q g))) (WhyPut.buffer_short b i l c m k refl)
  short_number_lem number t (b, i, l, c, m, inr o) =
      by_lt storeRoom (length (store_behind s q g)) (λ k. told_number_lem t (too_short (length (store_behind s q g))) (WhyPut.buffer_short b i l c m k refl))
      (λ k. told_number_lem t (too_short (length (answer_to s q g))) (WhyPut.output_short b i l c m k o refl))

  pub put_numbers : (number : ℕ) → PutTold s q g storeRoom room number
      → IfAndOnlyIf (number ≡ 15) (BothRead s q × (Expects s q → ⊥))
      × IfAndOnlyIf (number ≡ 16) (BothRead s q × Expects s q × (last_number < last_given s q g))
      × (BothRead s q → IfAndOnlyIf (number ≡ 9) (Expects s q × (last_given s q g ≤ last_number) × (most_elements < length (elements_behind s q g))))
      × (BothRead s q
      → IfAndOnlyIf (number ≡ 1)
      (Expects s q × (last_given s q g ≤ last_number) × (length (elements_behind s q g) ≤ most_elements) × (longest_input < length (store_behind s q g))))
      × IfAndOnlyIf (number ≡ 14) Short
  put_numbers number t = (
    (λ n. let (r, e, w) = told_reason t (λ z. omega arith) in fifteen_why r w (sym e ∙ n), λ h. told_number_lem t (fault_at 15 0) (WhyPut.another_index h.0 h.1 refl)),
    (λ n. let (r, e, w) = told_reason t (λ z. omega arith) in sixteen_why r w (sym e ∙ n), λ h. told_number_lem t (fault_at 16 0) (WhyPut.no_number h.0 h.1 h.2 refl)),
    λ b. (λ n. let (r, e, w) = told_reason t (λ z. omega arith) in nine_why b r w (sym e ∙ n), λ h. told_number_lem t (fault_at 9 0) (WhyPut.too_many b h.0 h.1 h.2 refl)),
    λ b. (λ n. let (r, e, w) = told_reason t (λ z. omega arith) in one_why b r w (sym e ∙ n), λ h. told_number_lem t (fault_at 1 0) (WhyPut.too_long b h.0 h.1 h.2 h.3 refl)),
    (λ n. let (r, e, w) = told_reason t (λ z. omega arith) in fourteen_why r w (sym e ∙ n), short_number_lem number t),
  )
