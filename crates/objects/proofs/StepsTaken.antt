-- The steps that are told whether padding is taken: what one of them read without fault it reads the same for whoever takes the numbers
-- that its reader took. What is inside an object is read so with more depth left, too.
-- Assumes nothing.
use mathlib.Core.Path.{◌≡◌, refl, ap, ◌∙◌}
use mathlib.Core.Bool.{Bool}
use mathlib.Core.List.{List}
use Prim.Native.Nat.{ℕ, ◌+◌, ◌≤◌}
use native.Mathlib.Omega.{arith}
use lib.ListN.{drop}
use Rattle.laws.proofs.Cases.{impossible}
use Rattle.numbers.specs.Compact.{compact_for}
use Rattle.numbers.specs.Results.Compact.{Compact}
use Rattle.numbers.specs.Results.Compact as compact
use Rattle.numbers.proofs.Padding.{Takes}
use Rattle.objects.specs.Nesting.{run_at}
use Rattle.objects.specs.Steps.{place_of, number_on, number, start_here, start_of_length, inside_on, inside}
use Rattle.objects.specs.Results.Passed.{Passed}
use Rattle.objects.specs.Results.Passed as passed
use Rattle.objects.specs.Results.Reading.{At, Reading, Refused}
use Rattle.objects.proofs.Deeper.{length_taken, run_deeper}
use Rattle.objects.proofs.StepsCarry.{opened_from, start_at, length_is_at}

module _ (padding other : Bool) (takes : Takes padding other) where
  number_on_taken : (s : List ℕ) (p q v : ℕ) (r : Compact) → compact_for padding (drop p s) ≡ r → number_on p r ≡ At q v
      → number_on p (compact_for other (drop p s)) ≡ At q v
  number_on_taken s p q v (compact.Value x n padded) a e = rw (takes (drop p s) x n padded a) e
  number_on_taken s p q v (compact.Refused r) a e = impossible (cc)

  pub number_taken : (s : List ℕ) (c : Reading) (q v : ℕ) → number padding s c ≡ At q v → number other s c ≡ At q v
  unfolding number
  number_taken s (At p u) q v e = number_on_taken s p q v (compact_for padding (drop p s)) refl e
  number_taken s (Refused r) q v e = e

  start_at_taken : (s : List ℕ) (outer kind : ℕ) (compound room : Bool) (p u q v : ℕ) → start_here padding s outer kind compound room (At p u) ≡ At q v
      → start_here other s outer kind compound room (At p u) ≡ At q v
  start_at_taken s outer kind compound room p u q v e =
      let o = opened_from padding s outer kind compound room p u q v e in
      let y : p + o.used + o.rest ≡ q = let z = o.past in omega arith in
      start_at other outer kind compound room o.bit s p u o.field o.used v (p + o.used + o.rest) o.start o.same o.free
      (length_taken padding other takes s (p + o.used) o.field v (p + o.used + o.rest) o.true_length)
      ∙ ap (λ (m : ℕ). At m v) y

  pub start_taken : (s : List ℕ) (outer kind : ℕ) (compound room : Bool) (c : Reading) (q v : ℕ) → start_here padding s outer kind compound room c ≡ At q v
      → start_here other s outer kind compound room c ≡ At q v
  unfolding start_here
  start_taken s outer kind compound room (At p u) q v e = start_at_taken s outer kind compound room p u q v e
  start_taken s outer kind compound room (Refused r) q v e = e

  pub start_of_length_taken : (s : List ℕ) (outer kind : ℕ) (compound room : Bool) (n : ℕ) (c : Reading) (q v : ℕ)
      → start_of_length padding s outer kind compound room n c ≡ At q v → start_of_length other s outer kind compound room n c ≡ At q v
  unfolding start_of_length
  start_of_length_taken s outer kind compound room n c q v e =
      let w = length_is_at n (place_of c) (start_here padding s outer kind compound room c) q v e in
      rw (start_taken s outer kind compound room c q v w.0) (rw w.0 at e)

  inside_on_deeper : (s : List ℕ) (at d d' kind e v : ℕ) (r : Passed) → d ≤ d' → run_at padding s at d kind ≡ r → inside_on r ≡ At e v
      → inside_on (run_at other s at d' kind) ≡ At e v
  inside_on_deeper s at d d' kind e v (passed.To x) l q h = ap inside_on (run_deeper padding other takes s at d d' kind x l q) ∙ h
  inside_on_deeper s at d d' kind e v (passed.Refused r) l q h = impossible (cc)

  pub inside_deeper : (s : List ℕ) (d d' kind : ℕ) (c : Reading) (e v : ℕ) → d ≤ d' → inside padding s d kind c ≡ At e v → inside other s d' kind c ≡ At e v
  unfolding inside
  inside_deeper s d d' kind (At at u) e v l h = inside_on_deeper s at d d' kind e v (run_at padding s at d kind) l refl h
  inside_deeper s d d' kind (Refused r) e v l h = h
