-- Depth and padding: what is read with some depth left is read the same with more, by whoever takes the numbers that its reader took.
-- Assumes nothing.
use mathlib.Core.Path.{◌≡◌, refl, ◌∙◌}
use mathlib.Core.Bool.{Bool, true}
use mathlib.Core.List.{List}
use Prim.Native.Nat.{ℕ, zero, suc, ◌+◌, ◌≤◌}
use native.Mathlib.Omega.{arith}
use lib.ListN.{drop}
use lib.Dec.{eqb}
use Rattle.laws.proofs.Cases.{by_bool, impossible}
use Rattle.numbers.specs.Compact.{compact_for}
use Rattle.numbers.specs.Results.Compact.{Compact}
use Rattle.numbers.specs.Results.Compact as compact
use Rattle.numbers.proofs.Padding.{Takes}
use Rattle.objects.specs.Header.{header_at, escape, length_on, length_at}
use Rattle.objects.specs.Nesting.{data_on, data_past, object_at, run_at}
use Rattle.objects.specs.Results.Header.{Start}
use Rattle.objects.specs.Results.Length.{Length}
use Rattle.objects.specs.Results.Length as length'
use Rattle.objects.specs.Results.Passed.{To}
use Rattle.objects.proofs.Rules.{no_place, object_plain, object_compound, run_end, run_object, Kept, object_ind, run_ind}

module _ (padding other : Bool) (takes : Takes padding other) where
  -- ---- the true length, and the data behind it

  length_on_taken : (s : List ℕ) (at v from : ℕ) (r : Compact) → compact_for padding (drop at s) ≡ r → length_on at r ≡ length'.Is v from
      → length_on at (compact_for other (drop at s)) ≡ length'.Is v from
  length_on_taken s at v from (compact.Value x n padded) q h = rw (takes (drop at s) x n padded q) h
  length_on_taken s at v from (compact.Refused r) q h = impossible (cc)

  pub length_taken : (s : List ℕ) (at n v from : ℕ) → length_at padding s at n ≡ length'.Is v from → length_at other s at n ≡ length'.Is v from
  unfolding length_at
  length_taken s at n v from h =
      by_bool (eqb n escape)
      (λ e. rw e (length_on_taken s at v from (compact_for padding (drop at s)) refl (rw e at h)))
      (λ e. rw e (rw e at h))

  data_on_taken : (s : List ℕ) (at n e : ℕ) (l : Length) → length_at padding s at n ≡ l → data_on s l ≡ To e → data_on s (length_at other s at n) ≡ To e
  data_on_taken s at n e (length'.Is v from) q h = rw (length_taken s at n v from q) h
  data_on_taken s at n e (length'.Refused r) q h = absurd (no_place h)

  data_taken : (s : List ℕ) (at n e : ℕ) → data_past padding s at n ≡ To e → data_past other s at n ≡ To e
  unfolding data_past
  data_taken s at n e h = data_on_taken s at n e (length_at padding s at n) refl h

  -- ---- an object and a run

  abbrev ObjectDeeper : List ℕ → ℕ → ℕ → ℕ → Type 0
  ObjectDeeper s at d e = (d' : ℕ) → d ≤ d' → object_at other s at d' ≡ To e

  abbrev RunDeeper : List ℕ → ℕ → ℕ → ℕ → ℕ → Type 0
  RunDeeper s at d kind e = (d' : ℕ) → d ≤ d' → run_at other s at d' kind ≡ To e

  compound_deeper : (s : List ℕ) (at d k n u m e : ℕ) → header_at s at ≡ Start k true n u → data_past other s (at + u) n ≡ To m
      → RunDeeper s m d k e → ObjectDeeper s at (suc d) e
  compound_deeper s at d k n u m e h q f zero l = absurd (omega arith)
  compound_deeper s at d k n u m e h q f (suc d') l = object_compound other s at d' k n u m h q ∙ f d' (omega arith)

  deeper : (s : List ℕ) → Kept padding s (ObjectDeeper s) (RunDeeper s)
  deeper s =
      record {
        plain = λ at d k n u e h q d' l. object_plain other s at d' k n u h ∙ data_taken s (at + u) n e q;
        compound = λ at d k n u m e h q r f. compound_deeper s at d k n u m e h (data_taken s (at + u) n m q) f;
        end = λ at d kind u h d' l. run_end other s at d' kind u h;
        object = λ at d kind m e o g r f d' l. run_object other s at d' kind m (g d' l) ∙ f d' l;
      }

  pub object_deeper : (s : List ℕ) (at d d' e : ℕ) → d ≤ d' → object_at padding s at d ≡ To e → object_at other s at d' ≡ To e
  object_deeper s at d d' e l q = object_ind padding s (ObjectDeeper s) (RunDeeper s) (deeper s) d at e q d' l

  pub run_deeper : (s : List ℕ) (at d d' kind e : ℕ) → d ≤ d' → run_at padding s at d kind ≡ To e → run_at other s at d' kind ≡ To e
  run_deeper s at d d' kind e l q = run_ind padding s (ObjectDeeper s) (RunDeeper s) (deeper s) d kind at e q d' l
