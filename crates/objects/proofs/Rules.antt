-- How objects and runs that are read are made of their parts, in four rules; and that there are no others, as an induction
-- over both at once.
-- Assumes nothing.
use mathlib.Core.Path.{◌≡◌, refl, sym, subst, ◌∙◌}
use mathlib.Core.Bool.{Bool, true, false}
use mathlib.Core.List.{List}
use Prim.Native.Nat.{ℕ, zero, suc, ◌+◌, ◌-◌}
use native.Mathlib.Omega.{arith}
use lib.ListN.{length}
use lib.Dec.{eqb}
use borrow.Author.Tests.{eqb-true, eq-eqb}
use Rattle.laws.specs.Pick.{pick}
use Rattle.laws.specs.Loop.{after}
use Rattle.laws.specs.Loop.Turn.{more}
use Rattle.laws.proofs.Loops.{iterate_ind}
use Rattle.numbers.specs.Refusals.{fault_at}
use Rattle.numbers.specs.declared.refusal.Refusal.{Refusal}
use Rattle.objects.specs.Header.{header_at}
use Rattle.objects.specs.Nesting.{data_past, and_on, onward, run_turn, object_by, object_d, object_at, run_at}
use Rattle.objects.specs.Results.Header.{ReadHeader}
use Rattle.objects.specs.Results.Header as header
use Rattle.objects.specs.Results.Passed.{Passed, Refused, To}
use Rattle.objects.proofs.Ahead.{falls, object_ahead, object_at_lem, run_at_lem, run_start}

-- a refusal is no place
pub no_place : {r : Refusal} {e : ℕ} → Refused r ≡ To e → ⊥
no_place q = let z : ◌≡◌ {A = ℕ} 0 1 = cc in omega arith

-- ---- the rules

pub object_plain : (padding : Bool) (s : List ℕ) (at d k n u : ℕ) → header_at s at ≡ header.Start k false n u → object_at padding s at d ≡ data_past padding s (at + u) n
object_plain padding s at d k n u h = object_at_lem padding s at d (header.Start k false n u) h

pub object_compound : (padding : Bool) (s : List ℕ) (at d k n u m : ℕ) → header_at s at ≡ header.Start k true n u → data_past padding s (at + u) n ≡ To m
    → object_at padding s at (suc d) ≡ run_at padding s m d k
unfolding object_at object_d run_at
object_compound padding s at d k n u m h q = rw (h, q)

pub run_end : (padding : Bool) (s : List ℕ) (at d kind u : ℕ) → header_at s at ≡ header.End kind u → run_at padding s at d kind ≡ To (at + u)
run_end padding s at d kind u h = run_at_lem padding s at d kind (header.End kind u) h ∙ rw (eq-eqb kind kind refl)

object_then : (padding : Bool) (s : List ℕ) (at d kind e : ℕ) (h : ReadHeader) → header_at s at ≡ h → object_at padding s at d ≡ To e
    → run_at padding s at d kind ≡ run_at padding s e d kind
object_then padding s at d kind e (header.Refused r) h q = absurd (no_place (sym (object_at_lem padding s at d (header.Refused r) h) ∙ q))
object_then padding s at d kind e (header.End k u) h q = absurd (no_place (sym (object_at_lem padding s at d (header.End k u) h) ∙ q))
object_then padding s at d kind e (header.Start k c n u) h q = run_start padding s at d kind k c n u h (To e) q

pub run_object : (padding : Bool) (s : List ℕ) (at d kind e : ℕ) → object_at padding s at d ≡ To e → run_at padding s at d kind ≡ run_at padding s e d kind
run_object padding s at d kind e q = object_then padding s at d kind e (header_at s at) refl q

-- ---- the induction

-- what holds of objects by P and of runs by Q, if each rule keeps it
pub record Kept (padding : Bool) (s : List ℕ) (P : ℕ → ℕ → ℕ → Type 0) (Q : ℕ → ℕ → ℕ → ℕ → Type 0) : Type 0 where
  pub plain : (at d k n u e : ℕ) → header_at s at ≡ header.Start k false n u → data_past padding s (at + u) n ≡ To e → P at d e
  pub compound : (at d k n u m e : ℕ) → header_at s at ≡ header.Start k true n u → data_past padding s (at + u) n ≡ To m
      → run_at padding s m d k ≡ To e → Q m d k e → P at (suc d) e
  pub end : (at d kind u : ℕ) → header_at s at ≡ header.End kind u → Q at d kind (at + u)
  pub object : (at d kind m e : ℕ) → object_at padding s at d ≡ To m → P at d m → run_at padding s m d kind ≡ To e → Q m d kind e → Q at d kind e

module _ (padding : Bool) (s : List ℕ) (P : ℕ → ℕ → ℕ → Type 0) (Q : ℕ → ℕ → ℕ → ℕ → Type 0) (kept : Kept padding s P Q) where
  by_end : (at d kind k u e : ℕ) (b : Bool) → eqb k kind ≡ b → header_at s at ≡ header.End k u
      → pick b (To (at + u)) (Refused (fault_at 4 at)) ≡ To e → Q at d kind e
  by_end at d kind k u e true t h q =
      let w : k ≡ kind = eqb-true k kind t in
      let x : at + u ≡ e = cc in
      subst (Q at d kind) x (kept.end at d kind u (rw w at h))
  by_end at d kind k u e false t h q = absurd (no_place q)

  module _ (d : ℕ) (below : (at e : ℕ) → object_at padding s at d ≡ To e → P at d e) (kind : ℕ) where
    by_object : (at e : ℕ) (r : Passed) → object_at padding s at d ≡ r
        → ((b : ℕ) → onward r ≡ more b → (f : ℕ) → run_at padding s b d kind ≡ To f → Q b d kind f)
        → after (λ i. run_at padding s i d kind) (onward r) ≡ To e → Q at d kind e
    by_object at e (To m) o ih q = kept.object at d kind m e o (below at m o) q (ih m refl e q)
    by_object at e (Refused r) o ih q = absurd (no_place q)

    by_header : (at e : ℕ) (h : ReadHeader) → header_at s at ≡ h
        → ((b : ℕ) → run_turn (λ i. object_at padding s i d) kind at h ≡ more b → (f : ℕ) → run_at padding s b d kind ≡ To f → Q b d kind f)
        → after (λ i. run_at padding s i d kind) (run_turn (λ i. object_at padding s i d) kind at h) ≡ To e → Q at d kind e
    by_header at e (header.Refused r) h ih q = absurd (no_place q)
    by_header at e (header.End k u) h ih q = by_end at d kind k u e (eqb k kind) refl h q
    by_header at e (header.Start k c n u) h ih q = by_object at e (object_at padding s at d) refl ih q

    by_run : (at e : ℕ) → run_at padding s at d kind ≡ To e → Q at d kind e
    by_run =
        iterate_ind (λ i. run_turn (λ j. object_at padding s j d) kind i (header_at s i)) (λ i. length s - i) (Refused (fault_at 0 0))
        (falls s (λ j. object_at padding s j d) kind (λ j. object_ahead padding s j d)) (λ at. (e : ℕ) → run_at padding s at d kind ≡ To e → Q at d kind e)
        (λ at ih e q. by_header at e (header_at s at) refl ih (sym (run_at_lem padding s at d kind (header_at s at) refl) ∙ q))

  by_data : (at d k n u e : ℕ) (r : Passed) → header_at s at ≡ header.Start k true n u → data_past padding s (at + u) n ≡ r
      → ((m f : ℕ) → run_at padding s m d k ≡ To f → Q m d k f) → and_on r (λ m. run_at padding s m d k) ≡ To e → P at (suc d) e
  by_data at d k n u e (To m) h o f q = kept.compound at d k n u m e h o q (f m e q)
  by_data at d k n u e (Refused r) h o f q = absurd (no_place q)

  by_start : (go : ℕ → Passed → Passed) (at d e : ℕ) (h : ReadHeader) → header_at s at ≡ h
      → ((k n u : ℕ) → header_at s at ≡ header.Start k true n u → go k (data_past padding s (at + u) n) ≡ To e → P at d e)
      → object_by padding go s at h ≡ To e → P at d e
  by_start go at d e (header.Refused r) h f q = absurd (no_place q)
  by_start go at d e (header.End k u) h f q = absurd (no_place q)
  by_start go at d e (header.Start k true n u) h f q = f k n u h q
  by_start go at d e (header.Start k false n u) h f q = kept.plain at d k n u e h q

  pub object_ind : (d at e : ℕ) → object_at padding s at d ≡ To e → P at d e
  unfolding object_at object_d run_at
  object_ind zero at e q = by_start (λ k r. Refused (fault_at 6 at)) at 0 e (header_at s at) refl (λ k n u h z. absurd (no_place z)) q
  object_ind (suc d) at e q =
      by_start (λ k r. and_on r (λ m. run_at padding s m d k)) at (suc d) e (header_at s at) refl
      (λ k n u h z. by_data at d k n u e (data_past padding s (at + u) n) h refl (by_run d (object_ind d) k) z) q

  pub run_ind : (d kind at e : ℕ) → run_at padding s at d kind ≡ To e → Q at d kind e
  run_ind d kind at e q = by_run d (object_ind d) kind at e q
