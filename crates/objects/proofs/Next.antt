-- What stands at a place of a run: by its two bytes where its header is short; that it lies ahead; and an object and a run by it. Only the
-- proofs of `nesting` need this.
-- Assumes nothing.
use mathlib.Core.Bool.{Bool}
use mathlib.Core.Path.{◌≡◌, refl, sym, ap, subst, ◌∙◌}
use mathlib.Core.List.{List}
use Prim.Native.Nat.{ℕ, ◌+◌, ◌-◌, ◌/◌, ◌%◌, ◌≤◌, ◌<◌}
use native.Mathlib.Omega.{arith}
use lib.ListN.{length, get_or}
use lib.Dec.{ltb, eqb}
use borrow.Author.Tests.{lt-ltb, le-ltb, ltb-false, eqb-true, eqb-false, eq-eqb, ne_eqb}
use Rattle.laws.specs.Pick.{pick}
use Rattle.laws.specs.Loop.{after}
use Rattle.laws.proofs.Cases.{by_bool, pick_all}
use Rattle.numbers.specs.Refusals.{fault_at}
use Rattle.numbers.specs.declared.refusal.Refusal.{Refusal}
use Rattle.objects.specs.Header.{start_of, header_at}
use Rattle.objects.specs.Nesting.{data_past, and_on, onward, object_at, run_at}
use Rattle.objects.specs.Next.{short_number, object_on, passing, opening, next_on, next_at, opened_at, met_by, plain_on, met_at}
use Rattle.objects.specs.Results.Header.{ReadHeader}
use Rattle.objects.specs.Results.Header as header
use Rattle.objects.specs.Results.Passed.{Passed, Refused, To}
use Rattle.objects.specs.Results.Next.{ReadNext}
use Rattle.objects.specs.Results.Next as next
use Rattle.objects.specs.declared.nesting.Met.{Met}
use Rattle.objects.specs.declared.nesting.Met.TheVariants as met
use Rattle.objects.proofs.HeaderLaws.{Fits, header_fits}
use Rattle.objects.proofs.Ahead.{data_ahead, AtLeast, object_at_lem, run_at_lem, run_start}
use Rattle.objects.proofs.Short.{short_start_lem, short_end, short_data}

-- ---- a start of two bytes, w as a number, with its data: a plain object, the start of a compound one, or one too deep

set_bit : (x : ℕ) → (x % 2 ≡ 0 → ⊥) → x % 2 ≡ 1
set_bit x h = omega arith

clear_bit : (x : ℕ) → x % 2 ≡ 0 → x % 2 ≡ 1 → ⊥
clear_bit x h e = omega arith

module _ (padding : Bool) (s : List ℕ) (at d w : ℕ) (is : short_number s at ≡ w) (low : w % 4 ≡ 0) (few : w / 8 / 64 ≤ 127) (fits : w / 8 / 64 ≤ length s - at - 2) where
  next_start : next_at padding s at d
      ≡ pick (eqb (w / 4 % 2) 1) (pick (eqb d 0) (next.Refused (fault_at 6 at)) (next.Opens (w / 8 % 64) (at + 2 + w / 8 / 64))) (next.Past (at + 2 + w / 8 / 64))
  unfolding next_at start_of
  next_start =
      let m : w / 8 / 64 ≤ length s - (at + 2) = omega arith in
      rw (short_start_lem s at (ap (λ (x : ℕ). x % 4) is ∙ low), is, short_data padding s (at + 2) (w / 8 / 64) few m)

  pub next_plain : w / 4 % 2 ≡ 0 → next_at padding s at d ≡ next.Past (at + 2 + w / 8 / 64)
  next_plain b = next_start ∙ rw (ne_eqb (w / 4 % 2) 1 (clear_bit (w / 4) b))

  pub next_opens : (w / 4 % 2 ≡ 0 → ⊥) → (d ≡ 0 → ⊥) → next_at padding s at d ≡ next.Opens (w / 8 % 64) (at + 2 + w / 8 / 64)
  next_opens b z = next_start ∙ rw (eq-eqb (w / 4 % 2) 1 (set_bit (w / 4) b), ne_eqb d 0 z)

-- ---- the short start of a compound object, w as a number, by the place behind its data

module _ (s : List ℕ) (at d w : ℕ) (is : short_number s at ≡ w) where
  pub opened_other : (w % 8 ≡ 4 → ⊥) → opened_at s at d ≡ 0
  unfolding opened_at
  opened_other low = rw (is, ne_eqb (w % 8) 4 low)

  module _ (low : w % 8 ≡ 4) where
    pub opened_over : d ≡ 0 → opened_at s at d ≡ 0
    unfolding opened_at
    opened_over z = rw (is, eq-eqb (w % 8) 4 low, eq-eqb d 0 z)

    module _ (more : d ≡ 0 → ⊥) where
      pub opened_cut : length s - at - 2 < w / 8 / 64 → opened_at s at d ≡ 0
      unfolding opened_at
      opened_cut cut = rw (is, eq-eqb (w % 8) 4 low, ne_eqb d 0 more, lt-ltb (length s - at - 2) (w / 8 / 64) cut)

      pub opened_wide : w / 8 / 64 ≤ length s - at - 2 → 127 < w / 8 / 64 → opened_at s at d ≡ 0
      unfolding opened_at
      opened_wide fits wide =
          rw (is, eq-eqb (w % 8) 4 low, ne_eqb d 0 more, le-ltb (length s - at - 2) (w / 8 / 64) fits, lt-ltb 127 (w / 8 / 64) wide)

      pub opened_there : (e : ℕ) → w / 8 / 64 ≤ length s - at - 2 → w / 8 / 64 ≤ 127 → at + 2 + w / 8 / 64 ≡ e → opened_at s at d ≡ e
      unfolding opened_at
      opened_there e fits few end =
          rw (is, eq-eqb (w % 8) 4 low, ne_eqb d 0 more, le-ltb (length s - at - 2) (w / 8 / 64) fits, le-ltb 127 (w / 8 / 64) few, end)

-- a place that is told so, and not 0, is where the run inside starts
abbrev Opening : Bool → List ℕ → ℕ → ℕ → ℕ → Type 0
Opening padding s at d e = (e ≡ 0 → ⊥) → next_at padding s at d ≡ next.Opens (short_number s at / 8 % 64) e

opened_here : (padding : Bool) (s : List ℕ) (at d : ℕ) → Opening padding s at d (opened_at s at d)
unfolding opened_at
opened_here padding s at d =
    let P = Opening padding s at d in
    let w = short_number s at in
    pick_all P (eqb (w % 8) 4) _ _
    (λ a.
    pick_all P (eqb d 0) _ _ (λ b z. absurd (z refl))
    (λ b.
    pick_all P (ltb (length s - at - 2) (w / 8 / 64)) _ _ (λ c z. absurd (z refl))
    (λ c.
    pick_all P (ltb 127 (w / 8 / 64)) _ _ (λ f z. absurd (z refl))
    (λ f z.
    let low = eqb-true (w % 8) 4 a in
    next_opens padding s at d w refl (omega arith) (ltb-false 127 (w / 8 / 64) f) (ltb-false (length s - at - 2) (w / 8 / 64) c) (λ h. omega arith) (eqb-false d 0 b)))))
    (λ a z. absurd (z refl))

pub opened_opens : (padding : Bool) (s : List ℕ) (at d w e kind inside : ℕ) → short_number s at ≡ w → opened_at s at d ≡ e → (e ≡ 0 → ⊥) → kind ≡ w / 8 % 64 → inside ≡ e
    → next_at padding s at d ≡ next.Opens kind inside
opened_opens padding s at d w e kind inside is o z k i = rw (k, i, sym is) (subst (Opening padding s at d) o (opened_here padding s at d) z)

-- what opens a run, by names of its type and place
pub opens_as : (padding : Bool) (s : List ℕ) (at d k e kind inside : ℕ) → next_at padding s at d ≡ next.Opens k e → kind ≡ k → inside ≡ e → next_at padding s at d ≡ next.Opens kind inside
opens_as padding s at d k e kind inside n p q = rw (p, q) n

-- ---- where the next thing stands

-- past `at`, and within the input
abbrev pub NextAhead : List ℕ → ℕ → ℕ → ReadNext → Type 0
NextAhead s at d (next.Past e) = (at < e) × (e ≤ length s)
NextAhead s at d (next.Ends k e) = (at < e) × (e ≤ length s)
NextAhead s at d (next.Opens k e) = (at < e) × (e ≤ length s) × (0 < d)
NextAhead s at d (next.Refused r) = Unit {0}

passing_ahead : (s : List ℕ) (at from d : ℕ) (p : Passed) → at < from → from ≤ length s → AtLeast s from p → NextAhead s at d (passing p)
passing_ahead s at from d (To e) h l w = let x = w.1 l in (omega arith, x)
passing_ahead s at from d (Refused r) h l w = tt

opening_ahead : (s : List ℕ) (at from d k : ℕ) (p : Passed) → at < from → from ≤ length s → 0 < d → AtLeast s from p → NextAhead s at d (opening k p)
opening_ahead s at from d k (To e) h l z w = let x = w.1 l in (omega arith, x, z)
opening_ahead s at from d k (Refused r) h l z w = tt

next_on_ahead : (padding : Bool) (s : List ℕ) (at d : ℕ) (h : ReadHeader) → Fits at (length s - at) h → NextAhead s at d (next_on padding s at d h)
next_on_ahead padding s at d (header.Refused r) w = tt
next_on_ahead padding s at d (header.End k u) w = (omega arith, omega arith)
next_on_ahead padding s at d (header.Start k c n u) w =
    let a : at < at + u = omega arith in
    let b : at + u ≤ length s = omega arith in
    let p = data_ahead padding s (at + u) n in
    pick_all (NextAhead s at d) c _ _
    (λ t. pick_all (NextAhead s at d) (eqb d 0) _ _ (λ z. tt) (λ z. let y = eqb-false d 0 z in opening_ahead s at (at + u) d k (data_past padding s (at + u) n) a b (omega arith) p))
    (λ t. passing_ahead s at (at + u) d (data_past padding s (at + u) n) a b p)

pub next_ahead : (padding : Bool) (s : List ℕ) (at d : ℕ) (n : ReadNext) → next_at padding s at d ≡ n → NextAhead s at d n
unfolding next_at
next_ahead padding s at d n e = subst (NextAhead s at d) e (next_on_ahead padding s at d (header_at s at) (header_fits s at))

-- ---- an object, and a run, by what stands there

object_passing : (padding : Bool) (s : List ℕ) (at d : ℕ) (p : Passed) → p ≡ object_on padding s at d (passing p)
object_passing padding s at d (To e) = refl
object_passing padding s at d (Refused r) = refl

object_opening : (padding : Bool) (s : List ℕ) (at d k : ℕ) (p : Passed) → and_on p (λ e. run_at padding s e (d - 1) k) ≡ object_on padding s at d (opening k p)
object_opening padding s at d k (To e) = refl
object_opening padding s at d k (Refused r) = refl

object_by_header : (padding : Bool) (s : List ℕ) (at d : ℕ) (h : ReadHeader) → header_at s at ≡ h → object_at padding s at d ≡ object_on padding s at d (next_on padding s at d h)
object_by_header padding s at d (header.Refused r) e = object_at_lem padding s at d (header.Refused r) e
object_by_header padding s at d (header.End k u) e = object_at_lem padding s at d (header.End k u) e
object_by_header padding s at d (header.Start k c n u) e =
    object_at_lem padding s at d (header.Start k c n u) e
    ∙ by_bool c
    (λ t. rw t (by_bool (eqb d 0) (λ z. rw z) (λ z. rw z (object_opening padding s at d k (data_past padding s (at + u) n)))))
    (λ t. rw t (object_passing padding s at d (data_past padding s (at + u) n)))

pub object_next_on : (padding : Bool) (s : List ℕ) (at d : ℕ) (n : ReadNext) → next_at padding s at d ≡ n → object_at padding s at d ≡ object_on padding s at d n
unfolding next_at
object_next_on padding s at d n e = object_by_header padding s at d (header_at s at) refl ∙ ap (object_on padding s at d) e

-- ---- what a run meets, by the two bytes that stand there

module _ (s : List ℕ) (kind at w : ℕ) (is : short_number s at ≡ w) where
  low_of : (x : ℕ) → w % 4 ≡ x → short_number s at % 4 ≡ x
  low_of x low = ap (λ (y : ℕ). y % 4) is ∙ low

  pub met_by_header : (w % 8 ≡ 0 → ⊥) → met_at s kind at ≡ met_by kind at (header_at s at)
  unfolding met_at
  met_by_header low = rw (is, ne_eqb (w % 8) 0 low)

  pub met_ended : w % 4 ≡ 1 → get_or s at 0 / 4 ≡ kind → met_at s kind at ≡ met.Ended (at + 1)
  met_ended low own =
      met_by_header (λ z. omega arith) ∙ ap (met_by kind at) (short_end s at (low_of 1 low)) ∙ rw (eq-eqb (get_or s at 0 / 4) kind own)

  pub met_other_end : w % 4 ≡ 1 → (get_or s at 0 / 4 ≡ kind → ⊥) → met_at s kind at ≡ met.Object
  met_other_end low other =
      met_by_header (λ z. omega arith) ∙ ap (met_by kind at) (short_end s at (low_of 1 low)) ∙ rw (ne_eqb (get_or s at 0 / 4) kind other)

  pub met_compound : w % 8 ≡ 4 → met_at s kind at ≡ met.Object
  unfolding start_of
  met_compound low = met_by_header (λ z. omega arith) ∙ ap (met_by kind at) (short_start_lem s at (low_of 0 (omega arith)))

  module _ (low : w % 8 ≡ 0) where
    pub met_cut : length s - at - 2 < w / 8 / 64 → met_at s kind at ≡ met.Object
    unfolding met_at
    met_cut cut = rw (is, eq-eqb (w % 8) 0 low, lt-ltb (length s - at - 2) (w / 8 / 64) cut)

    pub met_wide : w / 8 / 64 ≤ length s - at - 2 → 127 < w / 8 / 64 → met_at s kind at ≡ met.Object
    unfolding met_at
    met_wide fits wide = rw (is, eq-eqb (w % 8) 0 low, le-ltb (length s - at - 2) (w / 8 / 64) fits, lt-ltb 127 (w / 8 / 64) wide)

    pub met_plain : (e : ℕ) → w / 8 / 64 ≤ length s - at - 2 → w / 8 / 64 ≤ 127 → at + 2 + w / 8 / 64 ≡ e → met_at s kind at ≡ met.Plain e
    unfolding met_at
    met_plain e fits few end =
        rw (is, eq-eqb (w % 8) 0 low, le-ltb (length s - at - 2) (w / 8 / 64) fits, le-ltb 127 (w / 8 / 64) few, end)

-- the same by what stands there: an end of its own type, or nothing that a run goes by without a call
abbrev pub met_next : ℕ → ReadNext → Met
met_next kind (next.Refused r) = met.Object
met_next kind (next.Past e) = met.Object
met_next kind (next.Opens k e) = met.Object
met_next kind (next.Ends k e) = pick (eqb k kind) (met.Ended e) met.Object

passing_object : (kind : ℕ) (p : Passed) → met_next kind (passing p) ≡ met.Object
passing_object kind (To e) = refl
passing_object kind (Refused r) = refl

opening_object : (kind k : ℕ) (p : Passed) → met_next kind (opening k p) ≡ met.Object
opening_object kind k (To e) = refl
opening_object kind k (Refused r) = refl

next_met_on : (padding : Bool) (s : List ℕ) (kind at d : ℕ) (h : ReadHeader) → met_next kind (next_on padding s at d h) ≡ met_by kind at h
next_met_on padding s kind at d (header.Refused r) = refl
next_met_on padding s kind at d (header.End k u) = refl
next_met_on padding s kind at d (header.Start k c n u) =
    by_bool c
    (λ t. rw t (by_bool (eqb d 0) (λ z. rw z) (λ z. rw z (opening_object kind k (data_past padding s (at + u) n)))))
    (λ t. rw t (passing_object kind (data_past padding s (at + u) n)))

pub next_met : (padding : Bool) (s : List ℕ) (kind at d : ℕ) (n : ReadNext) → next_at padding s at d ≡ n → met_next kind n ≡ met_by kind at (header_at s at)
unfolding next_at
next_met padding s kind at d n e = ap (met_next kind) (sym e) ∙ next_met_on padding s kind at d (header_at s at)

module _ (padding : Bool) (s : List ℕ) (kind at d k e : ℕ) (n : next_at padding s at d ≡ next.Ends k e) where
  pub next_own_end : k ≡ kind → met.Ended e ≡ met_by kind at (header_at s at)
  next_own_end own = rw (eq-eqb k kind own) at (next_met padding s kind at d (next.Ends k e) n)

  pub next_other_end : (k ≡ kind → ⊥) → met.Object ≡ met_by kind at (header_at s at)
  next_other_end other = rw (ne_eqb k kind other) at (next_met padding s kind at d (next.Ends k e) n)

-- ---- a run, by what it meets

-- a plain object, and the run goes on behind it; its own end; an object, and the run goes on behind it
abbrev pub Meets : Bool → List ℕ → ℕ → ℕ → Met → Type 0
Meets padding s kind at (met.Plain e) = (d : ℕ) → (run_at padding s at d kind ≡ run_at padding s e d kind) × (at < e) × (e ≤ length s)
Meets padding s kind at (met.Ended e) = (d : ℕ) → run_at padding s at d kind ≡ To e
Meets padding s kind at met.Object = (d : ℕ) (p : Passed) → object_at padding s at d ≡ p → run_at padding s at d kind ≡ and_on p (λ i. run_at padding s i d kind)

and_onward : (p : Passed) (go : ℕ → Passed) → after go (onward p) ≡ and_on p go
and_onward (To e) go = refl
and_onward (Refused r) go = refl

-- what both refuse alike
both_refuse : (padding : Bool) (s : List ℕ) (kind at d : ℕ) (r : Refusal) (p : Passed) → run_at padding s at d kind ≡ Refused r → object_at padding s at d ≡ Refused r → object_at padding s at d ≡ p
    → run_at padding s at d kind ≡ and_on p (λ i. run_at padding s i d kind)
both_refuse padding s kind at d r p run object o = run ∙ ap (λ (x : Passed). and_on x (λ i. run_at padding s i d kind)) (sym object ∙ o)

by_header_met : (padding : Bool) (s : List ℕ) (kind at : ℕ) (h : ReadHeader) → header_at s at ≡ h → Meets padding s kind at (met_by kind at h)
by_header_met padding s kind at (header.Refused r) q = λ d p o.
    both_refuse padding s kind at d r p (run_at_lem padding s at d kind (header.Refused r) q) (object_at_lem padding s at d (header.Refused r) q) o
by_header_met padding s kind at (header.End k u) q =
    pick_all (Meets padding s kind at) (eqb k kind) _ _
    (λ t d. run_at_lem padding s at d kind (header.End k u) q ∙ rw t)
    (λ t d p o. both_refuse padding s kind at d (fault_at 4 at) p (run_at_lem padding s at d kind (header.End k u) q ∙ rw t) (object_at_lem padding s at d (header.End k u) q) o)
by_header_met padding s kind at (header.Start k c n u) q = λ d p o. run_start padding s at d kind k c n u q p o ∙ and_onward p (λ i. run_at padding s i d kind)

module _ (padding : Bool) (s : List ℕ) (kind at w : ℕ) (is : short_number s at ≡ w) (low : w % 8 ≡ 0) where
  start_here_lem : header_at s at ≡ header.Start (w / 8 % 64) (eqb (w / 4 % 2) 1) (w / 8 / 64) 2
  unfolding start_of
  start_here_lem = short_start_lem s at (ap (λ (x : ℕ). x % 4) is ∙ omega arith) ∙ rw is

  object_met : Meets padding s kind at met.Object
  object_met = by_header_met padding s kind at (header.Start (w / 8 % 64) (eqb (w / 4 % 2) 1) (w / 8 / 64) 2) start_here_lem

  plain_met : w / 8 / 64 ≤ length s - at - 2 → w / 8 / 64 ≤ 127 → Meets padding s kind at (met.Plain (at + 2 + w / 8 / 64))
  plain_met fits few = λ d.
      let e = at + 2 + w / 8 / 64 in
      let x = next_plain padding s at d w is (omega arith) few fits (omega arith) in
      let a = next_ahead padding s at d (next.Past e) x in
      (run_start padding s at d kind (w / 8 % 64) (eqb (w / 4 % 2) 1) (w / 8 / 64) 2 start_here_lem (To e) (object_next_on padding s at d (next.Past e) x), a.0, a.1)

  start_met : Meets padding s kind at (plain_on s at (w / 8 / 64))
  start_met =
      pick_all (Meets padding s kind at) (ltb (length s - at - 2) (w / 8 / 64)) _ _ (λ t. object_met)
      (λ t.
      pick_all (Meets padding s kind at) (ltb 127 (w / 8 / 64)) _ _ (λ u. object_met)
      (λ u. plain_met (ltb-false (length s - at - 2) (w / 8 / 64) t) (ltb-false 127 (w / 8 / 64) u)))

met_here : (padding : Bool) (s : List ℕ) (kind at : ℕ) → Meets padding s kind at (met_at s kind at)
unfolding met_at
met_here padding s kind at =
    pick_all (Meets padding s kind at) (eqb (short_number s at % 8) 0) _ _
    (λ t. start_met padding s kind at (short_number s at) refl (eqb-true (short_number s at % 8) 0 t))
    (λ t. by_header_met padding s kind at (header_at s at) refl)

pub met_is : (padding : Bool) (s : List ℕ) (kind at : ℕ) (m : Met) → met_at s kind at ≡ m → Meets padding s kind at m
met_is padding s kind at m e = subst (Meets padding s kind at) e (met_here padding s kind at)
