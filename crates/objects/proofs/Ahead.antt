-- An object or a run that is read lies ahead of its start and within the input; a fault's place lies between the start and
-- the input's end, if the start is within the input, and it is 2, 3, 4 or 6. And the equations of both at a header that is known.
-- Assumes nothing.
use mathlib.Core.Path.{◌≡◌, refl, sym, subst, ap, ◌∙◌}
use mathlib.Core.Bool.{Bool}
use mathlib.Core.Logic.{inl, inr}
use mathlib.Core.List.{List}
use Prim.Native.Nat.{ℕ, zero, suc, ◌+◌, ◌-◌, ◌<◌, ◌≤◌}
use native.Mathlib.Omega.{arith}
use native.Mathlib.Numerals.{sub-one}
use lib.ListN.{length}
use lib.Dec.{ltb, eqb, eqb-suc-zero}
use borrow.Author.Tests.{ltb-false}
use Rattle.laws.specs.Pick.{pick}
use Rattle.laws.specs.Loop.{Turn, after}
use Rattle.laws.specs.Loop.Turn.{more, done}
use Rattle.laws.proofs.Cases.{pick_all}
use Rattle.laws.proofs.Loops.{Falls, iterate_at, iterate_ind}
use Rattle.numbers.specs.Refusals.{fault_at}
use Rattle.numbers.specs.declared.refusal.Refusal.{Refusal}
use Rattle.objects.specs.Header.{header_at, length_at}
use Rattle.objects.specs.Nesting.{data_on, data_past, and_on, onward, run_turn, run_of, object_by, object_d, object_at, run_at}
use Rattle.objects.specs.Results.Header.{ReadHeader}
use Rattle.objects.specs.Results.Header as header
use Rattle.objects.specs.Results.Length.{Length}
use Rattle.objects.specs.Results.Length as length'
use Rattle.objects.specs.Results.Passed.{Passed, Refused, To}
use Rattle.objects.proofs.HeaderLaws.{Fits, header_fits, LengthFits, length_fits}

-- 2, 3, 4 or 6 of the first input, with no needed length
pub data NestingFault : Refusal → Type 0 where
  two : (p : ℕ) → NestingFault (fault_at 2 p)
  three : (p : ℕ) → NestingFault (fault_at 3 p)
  four : (p : ℕ) → NestingFault (fault_at 4 p)
  six : (p : ℕ) → NestingFault (fault_at 6 p)

-- such a fault; its place is at or behind `at`, and within the input if `at` is
abbrev pub FaultAhead : List ℕ → ℕ → Refusal → Type 0
FaultAhead s at r = (at ≤ r.place) × (at ≤ length s → r.place ≤ length s) × NestingFault r

-- at or behind `at`, within the input if `at` is
abbrev pub AtLeast : List ℕ → ℕ → Passed → Type 0
AtLeast s at (To e) = (at ≤ e) × (at ≤ length s → e ≤ length s)
AtLeast s at (Refused r) = FaultAhead s at r

-- a place past `at` and within the input
abbrev pub Ahead : List ℕ → ℕ → Passed → Type 0
Ahead s at (To e) = (at < e) × (e ≤ length s)
Ahead s at (Refused r) = FaultAhead s at r

-- ---- the data

here : (s : List ℕ) (at k : ℕ) → NestingFault (fault_at k at) → FaultAhead s at (fault_at k at)
here s at k f = (omega arith, λ h. h, f)

data_on_ahead : (s : List ℕ) (at : ℕ) (l : Length) → LengthFits s at l → AtLeast s at (data_on s l)
data_on_ahead s at (length'.Is v from) w =
    pick_all (AtLeast s at) (ltb (length s - from) v) _ _ (λ t. (w.0, w.1, two from))
    (λ t. let q = ltb-false (length s - from) v t in (omega arith, λ h. let x = w.1 h in omega arith))
data_on_ahead s at (length'.Refused r) (inl e) = rw e (here s at 2 (two at))
data_on_ahead s at (length'.Refused r) (inr e) = rw e (here s at 3 (three at))

pub data_ahead : (padding : Bool) (s : List ℕ) (at n : ℕ) → AtLeast s at (data_past padding s at n)
unfolding data_past
data_ahead padding s at n = data_on_ahead s at (length_at padding s at n) (length_fits padding s at n)

pub data_ahead_at : (padding : Bool) (s : List ℕ) (at n : ℕ) (p : Passed) → data_past padding s at n ≡ p → AtLeast s at p
data_ahead_at padding s at n p e = subst (AtLeast s at) e (data_ahead padding s at n)

-- ---- one object

-- from a place within the input, further on
further : (s : List ℕ) (at e : ℕ) (r : Passed) → at < e → e ≤ length s → Ahead s e r → Ahead s at r
further s at e (To x) h l a = omega arith
further s at e (Refused r) h l a = (omega arith, λ q. a.1 l, a.2)

data_further : (s : List ℕ) (at from : ℕ) (p : Passed) → at < from → from ≤ length s → AtLeast s from p → Ahead s at p
data_further s at from (To e) h l w = let x = w.1 l in omega arith
data_further s at from (Refused r) h l w = (omega arith, λ q. w.1 l, w.2)

and_on_ahead : (s : List ℕ) (at from : ℕ) (p : Passed) (go : ℕ → Passed) → at < from → from ≤ length s → AtLeast s from p → ((e : ℕ) → Ahead s e (go e)) → Ahead s at (and_on p go)
and_on_ahead s at from (To e) go h l w f = let x = w.1 l in further s at e (go e) (omega arith) x (f e)
and_on_ahead s at from (Refused r) go h l w f = (omega arith, λ q. w.1 l, w.2)

object_by_ahead : (padding : Bool) (inside : ℕ → Passed → Passed) (s : List ℕ) (at : ℕ) (h : ReadHeader) → Fits at (length s - at) h
    → ((k from : ℕ) (p : Passed) → at < from → from ≤ length s → AtLeast s from p → Ahead s at (inside k p)) → Ahead s at (object_by padding inside s at h)
object_by_ahead padding inside s at (header.Refused r) w f = rw w (here s at 2 (two at))
object_by_ahead padding inside s at (header.End k u) w f = here s at 4 (four at)
object_by_ahead padding inside s at (header.Start k c n u) w f =
    let a : at < at + u = omega arith in
    let b : at + u ≤ length s = omega arith in
    pick_all (Ahead s at) c _ _ (λ t. f k (at + u) (data_past padding s (at + u) n) a b (data_ahead padding s (at + u) n))
    (λ t. data_further s at (at + u) (data_past padding s (at + u) n) a b (data_ahead padding s (at + u) n))

-- ---- a run

abbrev AheadTurn : List ℕ → ℕ → Turn ℕ Passed → Type 0
AheadTurn s at (more e) = (at < e) × (e ≤ length s)
AheadTurn s at (done r) = Ahead s at r

onward_ahead : (s : List ℕ) (at : ℕ) (r : Passed) → Ahead s at r → AheadTurn s at (onward r)
onward_ahead s at (To e) a = a
onward_ahead s at (Refused r) a = a

after_ahead : (s : List ℕ) (at : ℕ) (t : Turn ℕ Passed) (go : ℕ → Passed) → AheadTurn s at t → ((e : ℕ) → t ≡ more e → Ahead s e (go e)) → Ahead s at (after go t)
after_ahead s at (more e) go a f = further s at e (go e) a.0 a.1 (f e refl)
after_ahead s at (done r) go a f = a

ahead_falls : (s : List ℕ) (at : ℕ) (t : Turn ℕ Passed) → AheadTurn s at t → Falls (λ i. length s - i) at t
ahead_falls s at (more e) a = omega arith
ahead_falls s at (done r) a = tt

module _ (s : List ℕ) (object : ℕ → Passed) (kind : ℕ) (ahead : (i : ℕ) → Ahead s i (object i)) where
  turn_ahead : (i : ℕ) (h : ReadHeader) → Fits i (length s - i) h → AheadTurn s i (run_turn object kind i h)
  turn_ahead i (header.Refused r) w = rw w (here s i 2 (two i))
  turn_ahead i (header.End k u) w = pick_all (Ahead s i) (eqb k kind) (To (i + u)) (Refused (fault_at 4 i)) (λ t. omega arith) (λ t. here s i 4 (four i))
  turn_ahead i (header.Start k c n u) w = onward_ahead s i (object i) (ahead i)

  pub falls : (i : ℕ) → Falls (λ j. length s - j) i (run_turn object kind i (header_at s i))
  falls i = ahead_falls s i (run_turn object kind i (header_at s i)) (turn_ahead i (header_at s i) (header_fits s i))

  pub run_of_lem : (i : ℕ) (t : Turn ℕ Passed) → run_turn object kind i (header_at s i) ≡ t → run_of object s kind i ≡ after (λ j. run_of object s kind j) t
  run_of_lem i t e = iterate_at (λ j. run_turn object kind j (header_at s j)) (λ j. length s - j) (Refused (fault_at 0 0)) falls i t e

  pub run_of_ahead : (i : ℕ) → Ahead s i (run_of object s kind i)
  run_of_ahead =
      iterate_ind (λ j. run_turn object kind j (header_at s j)) (λ j. length s - j) (Refused (fault_at 0 0)) falls (λ i. Ahead s i (run_of object s kind i))
      (λ i f. subst (Ahead s i) (sym (run_of_lem i (run_turn object kind i (header_at s i)) refl))
      (after_ahead s i (run_turn object kind i (header_at s i)) (λ j. run_of object s kind j) (turn_ahead i (header_at s i) (header_fits s i)) f))

-- ---- both, over the depth

pub object_d_ahead : (padding : Bool) (d : ℕ) (s : List ℕ) (at : ℕ) → Ahead s at (object_d padding d s at)
unfolding object_d
object_d_ahead padding zero s at =
    object_by_ahead padding (λ k p. Refused (fault_at 6 at)) s at (header_at s at) (header_fits s at) (λ k from p h l w. here s at 6 (six at))
object_d_ahead padding (suc d) s at =
    object_by_ahead padding (λ k p. and_on p (λ e. run_of (λ i. object_d padding d s i) s k e)) s at (header_at s at) (header_fits s at)
    (λ k from p h l w. and_on_ahead s at from p (λ e. run_of (λ i. object_d padding d s i) s k e) h l w (run_of_ahead s (λ i. object_d padding d s i) k (λ i. object_d_ahead padding d s i)))

pub object_ahead : (padding : Bool) (s : List ℕ) (at d : ℕ) → Ahead s at (object_at padding s at d)
unfolding object_at
object_ahead padding s at d = object_d_ahead padding d s at

pub object_next : (padding : Bool) (s : List ℕ) (at d e : ℕ) → object_at padding s at d ≡ To e → (at < e) × (e ≤ length s)
object_next padding s at d e q = subst (Ahead s at) q (object_ahead padding s at d)

pub run_ahead : (padding : Bool) (s : List ℕ) (at d kind : ℕ) → Ahead s at (run_at padding s at d kind)
unfolding run_at
run_ahead padding s at d kind = run_of_ahead s (λ i. object_at padding s i d) kind (λ i. object_ahead padding s i d) at

pub run_next : (padding : Bool) (s : List ℕ) (at d kind e : ℕ) → run_at padding s at d kind ≡ To e → (at < e) × (e ≤ length s)
run_next padding s at d kind e q = subst (Ahead s at) q (run_ahead padding s at d kind)

-- ---- the equations, at a header that is known

-- an object
abbrev pub object_step : Bool → List ℕ → ℕ → ℕ → ReadHeader → Passed
object_step padding s at d h = object_by padding (λ k p. pick (eqb d 0) (Refused (fault_at 6 at)) (and_on p (λ e. run_at padding s e (d - 1) k))) s at h

object_eq : (padding : Bool) (s : List ℕ) (at d : ℕ) (h : ReadHeader) → header_at s at ≡ h → object_d padding d s at ≡ object_step padding s at d h
unfolding object_d run_at object_at
object_eq padding s at zero h e = ap (λ (x : ReadHeader). object_by padding (λ k p. Refused (fault_at 6 at)) s at x) e
object_eq padding s at (suc d) h e =
    ap (λ (x : ReadHeader). object_by padding (λ k p. and_on p (λ e. run_of (λ i. object_d padding d s i) s k e)) s at x) e
    ∙ simp (eqb-suc-zero d, sub-one)

pub object_at_lem : (padding : Bool) (s : List ℕ) (at d : ℕ) (h : ReadHeader) → header_at s at ≡ h → object_at padding s at d ≡ object_step padding s at d h
unfolding object_at
object_at_lem padding s at d h e = object_eq padding s at d h e

-- a run
pub run_at_lem : (padding : Bool) (s : List ℕ) (at d kind : ℕ) (h : ReadHeader) → header_at s at ≡ h
    → run_at padding s at d kind ≡ after (λ i. run_at padding s i d kind) (run_turn (λ i. object_at padding s i d) kind at h)
unfolding run_at
run_at_lem padding s at d kind h e =
    run_of_lem s (λ i. object_at padding s i d) kind (λ i. object_ahead padding s i d) at (run_turn (λ i. object_at padding s i d) kind at h)
    (ap (λ (x : ReadHeader). run_turn (λ i. object_at padding s i d) kind at x) e)

-- a run that begins with an object is that object and then a run
pub run_start : (padding : Bool) (s : List ℕ) (at d kind k : ℕ) (c : Bool) (n u : ℕ) → header_at s at ≡ header.Start k c n u → (r : Passed) → object_at padding s at d ≡ r
    → run_at padding s at d kind ≡ after (λ i. run_at padding s i d kind) (onward r)
run_start padding s at d kind k c n u q r o =
    run_at_lem padding s at d kind (header.Start k c n u) q ∙ ap (λ (x : Passed). after (λ i. run_at padding s i d kind) (onward x)) o
