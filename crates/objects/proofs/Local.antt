-- Its own bytes: what was read, up to the place behind it, reads the same wherever these bytes stand, whatever is in front of
-- them and behind.
-- Assumes nothing.
use mathlib.Core.Path.{◌≡◌, refl, sym, ap, ◌∙◌}
use mathlib.Core.Bool.{Bool, true, false}
use mathlib.Core.Logic.{◌≢◌}
use mathlib.Core.List.{List}
use Prim.Native.Nat.{ℕ, ◌+◌, ◌-◌, ◌%◌, ◌≤◌, ◌<◌}
use native.Mathlib.Omega.{arith}
use lib.ListN.{length, get_or, take, drop, length-drop}
use lib.Dec.{eqb}
use borrow.Author.Tests.{lt-ltb, le-ltb, eq-eqb, ne_eqb}
use Rattle.laws.specs.Pick.{pick}
use Rattle.laws.specs.Bytes.{le}
use Rattle.laws.proofs.Cases.{by_lt, by_eq, impossible}
use Rattle.laws.proofs.Parts.{same_first}
use Rattle.numbers.specs.Refusals.{fault_at}
use Rattle.numbers.specs.Compact.{compact_for}
use Rattle.numbers.specs.Results.Compact.{Compact}
use Rattle.numbers.specs.Results.Compact as compact
use Rattle.laws.proofs.Agreement.{Agree, Same, same_less, same_behind}
use Rattle.numbers.proofs.OwnBytes.{compact_for_own}
use Rattle.objects.specs.Header.{start_of, end_of, sized, header_of, header_at, escape, length_on, length_at}
use Rattle.objects.specs.Nesting.{data_on, data_past, object_at, run_at}
use Rattle.objects.specs.Results.Header.{End, ReadHeader, Refused, Start}
use Rattle.objects.specs.Results.Length.{Is, Length}
use Rattle.objects.specs.Results.Length as length'
use Rattle.objects.specs.Results.Passed.{Passed, To}
use Rattle.objects.proofs.HeaderLaws.{header_fits_at, compact_fits, length_fits_at}
use Rattle.objects.proofs.Ahead.{data_ahead_at, object_next, run_next}
use Rattle.objects.proofs.Rules.{no_place, object_plain, object_compound, run_end, run_object, Kept, object_ind, run_ind}

-- ---- the header

-- the bytes used: 0 for none
abbrev used : ReadHeader → ℕ
used (Start k c n u) = u
used (End k u) = u
used (Refused r) = 0

sized_own : (at at' n : ℕ) (form : ℕ → ℕ → ReadHeader) (x y : List ℕ) (h : ReadHeader) → ((w : ℕ) → used (form n w) ≡ n) → 0 < used h
    → Agree x y (used h) → sized at n form x ≡ h → sized at' n form y ≡ h
unfolding sized
sized_own at at' n form x y h f p a e =
    by_lt (length x) n
    (λ l. let z : Refused (fault_at 2 at) ≡ h = rw (lt-ltb _ _ l) at e in absurd (omega (arith, ap used z)))
    (λ l.
    let z : form n (le (take n x)) ≡ h = rw (le-ltb _ _ l) at e in
    let q : used h ≡ n = sym (ap used z) ∙ f (le (take n x)) in
    let b : Agree x y n = rw q at a in
    let m : n ≤ length y = b.long in
    rw (le-ltb _ _ m, ← b.same) z)

start_own : (at at' n span : ℕ) (x y : List ℕ) (h : ReadHeader) → 0 < used h → Agree x y (used h) → sized at n (start_of span) x ≡ h
    → sized at' n (start_of span) y ≡ h
unfolding start_of
start_own at at' n span x y h = sized_own at at' n (start_of span) x y h (λ w. refl)

end_own : (at at' n : ℕ) (x y : List ℕ) (h : ReadHeader) → 0 < used h → Agree x y (used h) → sized at n end_of x ≡ h → sized at' n end_of y ≡ h
unfolding end_of
end_own at at' n x y h = sized_own at at' n end_of x y h (λ w. refl)

-- a choice by one test
pick_own : (b : Bool) (x y x' y' h : ReadHeader) → (x ≡ h → x' ≡ h) → (y ≡ h → y' ≡ h) → pick b x y ≡ h → pick b x' y' ≡ h
pick_own true x y x' y' h f g = f
pick_own false x y x' y' h f g = g

header_of_own : (at at' : ℕ) (x y : List ℕ) (h : ReadHeader) → 0 < used h → Agree x y (used h) → header_of at x ≡ h → header_of at' y ≡ h
unfolding header_of
header_of_own at at' x y h p a e =
    let s : get_or y 0 0 ≡ get_or x 0 0 = sym (same_first x y (used h) p a.same) in
    let m : length y ≢ 0 = λ z. omega (arith, a.long) in
    by_eq (length x) 0
    (λ z. let r : Refused (fault_at 2 at) ≡ h = rw (eq-eqb _ _ z) at e in absurd (omega (arith, ap used r)))
    (λ z.
    rw (ne_eqb _ _ m, s)
    (pick_own (eqb (get_or x 0 0 % 4) 0) _ _ _ _ h (start_own at at' 2 64 x y h p a)
    (pick_own (eqb (get_or x 0 0 % 4) 1) _ _ _ _ h (end_own at at' 1 x y h p a)
    (pick_own (eqb (get_or x 0 0 % 4) 2) _ _ _ _ h (start_own at at' 4 16384 x y h p a) (end_own at at' 2 x y h p a)))
    (rw (ne_eqb _ _ z) at e)))

module _ (s : List ℕ) (p : ℕ) (t : List ℕ) (p' : ℕ) where
  header_own : (h : ReadHeader) → header_at s p ≡ h → 0 < used h → Same s p t p' (used h) → header_at t p' ≡ h
  unfolding header_at
  header_own h e l a = header_of_own p p' (drop p s) (drop p' t) h l a e

  pub start_local : (k : ℕ) (c : Bool) (n u : ℕ) → header_at s p ≡ Start k c n u → Same s p t p' u → header_at t p' ≡ Start k c n u
  start_local k c n u e a = header_own (Start k c n u) e (header_fits_at s p (Start k c n u) e).0 a

  pub end_local : (k u : ℕ) → header_at s p ≡ End k u → Same s p t p' u → header_at t p' ≡ End k u
  end_local k u e a = header_own (End k u) e (header_fits_at s p (End k u) e).0 a
  -- ---- the true length, and the data

module _ (padding : Bool) (s : List ℕ) (p : ℕ) (t : List ℕ) (p' : ℕ) where
  length_on_local : (v m : ℕ) (r : Compact) → compact_for padding (drop p s) ≡ r → Same s p t p' m → length_on p r ≡ Is v (p + m)
      → length_on p' (compact_for padding (drop p' t)) ≡ Is v (p' + m)
  length_on_local v m (compact.Value w i padded) c a e =
      let x : w ≡ v = grind arith in
      let q : p + i ≡ p + m = grind arith in
      let z : m ≡ i = omega arith in
      let b : Same s p t p' i = rw z at a in
      rw (compact_for_own padding (drop p s) (drop p' t) w i padded c (compact_fits padding s p w i padded c).0 b, x, z)
  length_on_local v m (compact.Refused r) c a e = impossible (cc)

  pub length_local : (n v m : ℕ) → length_at padding s p n ≡ Is v (p + m) → Same s p t p' m → length_at padding t p' n ≡ Is v (p' + m)
  unfolding length_at
  length_local n v m e a =
      by_eq n escape
      (λ q. rw (eq-eqb _ _ q) (length_on_local v m (compact_for padding (drop p s)) refl a (rw (eq-eqb _ _ q) at e)))
      (λ q.
      let z : Is n p ≡ Is v (p + m) = rw (ne_eqb _ _ q) at e in
      let x : n ≡ v = grind arith in
      let y : p ≡ p + m = grind arith in
      let i : p' ≡ p' + m = omega arith in
      rw (ne_eqb _ _ q) (ap (λ (k : ℕ). Is k p') x ∙ ap (λ (k : ℕ). Is v k) i))

  data_on_local : (n e : ℕ) (l : Length) → length_at padding s p n ≡ l → data_on s l ≡ To e → Same s p t p' (e - p)
      → data_on t (length_at padding t p' n) ≡ To (p' + (e - p))
  data_on_local n e (Is v from) l q a =
      let w = length_fits_at padding s p n (Is v from) l in
      by_lt (length s - from) v
      (λ h. absurd (no_place (rw (lt-ltb _ _ h) at q)))
      (λ h.
      let z : To (from + v) ≡ To e = rw (le-ltb _ _ h) at q in
      let y : from + v ≡ e = cc in
      let i : p + (from - p) ≡ from = omega arith in
      let b = length_local n v (from - p) (rw i l) (same_less s p t p' (e - p) (from - p) (omega arith) a) in
      let m : v ≤ length t - (p' + (from - p)) = omega (arith, a.long, length-drop p' t) in
      let o : p' + (from - p) + v ≡ p' + (e - p) = omega arith in
      rw (b, le-ltb _ _ m, o))
  data_on_local n e (length'.Refused r) l q a = absurd (no_place q)

  data_local : (n e : ℕ) → data_past padding s p n ≡ To e → Same s p t p' (e - p) → data_past padding t p' n ≡ To (p' + (e - p))
  unfolding data_past
  data_local n e q a = data_on_local n e (length_at padding s p n) refl q a

-- ---- objects and runs

-- the data is at or behind its header
data_next : (padding : Bool) (s : List ℕ) (at n e : ℕ) → data_past padding s at n ≡ To e → at ≤ e
data_next padding s at n e q = (data_ahead_at padding s at n (To e) q).0

abbrev ObjectLocal : Bool → List ℕ → List ℕ → ℕ → ℕ → ℕ → Type 0
ObjectLocal padding s t at d e = (at' : ℕ) → Same s at t at' (e - at) → object_at padding t at' d ≡ To (at' + (e - at))

abbrev RunLocal : Bool → List ℕ → List ℕ → ℕ → ℕ → ℕ → ℕ → Type 0
RunLocal padding s t at d kind e = (at' : ℕ) → Same s at t at' (e - at) → run_at padding t at' d kind ≡ To (at' + (e - at))

-- where a header and its data stand in t too
headed : (padding : Bool) (s t : List ℕ) (at k : ℕ) (c : Bool) (n u e at' : ℕ) → header_at s at ≡ Start k c n u → data_past padding s (at + u) n ≡ To e
    → Same s at t at' (e - at) → (header_at t at' ≡ Start k c n u) × (data_past padding t (at' + u) n ≡ To (at' + (e - at)))
headed padding s t at k c n u e at' h q a =
    let l = data_next padding s (at + u) n e q in
    let i : at + u - at ≡ u = omega arith in
    let b : Same s (at + u) t (at' + u) (e - (at + u)) = rw i at (same_behind s at t at' (at + u) e (omega arith) l a) in (
      start_local s at t at' k c n u h (same_less s at t at' (e - at) u (omega arith) a),
      data_local padding s (at + u) t (at' + u) n e q b ∙ ap (λ (m : ℕ). To m) (omega arith),
    )

-- one part up to m, and what follows it up to e
module _ (s : List ℕ) (at : ℕ) (t : List ℕ) (at' m e : ℕ) (l : at ≤ m) (h : m < e) (a : Same s at t at' (e - at)) where
  front : Same s at t at' (m - at)
  front = same_less s at t at' (e - at) (m - at) (omega arith) a

  rest : (run : ℕ → Passed) → ((i : ℕ) → Same s m t i (e - m) → run i ≡ To (i + (e - m))) → run (at' + (m - at)) ≡ To (at' + (e - at))
  rest run f = f (at' + (m - at)) (same_behind s at t at' m e l (omega arith) a) ∙ ap (λ (i : ℕ). To i) (omega arith)

local : (padding : Bool) (s t : List ℕ) → Kept padding s (ObjectLocal padding s t) (RunLocal padding s t)
local padding s t =
    record {
      plain = λ at d k n u e h q at' a. let w = headed padding s t at k false n u e at' h q a in object_plain padding t at' d k n u w.0 ∙ w.1;
      compound = λ at d k n u m e h q r f at' a.
          let l : at ≤ m = let x = data_next padding s (at + u) n m q in omega arith in
          let i = (run_next padding s m d k e r).0 in
          let w = headed padding s t at k true n u m at' h q (front s at t at' m e l i a) in
          object_compound padding t at' d k n u (at' + (m - at)) w.0 w.1 ∙ rest s at t at' m e l i a (λ j. run_at padding t j d k) f;
      end = λ at d kind u h at' a.
          let z : at + u - at ≡ u = omega arith in
          rw z (run_end padding t at' d kind u (end_local s at t at' kind u h (rw z at a)));
      object = λ at d kind m e o g r f at' a.
          let l : at ≤ m = let x = object_next padding s at d m o in omega arith in
          let i = (run_next padding s m d kind e r).0 in
          run_object padding t at' d kind (at' + (m - at)) (g at' (front s at t at' m e l i a)) ∙ rest s at t at' m e l i a (λ j. run_at padding t j d kind) f;
    }

pub object_local : (padding : Bool) (s : List ℕ) (p : ℕ) (t : List ℕ) (p' d n : ℕ) → object_at padding s p d ≡ To (p + n) → Same s p t p' n → object_at padding t p' d ≡ To (p' + n)
object_local padding s p t p' d n q a =
    let z : p + n - p ≡ n = omega arith in
    rw z at (object_ind padding s (ObjectLocal padding s t) (RunLocal padding s t) (local padding s t) d p (p + n) q p' (rw z a))

pub run_local : (padding : Bool) (s : List ℕ) (p : ℕ) (t : List ℕ) (p' d kind n : ℕ) → run_at padding s p d kind ≡ To (p + n) → Same s p t p' n → run_at padding t p' d kind ≡ To (p' + n)
run_local padding s p t p' d kind n q a =
    let z : p + n - p ≡ n = omega arith in
    rw z at (run_ind padding s (ObjectLocal padding s t) (RunLocal padding s t) (local padding s t) d kind p (p + n) q p' (rw z a))
