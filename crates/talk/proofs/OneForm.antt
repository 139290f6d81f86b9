-- One normal list for each set: two lists in normal form that hold the same are the same.
-- Assumes nothing.
use mathlib.Core.Path.{◌≡◌, refl, sym, ap, ◌∙◌}
use mathlib.Core.Logic.{◌⊎◌, inl, inr, ⊎_elim, ⊎_map}
use mathlib.Core.List.{List, [], ◌∷◌}
use Prim.Native.Nat.{ℕ, ◌+◌, ◌^◌, ◌≤◌, ◌<◌}
use native.Mathlib.Omega.{arith}
use Rattle.talk.specs.declared.range.Range.{Range}
use Rattle.talk.specs.Ranges.{holds, Before, upper_less, lower_less, apart, BeforeAll, Normal, AllFit}
use Rattle.talk.proofs.Order.{Tri, lt, eq, gt, tri, same_range}
use Rattle.talk.proofs.Membership.{In, Has, has_test, test_has}

-- a number that lies behind x, and does not follow it at once
data Beyond (x : Range) (a b n : ℕ) : Type 0 where
  by0 : x.upper < a → Beyond x a b n
  by1 : x.upper ≡ a → x.lower < b → Beyond x a b n
  by2 : x.upper ≡ a → x.lower ≡ b → x.to + 1 < n → Beyond x a b n

beyond_in : {x y : Range} {a b n : ℕ} → Before x y → In y a b n → Beyond x a b n
beyond_in (upper_less h) i = by0 (omega arith)
beyond_in (lower_less e h) i = by1 (omega arith) (omega arith)
beyond_in (apart e f h) i = by2 (omega arith) (omega arith) (omega arith)

beyond : {x : Range} {a b n : ℕ} (l : List Range) → BeforeAll x l → Has l a b n → Beyond x a b n
unfolding BeforeAll Has
beyond [] o h = absurd h
beyond (y ∷ ys) o h = ⊎_elim (λ i. beyond_in o.0 i) (λ k. beyond ys o.1 k) h

-- no number of x lies beyond x
in_beyond : {x : Range} {a b n : ℕ} → In x a b n → Beyond x a b n → ⊥
in_beyond i (by0 h) = omega arith
in_beyond i (by1 e h) = omega arith
in_beyond i (by2 e f h) = omega arith

data Le (x y : Range) : Type 0 where
  le0 : x.upper < y.upper → Le x y
  le1 : x.upper ≡ y.upper → x.lower < y.lower → Le x y
  le2 : x.upper ≡ y.upper → x.lower ≡ y.lower → x.from ≤ y.from → Le x y

-- y's first number lies in x or beyond it, so x does not start behind y
first : {x y : Range} → x.from ≤ x.to → In x y.upper y.lower y.from ⊎ Beyond x y.upper y.lower y.from → Le x y
first v (inl i) = le2 i.same_upper i.same_lower i.above
first v (inr (by0 h)) = le0 h
first v (inr (by1 e h)) = le1 e h
first v (inr (by2 e f h)) = le2 e f (omega arith)

record Start (x y : Range) : Type 0 where
  s0 : x.upper ≡ y.upper
  s1 : x.lower ≡ y.lower
  sf : x.from ≡ y.from

start : {x y : Range} → Le x y → Le y x → Start x y
start (le0 h) (le0 k) = absurd (omega arith)
start (le0 h) (le1 e k) = absurd (omega arith)
start (le0 h) (le2 e f k) = absurd (omega arith)
start (le1 e h) (le0 k) = absurd (omega arith)
start (le1 e h) (le1 f k) = absurd (omega arith)
start (le1 e h) (le2 f g k) = absurd (omega arith)
start (le2 e f h) (le0 k) = absurd (omega arith)
start (le2 e f h) (le1 g k) = absurd (omega arith)
start (le2 e f h) (le2 g i k) = record { s0 = e; s1 = f; sf = omega arith }

-- the number after x's last is not held, so y, which starts where x does, ends no later
last_in : {x : Range} {n : ℕ} → x.to < n → n ≤ x.to + 1 → In x x.upper x.lower n ⊎ Beyond x x.upper x.lower n → ⊥
last_in h k (inl i) = omega arith
last_in h k (inr (by0 l)) = omega arith
last_in h k (inr (by1 e l)) = omega arith
last_in h k (inr (by2 e f l)) = omega arith

ends : {x y : Range} → x.from ≤ x.to → Start x y
    → ((n : ℕ) → In y x.upper x.lower n → In x x.upper x.lower n ⊎ Beyond x x.upper x.lower n) → y.to ≤ x.to
ends {x} {y} v s f = on (tri x.to y.to)
  where
    on : Tri x.to y.to → y.to ≤ x.to
    on (lt h) =
        absurd
        (last_in {x = x} {n = x.to + 1} (omega arith) (omega arith)
        (f (x.to + 1) (record { same_upper = sym s.s0; same_lower = sym s.s1; above = omega arith; below = omega arith })))
    on (eq h) = omega arith
    on (gt h) = omega arith

first_in : (x : Range) → x.from ≤ x.to → In x x.upper x.lower x.from
first_in x v = record { same_upper = refl; same_lower = refl; above = omega arith; below = v }

-- q holds what p holds
unfoldable pub Holds : List Range → List Range → Type 0
Holds p q = (a b n : ℕ) → Has p a b n → Has q a b n

split : {x : Range} {a b n : ℕ} (xs : List Range) → BeforeAll x xs → Has (x ∷ xs) a b n → In x a b n ⊎ Beyond x a b n
unfolding Has
split xs o h = ⊎_map (λ i. i) (λ k. beyond xs o k) h

-- of two lists in form that start alike, the tails hold the same
tails : (x : Range) (xs ys : List Range) → BeforeAll x xs → Holds (x ∷ xs) (x ∷ ys) → Holds xs ys
unfolding Has Holds
tails x xs ys o f a b n h = ⊎_elim (λ i. absurd (in_beyond i (beyond xs o h))) (λ k. k) (f a b n (inr h))

heads : (x y : Range) (xs ys : List Range) → Normal (x ∷ xs) → Normal (y ∷ ys) → Holds (x ∷ xs) (y ∷ ys) → Holds (y ∷ ys) (x ∷ xs) → x ≡ y
unfolding Has Holds Normal
heads x y xs ys o p f g =
    let s : Start x y =
    start (first o.0 (split xs o.1 (g y.upper y.lower y.from (inl (first_in y p.0)))))
    (first p.0 (split ys p.1 (f x.upper x.lower x.from (inl (first_in x o.0))))) in
    let s' : Start y x = record { s0 = sym s.s0; s1 = sym s.s1; sf = sym s.sf } in
    let l : y.to ≤ x.to = ends o.0 s (λ n i. split xs o.1 (g x.upper x.lower n (inl i))) in
    let m : x.to ≤ y.to = ends p.0 s' (λ n i. split ys p.1 (f y.upper y.lower n (inl i))) in
    same_range x y s.s0 s.s1 s.sf (omega arith)

pub canon : (p q : List Range) → Normal p → Normal q → Holds p q → Holds q p → p ≡ q
unfolding Has Holds Normal
canon [] [] o r f g = refl
canon [] (y ∷ ys) o r f g = absurd (g y.upper y.lower y.from (inl (first_in y r.0)))
canon (x ∷ xs) [] o r f g = absurd (f x.upper x.lower x.from (inl (first_in x o.0)))
canon (x ∷ xs) (y ∷ ys) o r f g =
    let e : x ≡ y = heads x y xs ys o r f g in
    let o' : BeforeAll y xs = rw e at o.1 in
    let f' : Holds (y ∷ xs) (y ∷ ys) = rw e at f in
    let g' : Holds (y ∷ ys) (y ∷ xs) = rw e at g in
    rw e (ap (λ (l : List Range). y ∷ l) (canon xs ys o.2 r.2 (tails y xs ys o' f') (tails y ys xs r.1 g')))

-- equal sets have equal normal lists
pub one_form : (p q : List Range) → Normal p → Normal q → ((a b n : ℕ) → holds p a b n ≡ holds q a b n) → p ≡ q
unfolding Holds
one_form p q o r e =
    canon p q o r (λ a b n h. has_test q a b n (sym (e a b n) ∙ test_has p a b n h)) (λ a b n h. has_test p a b n (e a b n ∙ test_has q a b n h))

-- ---- of 64-bit numbers

fits_has : (l : List Range) (a b n : ℕ) → AllFit l → Has l a b n → (a < 2 ^ 64) × (b < 2 ^ 64) × (n < 2 ^ 64)
unfolding AllFit Has
fits_has [] a b n f h = absurd h
fits_has (x ∷ xs) a b n f (inl i) = (omega arith, omega arith, omega arith)
fits_has (x ∷ xs) a b n f (inr h) = fits_has xs a b n f.1 h

-- it is enough to know it of these
pub one_form_fits : (p q : List Range) → Normal p → Normal q → AllFit p → AllFit q
    → ((a b n : ℕ) → a < 2 ^ 64 → b < 2 ^ 64 → n < 2 ^ 64 → holds p a b n ≡ holds q a b n) → p ≡ q
unfolding Holds
one_form_fits p q o r f g e =
    canon p q o r
    (λ a b n h. let u = fits_has p a b n f h in has_test q a b n (sym (e a b n u.0 u.1 u.2) ∙ test_has p a b n h))
    (λ a b n h. let u = fits_has q a b n g h in has_test p a b n (e a b n u.0 u.1 u.2 ∙ test_has q a b n h))
