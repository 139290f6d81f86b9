-- Bytes laid over a buffer, at its front or at a place: where they fit, how long it stays, and one run behind the other.
-- Assumes nothing.
use mathlib.Core.Path.{◌≡◌, refl, sym, ap, ◌∙◌}
use mathlib.Core.List.{List, [], ◌++◌, append_assoc}
use Prim.Native.Nat.{ℕ, ◌+◌, ◌-◌, ◌≤◌, ◌<◌}
use native.Mathlib.Nat.{zero-add}
use native.Mathlib.Omega.{arith}
use lib.ListN.{length, take, drop, length-drop, length-append, take-append-drop}
use lib.Seq.{drop-drop, take_at, drop_at, length-take-le}
use borrow.Author.Tests.{lt-ltb, le-ltb}
use borrow.Rule.Slice.PartMut.{put_mid}
use Rattle.laws.specs.Placed.{placed, laid, Lays}
use Rattle.laws.proofs.Cases.{by_lt}
use Rattle.laws.proofs.Parts.{tail_part, tail_length, mid_tail}

pub placed_fits : (w s : List ℕ) → length w ≤ length s → placed w s ≡ w ++ drop (length w) s
unfolding placed
placed_fits w s h = simp (le-ltb _ _ h)

pub placed_short : (w s : List ℕ) → length s < length w → placed w s ≡ s
unfolding placed
placed_short w s h = simp (lt-ltb _ _ h)

pub length_placed : (w s : List ℕ) → length (placed w s) ≡ length s
unfolding placed
length_placed w s =
    by_lt (length s) (length w) (λ h. simp (lt-ltb _ _ h))
    (λ h. simp (le-ltb _ _ h, length-append, length-drop) (omega arith))

-- w stands at the front already, and x is laid behind it through `&mut s[n..]`
pub laid_behind : (w x s : List ℕ) (n m : ℕ) → length w ≡ n → take n (w ++ s) ++ (x ++ drop m (drop n (w ++ s))) ≡ (w ++ x) ++ drop m s
laid_behind w x s n m e = rw (take_at w s n e, drop_at w s n e, append_assoc)

-- ---- at a place

-- behind the first part of what was laid
module _ (at : ℕ) (w s : List ℕ) (h : at + length w ≤ length s) where
  to_end : length (take at s ++ w) ≡ at + length w
  to_end = length-append (take at s) w ∙ (let e = length-take-le at s (omega arith) in omega arith)

  pub take_laid : take (at + length w) (laid at w s) ≡ take at s ++ w
  take_laid = rw (← append_assoc) (take_at (take at s ++ w) (drop (at + length w) s) (at + length w) to_end)

  pub drop_laid : drop (at + length w) (laid at w s) ≡ drop (at + length w) s
  drop_laid = rw (← append_assoc) (drop_at (take at s ++ w) (drop (at + length w) s) (at + length w) to_end)

-- x laid behind w
pub laid_then : (at : ℕ) (w x s : List ℕ) → at + length w + length x ≤ length s → laid (at + length w) x (laid at w s) ≡ laid at (w ++ x) s
laid_then at w x s h =
    let p = at + length w in
    let a : take p (laid at w s) ≡ take at s ++ w = take_laid at w s (omega arith) in
    let n : p + length x ≡ at + length (w ++ x) = let e = length-append w x in omega arith in
    let b : drop (p + length x) (laid at w s) ≡ drop (at + length (w ++ x)) s =
    sym (drop-drop (length x) p (laid at w s)) ∙ ap (drop (length x)) (drop_laid at w s (omega arith)) ∙ drop-drop (length x) p s ∙ ap (λ (m : ℕ). drop m s) n in
    rw (a, b) (simp append_assoc)

-- laid at the front, and nothing laid
pub laid_front : (w s : List ℕ) → laid 0 w s ≡ w ++ drop (length w) s
laid_front w s = rw zero-add

pub laid_nothing : (at : ℕ) (s : List ℕ) → laid at [] s ≡ s
laid_nothing at s = let e : at + 0 ≡ at = omega arith in rw e (take-append-drop at s)

-- laid through `&mut s[at..]`
pub laid_put : (at n : ℕ) (w s m : List ℕ) → length w ≡ n → m ≡ w ++ drop n (take (length s - at) (drop at s)) → put_mid at (length s - at) s m ≡ laid at w s
laid_put at n w s m l e = rw (mid_tail, e, tail_part, drop-drop, l)

pub laid_part : (at : ℕ) (w s m : List ℕ) → at + length w ≤ length s → m ≡ placed w (take (length s - at) (drop at s)) → put_mid at (length s - at) s m ≡ laid at w s
laid_part at w s m h e =
    laid_put at (length w) w s m refl
    (e ∙ placed_fits w (take (length s - at) (drop at s)) (tail_length at (length w) s (omega arith)))

pub lays_then : (at : ℕ) (w x s : List ℕ) (p : ℕ) (d : List ℕ) (q : ℕ) (e : List ℕ) → at + length w + length x ≤ length s → Lays at w s p d → Lays p x d q e
    → Lays at (w ++ x) s q e
lays_then at w x s p d q e h f g = (
  let l = length-append w x in let a = f.0 in let b = g.0 in omega arith,
  g.1 ∙ rw (f.0, f.1) (laid_then at w x s h),
)

-- of x and y, that are to be laid, x was laid: y is still to be laid
pub lays_first : (at : ℕ) (w x y s : List ℕ) (p : ℕ) (d whole : List ℕ) → w ≡ x ++ y → at + length w ≤ length s → laid at w s ≡ whole → Lays at x s p d
    → laid p y d ≡ whole
lays_first at w x y s p d whole e h k f =
    rw (f.0, f.1) (laid_then at x y s (let l = length-append x y in let m = ap length e in omega arith)) ∙ sym (ap (λ (v : List ℕ). laid at v s) e) ∙ k
