-- Two runs of bytes that have the same ones in front, or at two places.
-- Assumes nothing.
use mathlib.Core.Path.{◌≡◌, sym, ap, ◌∙◌}
use mathlib.Core.List.{List, ◌++◌}
use Prim.Native.Nat.{ℕ, ◌+◌, ◌-◌, ◌≤◌}
use native.Mathlib.Omega.{arith}
use lib.ListN.{length, take, drop, length-append, length-drop}
use lib.Seq.{take-take, take_at, take-length, drop-drop}
use Rattle.laws.proofs.Parts.{same_part}

-- t has the first n bytes of s
pub record Agree (s t : List ℕ) (n : ℕ) : Type 0 where
  pub long : n ≤ length t
  pub same : take n s ≡ take n t

-- fewer of them
pub agree_less : (s t : List ℕ) (n m : ℕ) → m ≤ n → Agree s t n → Agree s t m
agree_less s t n m l a =
    record {
      long = omega (arith, a.long);
      same = sym (take-take m n s l) ∙ ap (take m) a.same ∙ take-take m n t l;
    }

-- from a place on
pub agree_drop : (s t : List ℕ) (at n : ℕ) → Agree s t (at + n) → Agree (drop at s) (drop at t) n
agree_drop s t at n a =
    record {
      long = omega (arith, a.long, length-drop at t);
      same = same_part s t (at + n) at n (omega arith) a.same;
    }

-- ---- at two places

-- the n bytes of s at p stand in t at p'
abbrev pub Same : List ℕ → ℕ → List ℕ → ℕ → ℕ → Type 0
Same s p t p' n = Agree (drop p s) (drop p' t) n

pub same_less : (s : List ℕ) (p : ℕ) (t : List ℕ) (p' n m : ℕ) → m ≤ n → Same s p t p' n → Same s p t p' m
same_less s p t p' n m l a = agree_less (drop p s) (drop p' t) n m l a

-- from behind the first n of them
pub same_on : (s : List ℕ) (p : ℕ) (t : List ℕ) (p' n m : ℕ) → Same s p t p' (n + m) → Same s (p + n) t (p' + n) m
same_on s p t p' n m a = rw (← drop-drop n p s, ← drop-drop n p' t) (agree_drop (drop p s) (drop p' t) n m a)

-- of those from p to e, from q on
pub same_behind : (s : List ℕ) (p : ℕ) (t : List ℕ) (p' q e : ℕ) → p ≤ q → q ≤ e → Same s p t p' (e - p) → Same s q t (p' + (q - p)) (e - q)
same_behind s p t p' q e l m a =
    let z : e - p ≡ q - p + (e - q) = omega arith in
    let y : p + (q - p) ≡ q = omega arith in
    let b : Same s p t p' (q - p + (e - q)) = rw z at a in
    rw y at (same_on s p t p' (q - p) (e - q) b)

-- as two parts, one of which lies within its input
pub same_of : (s : List ℕ) (p : ℕ) (t : List ℕ) (p' n : ℕ) → take n (drop p' t) ≡ take n (drop p s) → p' + n ≤ length t → Same s p t p' n
same_of s p t p' n e l = record { long = omega (arith, length-drop p' t); same = sym e }

-- set down in front of r
pub same_front : (s : List ℕ) (p n : ℕ) (t : List ℕ) (p' : ℕ) (r : List ℕ) → length (take n (drop p s)) ≡ n → drop p' t ≡ take n (drop p s) ++ r → Same s p t p' n
same_front s p n t p' r l h =
    let w = take n (drop p s) in
    record { long = rw h (omega (arith, length-append w r)); same = sym (take_at w r n l) ∙ ap (take n) (sym h) }

-- all of them
pub same_whole : (w t : List ℕ) (p' : ℕ) (r : List ℕ) → drop p' t ≡ w ++ r → Same w 0 t p' (length w)
same_whole w t p' r h =
    let e : take (length w) w ≡ w = take-length w in
    same_front w 0 (length w) t p' r (ap length e) (h ∙ ap (λ (v : List ℕ). v ++ r) (sym e))
