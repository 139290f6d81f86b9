-- Parts of a slice, as the code takes them: `&s[n..]`, `&s[a..e]`, and `&mut s[n..]` that comes back.
-- Assumes nothing.
use mathlib.Core.Path.{◌≡◌, sym, ap, ◌∙◌}
use mathlib.Core.List.{List, [], ◌∷◌, ◌++◌, append-nil}
use Prim.Native.Nat.{ℕ, zero, suc, ◌+◌, ◌-◌, ◌≤◌, ◌<◌}
use native.Mathlib.Nat.{le_refl, zero-add, suc-add}
use native.Mathlib.Omega.{arith}
use lib.ListN.{length, get_or, take, drop, length-drop, drop_of_length-le}
use lib.Seq.{take_all, take-nil, take-take, length-take-le, get_or-take}
use borrow.Rule.Slice.PartMut.{put_mid}

-- what `&s[n..]` is
pub tail_part : (n : ℕ) (l : List ℕ) → take (length l - n) (drop n l) ≡ drop n l
tail_part n l = take_all (length l - n) (drop n l) (simp length-drop (le_refl (length l - n)))

pub tail_length : (n m : ℕ) (l : List ℕ) → m + n ≤ length l → m ≤ length (take (length l - n) (drop n l))
tail_length n m l h = rw tail_part (rw length-drop (omega arith))

-- how long a part from within is
pub part_length : (a n : ℕ) (l : List ℕ) → a + n ≤ length l → length (take n (drop a l)) ≡ n
part_length a n l h = length-take-le n (drop a l) (rw length-drop (omega arith))

-- what a slice holds after `&mut s[n..]` came back with m
pub mid_tail : (n : ℕ) (l m : List ℕ) → put_mid n (length l - n) l m ≡ take n l ++ m
mid_tail n l m = rw (drop_of_length-le (drop n l) {i = length l - n} (simp length-drop (le_refl (length l - n))), append-nil)

-- a part from within, of the first bytes
pub part_of_take : (a m : ℕ) (l : List ℕ) → drop a (take (a + m) l) ≡ take m (drop a l)
part_of_take zero m l = rw zero-add
part_of_take (suc a) m [] = rw (take-nil (suc a + m), take-nil m)
part_of_take (suc a) m (x ∷ l) = rw suc-add (part_of_take a m l)

-- two runs that agree in their first n elements agree in any part of these
pub same_part : (s t : List ℕ) (n a m : ℕ) → a + m ≤ n → take n s ≡ take n t → take m (drop a s) ≡ take m (drop a t)
same_part s t n a m l e =
    sym (part_of_take a m s)
    ∙ ap (drop a) (sym (take-take (a + m) n s l) ∙ ap (take (a + m)) e ∙ take-take (a + m) n t l)
    ∙ part_of_take a m t

-- two runs that agree in their first n > 0 elements agree in the first
pub same_first : (s t : List ℕ) (n : ℕ) → 0 < n → take n s ≡ take n t → get_or s 0 0 ≡ get_or t 0 0
same_first s t n p e = sym (get_or-take n s 0 0 p) ∙ ap (λ (l : List ℕ). get_or l 0 0) e ∙ get_or-take n t 0 0 p
