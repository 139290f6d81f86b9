-- One number put into a list in normal form: it stands alone, or lengthens one range, or joins two ranges into one. So a list of one
-- number more is shorter by one range at most, and the range that is there instead of two keeps their outer ends.
-- Assumes nothing.
use mathlib.Core.Path.{◌≡◌}
use mathlib.Core.List.{List, [], ◌∷◌}
use Prim.Native.Nat.{◌≤◌, ◌<◌}
use native.Mathlib.Omega.{arith}
use lib.ListN.{length}
use Rattle.talk.specs.declared.range.Range.{Range}
use Rattle.talk.specs.Ranges.{joined, absorb, insert, Before, upper_less, lower_less, apart, BeforeAll, Normal}
use Rattle.talk.proofs.Order.{by_before, before_or_not, Meet, meet, not_before_join}
use Rattle.talk.proofs.Insertion.{insert_none, insert_past, insert_here, absorb_none, absorb_stop, absorb_join}

-- how the range r of one number changes a list
pub data OneMore (r : Range) : List Range → List Range → Type 0 where
  alone : (l : List Range) → OneMore r l (r ∷ l)
  lengthens : (x : Range) (l : List Range) → OneMore r (x ∷ l) (joined r x ∷ l)
  bridges : (x y z : Range) (l : List Range) → z.from ≡ x.from → z.to ≡ y.to → OneMore r (x ∷ y ∷ l) (z ∷ l)
  later : (x : Range) {l m : List Range} → OneMore r l m → OneMore r (x ∷ l) (x ∷ m)

-- ---- two that a number joins: it lies between them, and what they become ends where the second does

record Bridged (x y z : Range) : Type 0 where
  same_upper : z.upper ≡ y.upper
  same_lower : z.lower ≡ y.lower
  from_first : z.from ≡ x.from
  to_second : z.to ≡ y.to

bridged : {r x y : Range} → r.from ≡ r.to → x.from ≤ x.to → y.from ≤ y.to → Meet r x → Before x y → Meet (joined r x) y → Bridged x y (joined (joined r x) y)
unfolding joined
bridged e v w m (upper_less h) k = absurd (let a = m.same_upper in let b = k.same_upper in omega arith)
bridged e v w m (lower_less f h) k = absurd (let a = m.same_lower in let b = k.same_lower in omega arith)
bridged e v w m (apart f g h) k =
    let a = m.left in
    let b = k.right in
    record { same_upper = k.same_upper; same_lower = k.same_lower; from_first = omega arith; to_second = omega arith }

-- so it lies before all that the second lies before
bridged_before : {x y z w : Range} → Bridged x y z → Before y w → Before z w
bridged_before b (upper_less h) = let e = b.same_upper in upper_less (omega arith)
bridged_before b (lower_less e h) = let f = b.same_upper in let g = b.same_lower in lower_less (omega arith) (omega arith)
bridged_before b (apart e f h) = let g = b.same_upper in let i = b.same_lower in let k = b.to_second in apart (omega arith) (omega arith) (omega arith)

absorb_bridged : {x y : Range} (z : Range) (l : List Range) → Bridged x y z → BeforeAll y l → absorb z l ≡ z ∷ l
unfolding BeforeAll
absorb_bridged z [] b a = absorb_none z
absorb_bridged z (w ∷ ws) b a = by_before z w (λ c e. absorb_stop z w ws e) (λ m e. absurd (before_or_not (bridged_before b a.0) m))

-- ---- the number in its place

absorb_second : (r x : Range) (l : List Range) → r.from ≡ r.to → Meet r x → Normal (x ∷ l) → OneMore r (x ∷ l) (absorb (joined r x) l)
unfolding Normal BeforeAll
absorb_second r x [] v m n = rw absorb_none (lengthens x [])
absorb_second r x (y ∷ ys) v m n =
    by_before (joined r x) y
    (λ b e. rw (absorb_stop (joined r x) y ys e) (lengthens x (y ∷ ys)))
    (λ k e.
    let b = bridged v n.0 n.2.0 m n.1.0 (meet (not_before_join m n.1.0 n.2.0) k) in
    let z = joined (joined r x) y in
    rw (absorb_join (joined r x) y ys e, absorb_bridged z ys b n.2.1) (bridges x y z ys b.from_first b.to_second))

pub one_more : (r : Range) (l : List Range) → r.from ≡ r.to → Normal l → OneMore r l (insert r l)
unfolding Normal
one_more r [] v n = rw (insert_none, absorb_none) (alone [])
one_more r (x ∷ xs) v n =
    by_before x r
    (λ b e. rw (insert_past r x xs e) (later x (one_more r xs v n.2)))
    (λ m e.
    rw (insert_here r x xs e)
    (by_before r x
    (λ b f. rw (absorb_stop r x xs f) (alone (x ∷ xs)))
    (λ k f. rw (absorb_join r x xs f) (absorb_second r x xs v (meet m k) n))))

-- then the list holds a range
pub some_then : {r : Range} {l m : List Range} → OneMore r l m → 0 < length m
some_then (alone l) = omega arith
some_then (lengthens x l) = omega arith
some_then (bridges x y z l e f) = omega arith
some_then (later x o) = omega arith
