-- Insertion: its equations, the normal form is kept, one range more is at most one row more, and a range behind all others
-- goes to the end.
-- Assumes nothing.
use mathlib.Core.Path.{◌≡◌, refl, ap, ◌∙◌}
use mathlib.Core.Bool.{true, false}
use mathlib.Core.List.{List, [], ◌∷◌, ◌++◌}
use Prim.Native.Nat.{suc, ◌≤◌}
use native.Mathlib.Omega.{arith}
use lib.ListN.{length}
use Rattle.laws.proofs.Cases.{by_bool}
use Rattle.talk.specs.declared.range.Range.{Range}
use Rattle.talk.specs.Ranges.{is_before, joined, absorb, insert, Before, BeforeAll, Normal}
use Rattle.talk.proofs.Order.{NotBefore, by_before, before_or_not, Meet, meet, before_trans, not_before_later, not_before_join, before_join, join_some}

-- ---- case by case

pub insert_none : (x : Range) → insert x [] ≡ absorb x []
unfolding insert absorb
insert_none x = refl

pub insert_past : (x a : Range) (l : List Range) → is_before a x ≡ true → insert x (a ∷ l) ≡ a ∷ insert x l
unfolding insert
insert_past x a l e = rw e

pub insert_here : (x a : Range) (l : List Range) → is_before a x ≡ false → insert x (a ∷ l) ≡ absorb x (a ∷ l)
unfolding insert
insert_here x a l e = rw e

pub absorb_none : (x : Range) → absorb x [] ≡ x ∷ []
unfolding absorb
absorb_none x = refl

pub absorb_stop : (x a : Range) (l : List Range) → is_before x a ≡ true → absorb x (a ∷ l) ≡ x ∷ a ∷ l
unfolding absorb
absorb_stop x a l e = rw e

pub absorb_join : (x a : Range) (l : List Range) → is_before x a ≡ false → absorb x (a ∷ l) ≡ absorb (joined x a) l
unfolding absorb
absorb_join x a l e = rw e

-- ---- one range more is at most one row more

length_absorb : (r : Range) (l : List Range) → length (absorb r l) ≤ suc (length l)
length_absorb r [] = rw (absorb_none r) (omega arith)
length_absorb r (x ∷ xs) =
    by_bool (is_before r x) (λ e. rw (absorb_stop r x xs e) (omega arith))
    (λ e. rw (absorb_join r x xs e) (let i = length_absorb (joined r x) xs in omega arith))

pub length_insert : (r : Range) (l : List Range) → length (insert r l) ≤ suc (length l)
length_insert r [] = rw (insert_none r, absorb_none r) (omega arith)
length_insert r (x ∷ xs) =
    by_bool (is_before x r) (λ e. rw (insert_past r x xs e) (let i = length_insert r xs in omega arith))
    (λ e. rw (insert_here r x xs e) (length_absorb r (x ∷ xs)))

-- ---- every range of a list

-- none lies before r
unfoldable pub NoneBefore : List Range → Range → Type 0
NoneBefore [] r = Unit {0}
NoneBefore (y ∷ ys) r = NotBefore y r × NoneBefore ys r

pub before_all : {r x : Range} (l : List Range) → Before r x → x.from ≤ x.to → BeforeAll x l → BeforeAll r l
unfolding BeforeAll
before_all [] b v a = tt
before_all (y ∷ ys) b v a = (before_trans b v a.0, before_all ys b v a.1)

pub none_before : {x r : Range} (l : List Range) → NotBefore x r → BeforeAll x l → Normal l → NoneBefore l r
unfolding BeforeAll NoneBefore Normal
none_before [] b a n = tt
none_before (y ∷ ys) b a n = (not_before_later b a.0 n.0, none_before ys b a.1 n.2)

pub none_before_join : {r x : Range} (l : List Range) → Meet r x → BeforeAll x l → Normal l → NoneBefore l (joined r x)
unfolding BeforeAll NoneBefore Normal
none_before_join [] m a n = tt
none_before_join (y ∷ ys) m a n = (not_before_join m a.0 n.0, none_before_join ys m a.1 n.2)

-- ---- the normal form is kept

normal_absorb : (r : Range) (l : List Range) → r.from ≤ r.to → Normal l → NoneBefore l r → Normal (absorb r l)
unfolding Normal BeforeAll NoneBefore
normal_absorb r [] v n b = rw absorb_none (v, tt, tt)
normal_absorb r (x ∷ xs) v n b =
    by_before r x
    (λ a e. rw (absorb_stop r x xs e) (v, (a, before_all xs a n.0 n.1), n))
    (λ m e. rw (absorb_join r x xs e) (normal_absorb (joined r x) xs (join_some r x v) n.2 (none_before_join xs (meet b.0 m) n.1 n.2)))

after_absorb : (z r : Range) (l : List Range) → Before z r → BeforeAll z l → Normal l → NoneBefore l r → BeforeAll z (absorb r l)
unfolding Normal BeforeAll NoneBefore
after_absorb z r [] b a n nb = rw absorb_none (b, tt)
after_absorb z r (x ∷ xs) b a n nb =
    by_before r x
    (λ c e. rw (absorb_stop r x xs e) (b, a))
    (λ m e. rw (absorb_join r x xs e) (after_absorb z (joined r x) xs (before_join b a.0 (meet nb.0 m)) a.1 n.2 (none_before_join xs (meet nb.0 m) n.1 n.2)))

after_insert : (z r : Range) (l : List Range) → Before z r → BeforeAll z l → Normal l → BeforeAll z (insert r l)
unfolding Normal BeforeAll NoneBefore
after_insert z r [] b a n = rw (insert_none, absorb_none) (b, tt)
after_insert z r (x ∷ xs) b a n =
    by_before x r
    (λ c e. rw (insert_past r x xs e) (a.0, after_insert z r xs b a.1 n.2))
    (λ m e. rw (insert_here r x xs e) (after_absorb z r (x ∷ xs) b a n (m, none_before xs m n.1 n.2)))

pub normal_insert : (r : Range) (l : List Range) → r.from ≤ r.to → Normal l → Normal (insert r l)
unfolding Normal BeforeAll NoneBefore
normal_insert r [] v n = rw (insert_none, absorb_none) (v, tt, tt)
normal_insert r (x ∷ xs) v n =
    by_before x r
    (λ b e. rw (insert_past r x xs e) (n.0, after_insert x r xs b n.1 n.2, normal_insert r xs v n.2))
    (λ m e. rw (insert_here r x xs e) (normal_absorb r (x ∷ xs) v n (m, none_before xs m n.1 n.2)))

-- ---- at the end

before_among : {y x : Range} (l rest : List Range) → BeforeAll y (l ++ (x ∷ rest)) → Before y x
unfolding BeforeAll
before_among [] rest a = a.0
before_among (z ∷ zs) rest a = before_among zs rest a.1

-- a range behind all of a list goes to its end: a list in normal form is what inserting its ranges one by one gives
pub insert_last : (l : List Range) (x : Range) (rest : List Range) → Normal (l ++ (x ∷ rest)) → insert x l ≡ l ++ (x ∷ [])
unfolding Normal
insert_last [] x rest n = rw (insert_none, absorb_none)
insert_last (y ∷ ys) x rest n =
    by_before y x
    (λ b e. insert_past x y ys e ∙ ap (λ (l : List Range). y ∷ l) (insert_last ys x rest n.2))
    (λ m e. absurd (before_or_not (before_among ys rest n.1) m))
