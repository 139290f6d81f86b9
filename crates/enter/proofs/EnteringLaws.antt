-- What "an id already held is replaced, new ones follow at the end" (document 02, Q-1) comes to, over any lists: how many there are then,
-- what stays, what is replaced, that no id stands twice, and that everything that comes is there and nothing else is new.
-- Assumes nothing.
use mathlib.Core.Path.{◌≡◌, refl, sym, ap, ◌∙◌}
use mathlib.Core.Bool.{Bool, true, false, not}
use mathlib.Core.List.Memᴰ.{append_cases as in_either}
use mathlib.Core.List.Memᴰ.{append_left as in_front}
use mathlib.Core.List.Memᴰ.{append_right as in_rest}
use mathlib.Core.List.Memᴰ.{cases_cons as first-or-later}
use mathlib.Core.List.Memᴰ.{head as here}
use mathlib.Core.List.Memᴰ.{map as in_map}
use mathlib.Core.List.Memᴰ.{not-nil as none_in}
use mathlib.Core.List.Memᴰ.{of_map}
use mathlib.Core.List.Memᴰ.{tail as later}
use mathlib.Core.List.{List, [], ◌∷◌, ◌++◌, map, map-append, append-nil, Memᴰ as In}
use mathlib.Core.Logic.{◌⊎◌, inl, inr, ⊎_elim}
use Prim.Native.Nat.{ℕ, ◌+◌, ◌≤◌, ◌<◌}
use native.Mathlib.Omega.{arith}
use lib.ListN.{length, get_or, length-append, length-map, get_or-append, get_or-map}
use Rattle.laws.specs.Once.{seen, once}
use Rattle.laws.proofs.Cases.{by_bool, impossible}
use Rattle.talk.specs.Wanted.{keep}
use Rattle.talk.proofs.Delivery.{length_keep, once_keep}
use Rattle.store.specs.Element.{same_key}
use Rattle.store.specs.declared.element.Key.{Key}
use Rattle.enter.specs.Entering.{Kept, kept_id, replaced_by, new_to, enter}
use Rattle.store.proofs.Rows.{same_equal}
use Rattle.enter.proofs.Keys.{once_both, seen_member, member_seen, once_one}

-- an id is named: one of those that come has it
abbrev pub named : List Kept → Kept → Bool
named come x = seen same_key x.id (map kept_id come)

-- ---- how many there are

new_kept : (there come : List Kept) → new_to there come ≡ keep (λ y. not (named there y)) come
unfolding new_to keep
new_kept there [] = refl
new_kept there (y ∷ come) = by_bool (named there y) (λ e. rw (e, new_kept there come)) (λ e. rw (e, new_kept there come))

pub length_enter : (there come : List Kept) → length (enter there come) ≡ length there + length (new_to there come)
unfolding enter
length_enter there come =
    let a = length-append (map (replaced_by come) there) (new_to there come) in let b = length-map there (replaced_by come) in omega arith

pub length_most : (there come : List Kept) → length (enter there come) ≤ length there + length come
length_most there come =
    let a = length_enter there come in
    let b = ap length (new_kept there come) in
    let c = length_keep (λ y. not (named there y)) come in
    omega arith

-- ---- what is not named stays

pub unnamed_same : (come : List Kept) (x : Kept) → named come x ≡ false → replaced_by come x ≡ x
unfolding replaced_by seen
unnamed_same [] x h = refl
unnamed_same (y ∷ come) x h =
    by_bool (same_key x.id y.id) (λ e. impossible (let z : true ≡ false = rw e at h in cc)) (λ e. rw e (unnamed_same come x (rw e at h)))

-- each stands, itself or replaced, in the position in which it stood
pub positions_stay : (there come : List Kept) (i : ℕ) (d : Kept) → i < length there → get_or (enter there come) i (replaced_by come d) ≡ replaced_by come (get_or there i d)
unfolding enter
positions_stay there come i d h =
    let l = length-map there (replaced_by come) in
    get_or-append (map (replaced_by come) there) (new_to there come) (replaced_by come d) i (omega arith) ∙ get_or-map (replaced_by come) there i d

pub unnamed_stays : (there come : List Kept) (x : Kept) → In x there → named come x ≡ false → In x (enter there come)
unfolding enter
unnamed_stays there come x m h =
    in_front (new_to there come) (rw (unnamed_same come x h) at (in_map (replaced_by come) m))

-- ---- what is named is replaced

pub named_replaced : (come : List Kept) (x : Kept) → named come x ≡ true → In (replaced_by come x) come
unfolding replaced_by seen
named_replaced [] x h = impossible (cc)
named_replaced (y ∷ come) x h =
    by_bool (same_key x.id y.id) (λ e. rw e (here refl)) (λ e. rw e (later (named_replaced come x (rw e at h))))

pub replaced_id : (come : List Kept) (x : Kept) → (replaced_by come x).id ≡ x.id
unfolding replaced_by
replaced_id [] x = refl
replaced_id (y ∷ come) x =
    by_bool (same_key x.id y.id) (λ e. rw e (sym (same_equal x.id y.id e))) (λ e. rw e (replaced_id come x))

-- so the ids are those that were there, position by position
pub replaced_ids : (there come : List Kept) → map kept_id (map (replaced_by come) there) ≡ map kept_id there
replaced_ids [] come = refl
replaced_ids (x ∷ there) come = rw (replaced_id come x, replaced_ids there come)

-- where none that comes has the id of another, it is replaced by the one that has its id
pub replaced_is : (come : List Kept) (x y : Kept) → once same_key (map kept_id come) ≡ true → In y come → x.id ≡ y.id → replaced_by come x ≡ y
replaced_is come x y o m e =
    let n : named come x ≡ true = ap (λ (k : Key). seen same_key k (map kept_id come)) e ∙ seen_member kept_id come m in
    once_one kept_id come o (named_replaced come x n) m (replaced_id come x ∙ e)

-- ---- no id twice

pub enter_ids : (there come : List Kept) → map kept_id (enter there come) ≡ map kept_id there ++ map kept_id (new_to there come)
unfolding enter
enter_ids there come =
    map-append kept_id (map (replaced_by come) there) (new_to there come) ∙ ap (λ (l : List Key). l ++ map kept_id (new_to there come)) (replaced_ids there come)

-- a new one has no id that was there
new_unseen : (there come : List Kept) (k : Key) → seen same_key k (map kept_id there) ≡ true → seen same_key k (map kept_id (new_to there come)) ≡ false
unfolding new_to seen
new_unseen there [] k h = refl
new_unseen there (y ∷ come) k h =
    by_bool (named there y) (λ e. rw e (new_unseen there come k h))
    (λ e.
    by_bool (same_key k y.id)
    (λ f. impossible (let z = ap (λ (j : Key). seen same_key j (map kept_id there)) (same_equal k y.id f) in cc))
    (λ f. rw (e, f) (new_unseen there come k h)))

pub ids_once : (there come : List Kept) → once same_key (map kept_id there) ≡ true → once same_key (map kept_id come) ≡ true → once same_key (map kept_id (enter there come)) ≡ true
ids_once there come a b =
    rw (enter_ids there come)
    (once_both (map kept_id there) (map kept_id (new_to there come)) a (rw (new_kept there come) (once_keep same_key kept_id (λ y. not (named there y)) come b)) (new_unseen there come))

-- ---- everything that comes is there, and nothing else is new

new_in : (there come : List Kept) (y : Kept) → In y come → named there y ≡ false → In y (new_to there come)
unfolding new_to
new_in there [] y m h = absurd (none_in m)
new_in there (z ∷ come) y m h =
    ⊎_elim
    (λ p. let e : named there z ≡ false = rw p at h in rw e (here p))
    (λ n. by_bool (named there z) (λ e. rw e (new_in there come y n h)) (λ e. rw e (later (new_in there come y n h))))
    (first-or-later m)

in_new : (there come : List Kept) (y : Kept) → In y (new_to there come) → In y come
unfolding new_to
in_new there [] y m = m
in_new there (z ∷ come) y m =
    by_bool (named there z) (λ e. later (in_new there come y (rw e at m)))
    (λ e. ⊎_elim here (λ n. later (in_new there come y n)) (first-or-later (rw e at m)))

pub all_come : (there come : List Kept) → once same_key (map kept_id come) ≡ true → (y : Kept) → In y come → In y (enter there come)
unfolding enter
all_come there come o y m =
    by_bool (named there y)
    (λ e.
    let r = member_seen kept_id y.id there e in
    in_front (new_to there come) (rw (replaced_is come r.0 y o m r.2) at (in_map (replaced_by come) r.1)))
    (λ e. in_rest (map (replaced_by come) there) (new_in there come y m e))

pub nothing_else : (there come : List Kept) (y : Kept) → In y (enter there come) → (In y there × (named come y ≡ false)) ⊎ In y come
unfolding enter
nothing_else there come y m =
    ⊎_elim
    (λ n.
    let r = of_map (replaced_by come) there n in
    by_bool (named come r.0)
    (λ e. inr (rw r.2 at (named_replaced come r.0 e)))
    (λ e. let p : r.0 ≡ y = sym (unnamed_same come r.0 e) ∙ r.2 in inl (rw p at r.1, rw p at e)))
    (λ n. inr (in_new there come y n))
    (in_either (map (replaced_by come) there) m)

-- ---- what has entered enters once more: nothing changes

-- who is replaced by itself
pub replaced_same : (come : List Kept) (l : List Kept) → ((x : Kept) → In x l → replaced_by come x ≡ x) → map (replaced_by come) l ≡ l
replaced_same come [] f = refl
replaced_same come (x ∷ l) f = rw (f x (here refl), replaced_same come l (λ y m. f y (later m)))

-- where all that come are there, none is new
none_new : (there come : List Kept) → ((y : Kept) → In y come → named there y ≡ true) → new_to there come ≡ []
unfolding new_to
none_new there [] f = refl
none_new there (y ∷ come) f = rw (f y (here refl)) (none_new there come (λ z m. f z (later m)))

both_parts : (all come : List Kept) → map (replaced_by come) all ≡ all → new_to all come ≡ [] → enter all come ≡ all
unfolding enter
both_parts all come same none = rw (same, none) (append-nil all)

pub enter_twice : (there come : List Kept) → once same_key (map kept_id come) ≡ true → enter (enter there come) come ≡ enter there come
enter_twice there come o =
    let all = enter there come in
    let same : map (replaced_by come) all ≡ all =
    replaced_same come all
    (λ x m. ⊎_elim (λ h. unnamed_same come x h.1) (λ n. replaced_is come x x o n refl) (nothing_else there come x m)) in
    let none : new_to all come ≡ [] = none_new all come (λ y m. seen_member kept_id all (all_come there come o y m)) in
    both_parts all come same none
