-- The groups of elements that share a serial number (document 02, Q-3): their members are the same elements, each as often; the members of
-- a group have its serial number, and no two groups have one; and where no two elements share one, each is a group by itself. GroupOrder
-- has their order. Each law is proved of the groups behind others first, which a reader can skip: only the statements that are pub are needed.
-- Assumes nothing.
use mathlib.Core.Path.{◌≡◌, refl, sym, ap, ◌∙◌, fun_ext}
use mathlib.Core.Bool.{Bool, true, false, not}
use mathlib.Core.List.{List, [], ◌∷◌, ◌++◌, map, Memᴰ as In}
use Prim.Native.Nat.{ℕ, ◌≤◌}
use native.Mathlib.Omega.{arith}
use lib.ListN.{length, take}
use Rattle.laws.specs.Pick.{pick}
use Rattle.laws.specs.Once.{seen, once}
use Rattle.laws.proofs.Cases.{by_bool, neither, both}
use Rattle.talk.specs.Each.{Each}
use Rattle.talk.specs.Wanted.{keep}
use Rattle.talk.proofs.Things.{each_kept, each_so}
use Rattle.talk.proofs.Delivery.{keep_keep}
use Rattle.store.specs.Element.{same_key}
use Rattle.store.specs.declared.element.Element.{Element}
use Rattle.store.specs.declared.element.Key.{Key}
use Rattle.store.proofs.Chains.{same_turn}
use Rattle.store.proofs.Rows.{same_equal}
use Rattle.order.specs.Groups.{Group, members, group_serial, members_of, sharing, groups_behind, groups, single}
use Rattle.order.specs.Rearranged.{here, Rearranged, nothing, one_more}
use Rattle.order.proofs.Members.{member_stays, member_was}
use Rattle.order.proofs.Rearranged.{rearranged_length, once_rearranged, kept_first, unseen_each, each_unseen}
use Rattle.order.proofs.GroupMembers.{length_least, once_of_some, in_members, members_in}

abbrev serial_of : Element → Key
serial_of x = x.serial

-- an element's serial number did not come before
abbrev is_new : List Key → Element → Bool
is_new before x = not (seen same_key x.serial before)

-- ---- what holds of each element

module _ (P : Element → Type 0) where
  pub each_behind : (before : List Key) (xs : List Element) → Each P xs → Each (λ (g : Group). Each P (members g)) (groups_behind before xs)
  unfolding groups_behind
  each_behind before [] h = tt
  each_behind before (x ∷ xs) h =
      by_bool (seen same_key x.serial before)
      (λ e. rw e (each_behind before xs h.1))
      (λ e. rw e ((h.0, each_kept P (sharing x) xs h.1), each_behind (x.serial ∷ before) xs h.1))

  pub each_grouped : (xs : List Element) → Each P xs → Each (λ (g : Group). Each P (members g)) (groups xs)
  each_grouped xs h = each_behind [] xs h

-- ---- with no serial number twice every group is one element

keep_none : (test : Element → Bool) (xs : List Element) → Each (λ (x : Element). test x ≡ false) xs → keep test xs ≡ []
unfolding keep
keep_none test [] h = refl
keep_none test (x ∷ xs) h = rw h.0 (keep_none test xs h.1)

-- those behind one that shares its serial number with none of them
newer : (k : Key) (before : List Key) (xs : List Element) → Each (λ (x : Element). same_key k x.serial ≡ false) xs
    → Each (λ (x : Element). seen same_key x.serial before ≡ false) xs → Each (λ (x : Element). seen same_key x.serial (k ∷ before) ≡ false) xs
unfolding seen
newer k before [] a h = tt
newer k before (x ∷ xs) a h = (rw (same_turn x.serial k, a.0) h.0, newer k before xs a.1 h.1)

single_behind : (before : List Key) (xs : List Element) → Each (λ (x : Element). seen same_key x.serial before ≡ false) xs
    → once same_key (map serial_of xs) ≡ true → groups_behind before xs ≡ map single xs
unfolding groups_behind once
single_behind before [] h o = refl
single_behind before (x ∷ xs) h o =
    let p = both (seen same_key x.serial (map serial_of xs)) (once same_key (map serial_of xs)) o in
    let a = unseen_each same_key serial_of x.serial xs p.0 in
    rw (h.0, keep_none (sharing x) xs a)
    (ap (λ (gs : List Group). single x ∷ gs) (single_behind (x.serial ∷ before) xs (newer x.serial before xs a h.1) p.1))

pub all_single : (xs : List Element) → once same_key (map (λ (x : Element). x.serial) xs) ≡ true → groups xs ≡ map single xs
unfolding seen
all_single xs o = single_behind [] xs (all_new xs) o
  where
    all_new : (ys : List Element) → Each (λ (x : Element). seen same_key x.serial [] ≡ false) ys
    all_new [] = tt
    all_new (y ∷ ys) = (refl, all_new ys)

-- ---- the members of a group share its serial number

kept_pass : (test : Element → Bool) (xs : List Element) → Each (λ (x : Element). test x ≡ true) (keep test xs)
unfolding keep
kept_pass test [] = tt
kept_pass test (x ∷ xs) = by_bool (test x) (λ e. rw e (e, kept_pass test xs)) (λ e. rw e (kept_pass test xs))

abbrev Shares : Group → Type 0
Shares g = Each (λ (x : Element). x.serial ≡ group_serial g) (members g)

share_behind : (before : List Key) (xs : List Element) → Each Shares (groups_behind before xs)
unfolding groups_behind
share_behind before [] = tt
share_behind before (x ∷ xs) =
    let others : Each (λ (y : Element). y.serial ≡ x.serial) (keep (sharing x) xs) =
    each_so (λ (y : Element). sharing x y ≡ true) (λ (y : Element). y.serial ≡ x.serial) (keep (sharing x) xs)
    (λ y e. sym (same_equal x.serial y.serial e)) (kept_pass (sharing x) xs) in
    by_bool (seen same_key x.serial before)
    (λ e. rw e (share_behind before xs))
    (λ e. rw e ((refl, others), share_behind (x.serial ∷ before) xs))

pub members_share : (xs : List Element) → Each (λ (g : Group). Each (λ (x : Element). x.serial ≡ group_serial g) (members g)) (groups xs)
members_share xs = share_behind [] xs

-- ---- the same elements, each as often

-- those whose serial number did not come before are those that share that of x, which did not, and those whose number did not come with it
module _ (before : List Key) (x : Element) (new : seen same_key x.serial before ≡ false) where
  sharing_new : (y : Element) → pick (is_new before y) (sharing x y) false ≡ sharing x y
  sharing_new y =
      by_bool (sharing x y)
      (λ e. rw (← same_equal x.serial y.serial e, new))
      (λ e. rw e (none (is_new before y)))
    where
      none : (b : Bool) → pick b false false ≡ false
      none true = refl
      none false = refl

  others_new : (y : Element) → pick (is_new before y) (not (sharing x y)) false ≡ is_new (x.serial ∷ before) y
  unfolding seen
  others_new y = rw (same_turn y.serial x.serial) (tests (seen same_key y.serial before) (sharing x y))
    where
      tests : (a b : Bool) → pick (not a) (not b) false ≡ not (pick b true a)
      tests true true = refl
      tests true false = refl
      tests false true = refl
      tests false false = refl

  with_group : (xs : List Element) {m : List Element} → Rearranged (keep (is_new (x.serial ∷ before)) xs) m
      → Rearranged (keep (is_new before) xs) (keep (sharing x) xs ++ m)
  with_group xs r =
      let shared : keep (sharing x) (keep (is_new before) xs) ≡ keep (sharing x) xs =
      keep_keep (is_new before) (sharing x) xs ∙ ap (λ (t : Element → Bool). keep t xs) (fun_ext sharing_new) in
      let rest : keep (λ y. not (sharing x y)) (keep (is_new before) xs) ≡ keep (is_new (x.serial ∷ before)) xs =
      keep_keep (is_new before) (λ y. not (sharing x y)) xs ∙ ap (λ (t : Element → Bool). keep t xs) (fun_ext others_new) in
      rw (← shared) (kept_first (sharing x) (keep (is_new before) xs) (rw rest r))

rearranged_behind : (before : List Key) (xs : List Element) → Rearranged (keep (is_new before) xs) (members_of (groups_behind before xs))
unfolding groups_behind members_of keep
rearranged_behind before [] = nothing
rearranged_behind before (x ∷ xs) =
    by_bool (seen same_key x.serial before)
    (λ e. rw e (rearranged_behind before xs))
    (λ e. rw e (one_more (with_group before x e xs (rearranged_behind (x.serial ∷ before) xs)) (here _)))

pub members_rearranged : (xs : List Element) → Rearranged xs (members_of (groups xs))
unfolding keep seen
members_rearranged xs = rw (all_new xs) at (rearranged_behind [] xs)
  where
    all_new : (ys : List Element) → keep (is_new []) ys ≡ ys
    all_new [] = refl
    all_new (y ∷ ys) = ap (λ (l : List Element). y ∷ l) (all_new ys)

pub length_members : (xs : List Element) → length (members_of (groups xs)) ≡ length xs
length_members xs = rearranged_length (members_rearranged xs)

pub length_groups : (xs : List Element) → length (groups xs) ≤ length xs
length_groups xs = let l = length_least (groups xs) in let m = length_members xs in omega arith

-- no key stands twice among those of some first groups that are kept, if none does among the elements
pub once_grouped : {K : Type 0} (same : K → K → Bool) (key : Element → K) → ((a b : K) → same a b ≡ same b a) → (test : Group → Bool) (k : ℕ) (xs : List Element)
    → once same (map key xs) ≡ true → once same (map key (members_of (take k (keep test (groups xs))))) ≡ true
once_grouped same key turn test k xs o =
    once_of_some same key test k (groups xs) (once_rearranged same key turn (members_rearranged xs) o)

-- each element is a member of a group, and each member of a group is one of the elements
pub every_member : (xs : List Element) {x : Element} → In x xs → (g : Group) × In g (groups xs) × In x (members g)
every_member xs m = in_members (groups xs) (member_stays (members_rearranged xs) m)

pub every_element : (xs : List Element) {g : Group} {x : Element} → In g (groups xs) → In x (members g) → In x xs
every_element xs i m = member_was (members_rearranged xs) (members_in i m)

-- ---- no serial number in two groups

new_behind : (before : List Key) (xs : List Element) → Each (λ (g : Group). seen same_key (group_serial g) before ≡ false) (groups_behind before xs)
unfolding groups_behind seen
new_behind before [] = tt
new_behind before (x ∷ xs) =
    by_bool (seen same_key x.serial before)
    (λ e. rw e (new_behind before xs))
    (λ e.
    rw e (
      e,
      each_so (λ (g : Group). seen same_key (group_serial g) (x.serial ∷ before) ≡ false) (λ (g : Group). seen same_key (group_serial g) before ≡ false)
          (groups_behind (x.serial ∷ before) xs) (λ g h. (neither (same_key (group_serial g) x.serial) (seen same_key (group_serial g) before) h).1)
          (new_behind (x.serial ∷ before) xs),
    ))

once_behind : (before : List Key) (xs : List Element) → once same_key (map group_serial (groups_behind before xs)) ≡ true
unfolding groups_behind once seen
once_behind before [] = refl
once_behind before (x ∷ xs) =
    by_bool (seen same_key x.serial before)
    (λ e. rw e (once_behind before xs))
    (λ e. rw (e, unseen) (once_behind (x.serial ∷ before) xs))
  where
    unseen : seen same_key x.serial (map group_serial (groups_behind (x.serial ∷ before) xs)) ≡ false
    unseen =
        each_unseen same_key group_serial x.serial (groups_behind (x.serial ∷ before) xs)
        (each_so (λ (g : Group). seen same_key (group_serial g) (x.serial ∷ before) ≡ false) (λ (g : Group). same_key x.serial (group_serial g) ≡ false)
        (groups_behind (x.serial ∷ before) xs)
        (λ g h. same_turn x.serial (group_serial g) ∙ (neither (same_key (group_serial g) x.serial) (seen same_key (group_serial g) before) h).0)
        (new_behind (x.serial ∷ before) xs))

pub serials_once : (xs : List Element) → once same_key (map group_serial (groups xs)) ≡ true
serials_once xs = once_behind [] xs
