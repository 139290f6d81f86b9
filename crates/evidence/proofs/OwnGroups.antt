-- Elements that share their serial number with no other are groups by themselves (document 02, Q-3), also beside others that share theirs. For
-- Unshared, where it is so of all, and for BenchAfterPut, where it is so of those that entered. A reader needs the statements that are pub.
-- Assumes nothing.
use mathlib.Core.Path.{◌≡◌, refl, sym, ap, ◌∙◌, fun_ext}
use mathlib.Core.Bool.{Bool, true, false}
use mathlib.Core.List.{List, [], ◌∷◌, map}
use Rattle.laws.specs.Once.{seen, once}
use Rattle.laws.specs.Pick.{pick}
use Rattle.laws.proofs.Cases.{by_bool, impossible}
use Rattle.talk.specs.Each.{Each}
use Rattle.talk.specs.Wanted.{keep}
use Rattle.talk.proofs.Delivery.{keep_keep}
use Rattle.store.specs.Element.{same_key}
use Rattle.store.specs.declared.element.Element.{Element}
use Rattle.store.specs.declared.element.Key.{Key}
use Rattle.store.proofs.Rows.{same_equal}
use Rattle.order.specs.Groups.{Group, members, group_serial, sharing, groups_behind, groups, some_of, single}
use Rattle.order.proofs.Grouping.{all_single}
use Rattle.evidence.specs.Talk.{serial_of}

-- ---- of single ones

-- a test that one member at least passes is that of the one member
some_single : (test : Element → Bool) (x : Element) → some_of test (members (single x)) ≡ test x
unfolding some_of
some_single test x = by_bool (test x) (λ e. rw e) (λ e. rw e)

keep_single : (test : Group → Bool) (xs : List Element) → keep test (map single xs) ≡ map single (keep (λ (x : Element). test (single x)) xs)
unfolding keep
keep_single test [] = refl
keep_single test (x ∷ xs) = rw (keep_single test xs) (by_bool (test (single x)) (λ e. rw e) (λ e. rw e))

-- ---- a test of serial numbers: the groups that pass it are the groups of the elements that pass it

module _ (test : Key → Bool) where
  abbrev passing : Element → Bool
  passing x = test x.serial

  -- those that share the serial number of one that passes all pass
  sharing_pass : (x : Element) → passing x ≡ true → (xs : List Element) → keep (sharing x) (keep passing xs) ≡ keep (sharing x) xs
  unfolding keep
  sharing_pass x p [] = refl
  sharing_pass x p (y ∷ xs) =
      by_bool (sharing x y)
      (λ e. let t : passing y ≡ true = ap test (sym (same_equal x.serial y.serial e)) ∙ p in rw (t, e, sharing_pass x p xs))
      (λ e. by_bool (passing y) (λ t. rw (t, e, sharing_pass x p xs)) (λ t. rw (t, e, sharing_pass x p xs)))

  -- only which of their serial numbers came before matters to the groups
  same_before : (before others : List Key) (xs : List Element) → Each (λ (x : Element). seen same_key x.serial before ≡ seen same_key x.serial others) xs
      → groups_behind before xs ≡ groups_behind others xs
  unfolding groups_behind seen
  same_before before others [] h = refl
  same_before before others (x ∷ xs) h =
      by_bool (seen same_key x.serial before)
      (λ e. let f : seen same_key x.serial others ≡ true = sym h.0 ∙ e in rw (e, f) (same_before before others xs h.1))
      (λ e.
      let f : seen same_key x.serial others ≡ false = sym h.0 ∙ e in
      rw (e, f, same_before (x.serial ∷ before) (x.serial ∷ others) xs (with_more x.serial xs h.1)))
    where
      with_more : (k : Key) (ys : List Element) → Each (λ (y : Element). seen same_key y.serial before ≡ seen same_key y.serial others) ys
          → Each (λ (y : Element). seen same_key y.serial (k ∷ before) ≡ seen same_key y.serial (k ∷ others)) ys
      with_more k [] g = tt
      with_more k (y ∷ ys) g = (rw g.0, with_more k ys g.1)

  -- a serial number that does not pass is none of those that pass
  others_before : (k : Key) → test k ≡ false → (before : List Key) (xs : List Element)
      → Each (λ (x : Element). seen same_key x.serial (k ∷ before) ≡ seen same_key x.serial before) (keep passing xs)
  unfolding keep seen
  others_before k n before [] = tt
  others_before k n before (x ∷ xs) =
      by_bool (passing x)
      (λ p.
      rw p (
        by_bool (same_key x.serial k) (λ e. let f = ap test (same_equal x.serial k e) in impossible (cc)) (λ e. rw e),
        others_before k n before xs,
      ))
      (λ p. rw p (others_before k n before xs))

  groups_behind_lem : (before : List Key) (xs : List Element) → keep (λ (g : Group). test (group_serial g)) (groups_behind before xs) ≡ groups_behind before (keep passing xs)
  unfolding groups_behind keep
  groups_behind_lem before [] = refl
  groups_behind_lem before (x ∷ xs) =
      by_bool (passing x)
      (λ p.
      by_bool (seen same_key x.serial before)
      (λ e. rw (p, e) (groups_behind_lem before xs))
      (λ e. rw (p, e, p, sharing_pass x p xs, groups_behind_lem (x.serial ∷ before) xs)))
      (λ p.
      by_bool (seen same_key x.serial before)
      (λ e. rw (p, e) (groups_behind_lem before xs))
      (λ e. rw (p, e, p) (groups_behind_lem (x.serial ∷ before) xs ∙ same_before (x.serial ∷ before) before (keep passing xs) (others_before x.serial p before xs))))

  pub groups_passing : (xs : List Element) → keep (λ (g : Group). test (group_serial g)) (groups xs) ≡ groups (keep (λ (x : Element). test x.serial) xs)
  groups_passing xs = groups_behind_lem [] xs

  -- where none of these shares its serial number with another, they are groups by themselves
  pub own_groups : (xs : List Element) → once same_key (map serial_of (keep (λ (x : Element). test x.serial) xs)) ≡ true
      → keep (λ (g : Group). test (group_serial g)) (groups xs) ≡ map single (keep (λ (x : Element). test x.serial) xs)
  own_groups xs o = groups_passing xs ∙ all_single (keep passing xs) o

  -- and so are those of them that are let in
  pub own_wanted : (lets : Element → Bool) (xs : List Element) → once same_key (map serial_of (keep (λ (x : Element). test x.serial) xs)) ≡ true
      → keep (λ (g : Group). pick (some_of lets (members g)) (test (group_serial g)) false) (groups xs)
      ≡ map single (keep (λ (x : Element). pick (lets x) (test x.serial) false) xs)
  own_wanted lets xs o =
      let lets_group : Group → Bool = λ g. some_of lets (members g) in
      ap (λ (t : Group → Bool). keep t (groups xs)) (fun_ext (λ (g : Group). either_first (lets_group g) (test (group_serial g))))
      ∙ sym (keep_keep (λ (g : Group). test (group_serial g)) lets_group (groups xs))
      ∙ ap (keep lets_group) (own_groups xs o)
      ∙ keep_single lets_group (keep passing xs)
      ∙ ap (λ (t : Element → Bool). map single (keep t (keep passing xs))) (fun_ext (some_single lets))
      ∙ ap (map single) (keep_keep passing lets xs ∙ ap (λ (t : Element → Bool). keep t xs) (fun_ext (λ (x : Element). either_first (passing x) (lets x))))
    where
      -- which of two tests comes first does not matter
      either_first : (b c : Bool) → pick b c false ≡ pick c b false
      either_first true true = refl
      either_first true false = refl
      either_first false true = refl
      either_first false false = refl
