-- The members of any groups: how many there are, what holds of each and of each two of them, also of those of some first groups of those
-- that are kept, who is one, and when a test holds of one. Grouping has the laws of the groups of elements. A reader needs the statements
-- that are pub only.
-- Assumes nothing.
use mathlib.Core.Path.{◌≡◌, refl, sym, ap, subst, ◌∙◌}
use mathlib.Core.Bool.{Bool, true, false, not}
use mathlib.Core.List.Memᴰ.{append_cases as in_either}
use mathlib.Core.List.Memᴰ.{append_left as in_front}
use mathlib.Core.List.Memᴰ.{append_right as in_rest}
use mathlib.Core.List.Memᴰ.{head}
use mathlib.Core.List.Memᴰ.{not-nil as none_in}
use mathlib.Core.List.Memᴰ.{tail}
use mathlib.Core.List.{List, [], ◌∷◌, ◌++◌, map, append_assoc, Memᴰ as In}
use mathlib.Core.Logic.{⊎_elim}
use Prim.Native.Nat.{ℕ, ◌+◌, ◌≤◌}
use native.Mathlib.Omega.{arith}
use lib.ListN.{length, take, drop, length-append, take-append-drop}
use Rattle.laws.specs.Pick.{pick}
use Rattle.laws.specs.Once.{once}
use Rattle.laws.proofs.Cases.{by_bool}
use Rattle.talk.specs.Each.{Each}
use Rattle.talk.specs.Wanted.{keep}
use Rattle.talk.proofs.Things.{each_kept, each_so}
use Rattle.store.specs.declared.element.Element.{Element}
use Rattle.store.specs.declared.element.Key.{Key}
use Rattle.order.specs.Groups.{Group, members, group_serial, members_of, some_of, single}
use Rattle.order.specs.Rearranged.{Pairs}
use Rattle.order.proofs.Rearranged.{each_append, each_parts, pairs_append, pairs_parts, once_differ, differ_once}

-- ---- how many

pub members_append : (gs hs : List Group) → members_of (gs ++ hs) ≡ members_of gs ++ members_of hs
unfolding members_of
members_append [] hs = refl
members_append (g ∷ gs) hs = rw (members_append gs hs) (sym (append_assoc (members g) (members_of gs) (members_of hs)))

pub members_single : (xs : List Element) → members_of (map single xs) ≡ xs
unfolding members_of
members_single [] = refl
members_single (x ∷ xs) = ap (λ (l : List Element). x ∷ l) (members_single xs)

pub length_more : (g : Group) (gs : List Group) → length (members_of (g ∷ gs)) ≡ length (members g) + length (members_of gs)
unfolding members_of
length_more g gs = length-append (members g) (members_of gs)

-- a group has a member at least
pub length_least : (gs : List Group) → length gs ≤ length (members_of gs)
unfolding members_of
length_least [] = omega arith
length_least (g ∷ gs) = let l = length_least gs in let m = length-append g.others (members_of gs) in omega arith

-- ---- what holds of each

module _ (P : Element → Type 0) where
  pub each_members : (gs : List Group) → Each (λ (g : Group). Each P (members g)) gs → Each P (members_of gs)
  unfolding members_of
  each_members [] h = tt
  each_members (g ∷ gs) h = each_append P (members g) (members_of gs) h.0 (each_members gs h.1)

  pub members_each : (gs : List Group) → Each P (members_of gs) → Each (λ (g : Group). Each P (members g)) gs
  unfolding members_of
  members_each [] h = tt
  members_each (g ∷ gs) h = let r = each_parts P (members g) (members_of gs) h in (r.0, members_each gs r.1)

  each_of_kept : (test : Group → Bool) (gs : List Group) → Each P (members_of gs) → Each P (members_of (keep test gs))
  each_of_kept test gs h = each_members (keep test gs) (each_kept (λ (g : Group). Each P (members g)) test gs (members_each gs h))

-- ---- what holds of each two, also of some first groups of those that are kept

module _ (R : Element → Element → Type 0) where
  pairs_of_kept : (test : Group → Bool) (gs : List Group) → Pairs R (members_of gs) → Pairs R (members_of (keep test gs))
  unfolding members_of keep
  pairs_of_kept test [] p = tt
  pairs_of_kept test (g ∷ gs) p =
      let r = pairs_parts R (members g) (members_of gs) p in
      let more = pairs_of_kept test gs r.1 in
      by_bool (test g)
      (λ e.
      rw e
      (pairs_append R (members g) (members_of (keep test gs)) r.0 more
      (each_so (λ (x : Element). Each (R x) (members_of gs)) (λ (x : Element). Each (R x) (members_of (keep test gs))) (members g) (λ x h. each_of_kept (R x) test gs h) r.2)))
      (λ e. rw e more)

  pairs_of_first : (k : ℕ) (gs : List Group) → Pairs R (members_of gs) → Pairs R (members_of (take k gs))
  pairs_of_first k gs p =
      let e : members_of gs ≡ members_of (take k gs) ++ members_of (drop k gs) = ap members_of (sym (take-append-drop k gs)) ∙ members_append (take k gs) (drop k gs) in
      (pairs_parts R (members_of (take k gs)) (members_of (drop k gs)) (subst (Pairs R) e p)).0

  pub pairs_of_some : (test : Group → Bool) (k : ℕ) (gs : List Group) → Pairs R (members_of gs) → Pairs R (members_of (take k (keep test gs)))
  pairs_of_some test k gs p = pairs_of_first k (keep test gs) (pairs_of_kept test gs p)

-- so no key stands twice among theirs, if none does among those of all
pub once_of_some : {K : Type 0} (same : K → K → Bool) (key : Element → K) (test : Group → Bool) (k : ℕ) (gs : List Group)
    → once same (map key (members_of gs)) ≡ true → once same (map key (members_of (take k (keep test gs)))) ≡ true
once_of_some same key test k gs o =
    differ_once same key (members_of (take k (keep test gs))) (pairs_of_some (λ (x y : Element). same (key x) (key y) ≡ false) test k gs (once_differ same key (members_of gs) o))

-- ---- who is a member

pub in_members : (gs : List Group) {x : Element} → In x (members_of gs) → (g : Group) × In g gs × In x (members g)
unfolding members_of
in_members [] m = absurd (none_in m)
in_members (g ∷ gs) m = ⊎_elim (λ h. (g, head refl, h)) (λ h. let r = in_members gs h in (r.0, tail r.1, r.2)) (in_either (members g) m)

pub members_in : {g : Group} {gs : List Group} {x : Element} → In g gs → In x (members g) → In x (members_of gs)
unfolding members_of
members_in {x = x} (head {x = h} {xs = gs} e) m = in_front (members_of gs) (subst (λ (k : Group). In x (members k)) e m)
members_in (tail {x = h} {xs = gs} i) m = in_rest (members h) (members_in i m)

-- ---- a test that holds of one member at least, and speaks of the serial number besides: that is a test of the group

some_of_lem : (lets : Element → Bool) (know : Key → Bool) (k : Key) (xs : List Element) → Each (λ (x : Element). x.serial ≡ k) xs
    → some_of (λ (x : Element). pick (lets x) (not (know x.serial)) false) xs ≡ pick (some_of lets xs) (not (know k)) false
unfolding some_of
some_of_lem lets know k [] h = refl
some_of_lem lets know k (x ∷ xs) h = rw (ap know h.0, some_of_lem lets know k xs h.1) (tests (lets x) (not (know k)) (some_of lets xs))
  where
    tests : (a b c : Bool) → pick (pick a b false) true (pick c b false) ≡ pick (pick a true c) b false
    tests true true c = refl
    tests true false true = refl
    tests true false false = refl
    tests false b c = refl

pub some_share : (lets : Element → Bool) (know : Key → Bool) (g : Group) → Each (λ (x : Element). x.serial ≡ group_serial g) (members g)
    → some_of (λ (x : Element). pick (lets x) (not (know x.serial)) false) (members g) ≡ pick (some_of lets (members g)) (not (know (group_serial g))) false
some_share lets know g h = some_of_lem lets know (group_serial g) (members g) h
