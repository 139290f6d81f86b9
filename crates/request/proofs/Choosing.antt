-- Flags set by tests, over plain lists: setting them twice, setting them for each id of a list in turn, and setting them filter
-- by filter, which is what the filters leave in.
-- Assumes nothing.
use mathlib.Core.Path.{◌≡◌, refl, sym, ap, ◌∙◌}
use mathlib.Core.Bool.{Bool, true, false}
use mathlib.Core.List.{List, [], ◌∷◌, ◌++◌, map, append_assoc}
use Prim.Native.Nat.{ℕ, suc, ◌≤◌}
use native.Mathlib.Omega.{arith}
use lib.ListN.{length, drop, set, length-append}
use lib.Seq.{set-append_seam}
use lib.Dec.{eqb}
use Rattle.laws.specs.Pick.{pick}
use Rattle.laws.specs.Once.{seen}
use Rattle.store.specs.Element.{same_key}
use Rattle.store.specs.declared.element.Key.{Key}
use Rattle.store.specs.declared.element.Element.{Element}
use Rattle.request.specs.Meaning.{Filter, matches, set_by, left_in, lets_in}
use Rattle.request.specs.Choice.{flag_of, flags_of, set_flags, set_by_filter, with_ids}

-- ---- one go

pub same_flags : (p q : Element → Bool) (to : ℕ) (xs : List Element) (flags : List ℕ) → ((x : Element) → p x ≡ q x) → set_flags p to xs flags ≡ set_flags q to xs flags
unfolding set_flags
same_flags p q to [] flags h = refl
same_flags p q to (x ∷ xs) [] h = refl
same_flags p q to (x ∷ xs) (b ∷ flags) h = rw (h x, same_flags p q to xs flags h)

pub none_set : (p : Element → Bool) (to : ℕ) (xs : List Element) (flags : List ℕ) → ((x : Element) → p x ≡ false) → set_flags p to xs flags ≡ flags
unfolding set_flags
none_set p to [] flags h = refl
none_set p to (x ∷ xs) [] h = refl
none_set p to (x ∷ xs) (b ∷ flags) h = rw (h x, none_set p to xs flags h)

-- two goes with the same flag are one go for those of either
one_flag : (a b : Bool) (to was : ℕ) → pick b to (pick a to was) ≡ pick (pick a true b) to was
one_flag true true to was = refl
one_flag true false to was = refl
one_flag false b to was = refl

pub set_twice : (p q : Element → Bool) (to : ℕ) (xs : List Element) (flags : List ℕ)
    → set_flags q to xs (set_flags p to xs flags) ≡ set_flags (λ (x : Element). pick (p x) true (q x)) to xs flags
unfolding set_flags
set_twice p q to [] flags = refl
set_twice p q to (x ∷ xs) [] = refl
set_twice p q to (x ∷ xs) (b ∷ flags) = rw (one_flag (p x) (q x) to b, set_twice p q to xs flags)

-- as a loop goes: from place i on
unfoldable pub set_from : (Element → Bool) → ℕ → ℕ → List Element → List ℕ → List ℕ
set_from test to i [] flags = flags
set_from test to i (x ∷ xs) flags = set_from test to (suc i) xs (pick (test x) (set flags i to) flags)

pick_behind : (t : Bool) (to : ℕ) (pre : List ℕ) (b : ℕ) (flags : List ℕ)
    → pick t (set (pre ++ b ∷ flags) (length pre) to) (pre ++ b ∷ flags) ≡ (pre ++ (pick t to b ∷ [])) ++ flags
pick_behind true to pre b flags = set-append_seam pre b flags to ∙ sym (append_assoc pre (to ∷ []) flags)
pick_behind false to pre b flags = sym (append_assoc pre (b ∷ []) flags)

set_behind : (test : Element → Bool) (to : ℕ) (xs : List Element) (pre flags : List ℕ) → length xs ≤ length flags
    → set_from test to (length pre) xs (pre ++ flags) ≡ pre ++ set_flags test to xs flags
unfolding set_from set_flags
set_behind test to [] pre flags h = refl
set_behind test to (x ∷ xs) pre [] h = absurd (omega arith)
set_behind test to (x ∷ xs) pre (b ∷ flags) h =
    let y = pick (test x) to b in
    let l : suc (length pre) ≡ length (pre ++ (y ∷ [])) = let a = length-append pre (y ∷ []) in omega arith in
    rw (pick_behind (test x) to pre b flags, l, set_behind test to xs (pre ++ (y ∷ [])) flags (omega arith)) (append_assoc pre (y ∷ []) (set_flags test to xs flags))

pub set_all_from : (test : Element → Bool) (to : ℕ) (xs : List Element) (flags : List ℕ) → length xs ≤ length flags
    → set_from test to 0 xs flags ≡ set_flags test to xs flags
set_all_from test to xs flags h = set_behind test to xs [] flags h

-- ---- the ids of a filter, one after the other: order and repetition do not matter

seen_append : (k : Key) (ks ls : List Key) → seen same_key k (ks ++ ls) ≡ pick (seen same_key k ks) true (seen same_key k ls)
unfolding seen
seen_append k [] ls = refl
seen_append k (a ∷ ks) ls = seen_either (same_key k a) (seen same_key k (ks ++ ls)) (seen same_key k ks) (seen same_key k ls) (seen_append k ks ls)
  where
    seen_either : (t u a b : Bool) → u ≡ pick a true b → pick t true u ≡ pick (pick t true a) true b
    seen_either true u a b e = refl
    seen_either false u a b e = e

pub set_with_more : (ks ls : List Key) (to : ℕ) (xs : List Element) (flags : List ℕ)
    → set_flags (with_ids (ks ++ ls)) to xs flags ≡ set_flags (with_ids ls) to xs (set_flags (with_ids ks) to xs flags)
set_with_more ks ls to xs flags =
    same_flags (with_ids (ks ++ ls)) (λ (x : Element). pick (with_ids ks x) true (with_ids ls x)) to xs flags (λ x. seen_append x.id ks ls)
    ∙ sym (set_twice (with_ids ks) (with_ids ls) to xs flags)

-- ---- filter by filter

-- the flags as a loop over the filters sets them
unfoldable pub set_by_all : List Filter → List Element → List ℕ → List ℕ
set_by_all [] all flags = flags
set_by_all (f ∷ fs) all flags = set_by_all fs all (set_by_filter f all flags)

flag_picked : (t b was : Bool) → pick t (flag_of b) (flag_of was) ≡ flag_of (pick t b was)
flag_picked true b was = refl
flag_picked false b was = refl

-- one go over the flags of bits
bits_set : (test : Element → Bool) (to : Bool) (was : Element → Bool) (xs : List Element) (rest : List ℕ)
    → set_flags test (flag_of to) xs (flags_of (map was xs) ++ rest) ≡ flags_of (map (λ (x : Element). pick (test x) to (was x)) xs) ++ rest
unfolding set_flags flags_of
bits_set test to was [] rest = refl
bits_set test to was (x ∷ xs) rest = rw (flag_picked (test x) to (was x), bits_set test to was xs rest)

-- all elements start in
start_in : (xs : List Element) (flags : List ℕ) → length xs ≤ length flags
    → set_flags (λ (x : Element). true) 1 xs flags ≡ flags_of (map (λ (x : Element). true) xs) ++ drop (length xs) flags
unfolding set_flags flags_of flag_of
start_in [] flags h = refl
start_in (x ∷ xs) [] h = absurd (omega arith)
start_in (x ∷ xs) (b ∷ flags) h = ap (λ (l : List ℕ). 1 ∷ l) (start_in xs flags (omega arith))

bits_left : (fs : List Filter) (all : List Element) (was : Element → Bool) (rest : List ℕ)
    → set_by_all fs all (flags_of (map was all) ++ rest) ≡ flags_of (map (λ (x : Element). left_in fs all x (was x)) all) ++ rest
unfolding set_by_all left_in set_by
bits_left [] all was rest = refl
bits_left (f ∷ fs) all was rest =
    ap (set_by_all fs all) (bits_set (matches f all) (eqb f.operation 1) was all rest) ∙ bits_left fs all (λ (x : Element). set_by f all x (was x)) rest

-- the flags set filter by filter, from all in, are those that the filters leave in
pub filters_set : (fs : List Filter) (all : List Element) (flags : List ℕ) → length all ≤ length flags
    → set_by_all fs all (set_flags (λ (x : Element). true) 1 all flags) ≡ flags_of (lets_in fs all) ++ drop (length all) flags
unfolding lets_in
filters_set fs all flags h = ap (set_by_all fs all) (start_in all flags h) ∙ bits_left fs all (λ (x : Element). true) (drop (length all) flags)
