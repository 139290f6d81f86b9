-- Where each answer's page is taken from what is wanted and exactly the page's keys are added to what is known, exactly the rest is
-- wanted next (`wanted_plus`). So a series of such answers over things with no key twice delivers (`judged_converges`). There is one
-- for any list of choices of page sizes (`judged_exists`), which sends all if it is long enough (`judged_ends`). The test of keys has to
-- find each the same as itself, and not to care for the order. A reader needs the statements of these and of `page_takes` only.
-- Assumes nothing.
use mathlib.Core.Path.{◌≡◌, refl, sym, ◌∙◌, ap, fun_ext}
use mathlib.Core.Bool.{Bool, true, false, not}
use mathlib.Core.List.Memᴰ
use mathlib.Core.List.Memᴰ.{head as here}
use mathlib.Core.List.Memᴰ.{tail as there}
use mathlib.Core.List.{List, [], ◌∷◌, ◌++◌, map, Memᴰ as In}
use Prim.Native.Nat.{ℕ, zero, suc, ◌≤◌, ◌<◌, max}
use native.Mathlib.Omega.{arith}
use lib.ListN.{length, take, drop, take-append-drop}
use lib.Dec.{ltb, leb-suc-suc}
use borrow.Author.Tests.{lt-ltb, le-ltb}
use Rattle.laws.specs.Pick.{pick}
use Rattle.laws.specs.Once.{seen, once}
use Rattle.laws.proofs.Cases.{by_bool, neither, both}
use Rattle.talk.specs.Each.{Each}
use Rattle.talk.specs.Wanted.{keep, is_wanted, wanted}
use Rattle.talk.specs.Series.{Chain, Answer, is_some, joined_pages, Takes, with_keys, Judged, Delivers, PageSize}
use Rattle.talk.proofs.Things.{each_so}
use Rattle.talk.proofs.Series.{chain_along, chain_exists, converges, all_sent_lem}

-- ---- those that are kept

module _ {E : Type 0} where
  pub keep_append : (p : E → Bool) (s t : List E) → keep p (s ++ t) ≡ keep p s ++ keep p t
  unfolding keep
  keep_append p [] t = refl
  keep_append p (x ∷ s) t = by_bool (p x) (λ e. rw (e, keep_append p s t)) (λ e. rw (e, keep_append p s t))

  -- two tests are one
  pub keep_keep : (p q : E → Bool) (l : List E) → keep q (keep p l) ≡ keep (λ x. pick (p x) (q x) false) l
  unfolding keep
  keep_keep p q [] = refl
  keep_keep p q (x ∷ l) = by_bool (p x) (λ e. rw (e, keep_keep p q l)) (λ e. rw (e, keep_keep p q l))

  pub length_keep : (p : E → Bool) (l : List E) → length (keep p l) ≤ length l
  unfolding keep
  length_keep p [] = omega arith
  length_keep p (x ∷ l) = by_bool (p x) (λ e. rw e (omega (arith, length_keep p l))) (λ e. rw e (omega (arith, length_keep p l)))

  keep_none : (p : E → Bool) (l : List E) → ((x : E) → In x l → p x ≡ false) → keep p l ≡ []
  unfolding keep
  keep_none p [] h = refl
  keep_none p (x ∷ l) h = rw (h x (here refl)) (keep_none p l (λ y m. h y (there m)))

  keep_all : (p : E → Bool) (l : List E) → ((x : E) → In x l → p x ≡ true) → keep p l ≡ l
  unfolding keep
  keep_all p [] h = refl
  keep_all p (x ∷ l) h = rw (h x (here refl)) (ap (λ (t : List E). x ∷ t) (keep_all p l (λ y m. h y (there m))))

-- there are at most as many wanted things as things
pub length_wanted : {E K : Type 0} (key : E → K) (lets : E → Bool) (know : K → Bool) (things : List E)
    → length (wanted key lets know things) ≤ length things
unfolding wanted
length_wanted key lets know things = length_keep (is_wanted key lets know) things

-- who knows the same of each thing's key wants the same
pub wanted_same : {E K : Type 0} (key : E → K) (lets : E → Bool) (know know' : K → Bool) (things : List E)
    → Each (λ (x : E). know (key x) ≡ know' (key x)) things → wanted key lets know things ≡ wanted key lets know' things
unfolding wanted keep is_wanted
wanted_same key lets know know' [] h = refl
wanted_same key lets know know' (x ∷ things) h = rw (h.0, wanted_same key lets know know' things h.1)

-- ---- no key twice

module _ {E K : Type 0} (same : K → K → Bool) (key : E → K) where
  lacks : (k : K) (x : E) (l : List E) → seen same k (map key (x ∷ l)) ≡ false → (same k (key x) ≡ false) × (seen same k (map key l) ≡ false)
  unfolding seen
  lacks k x l h = neither (same k (key x)) (seen same k (map key l)) h

  lacks_more : (k : K) (x : E) (l : List E) → same k (key x) ≡ false → seen same k (map key l) ≡ false → seen same k (map key (x ∷ l)) ≡ false
  unfolding seen
  lacks_more k x l e h = rw e h

  fresh : (x : E) (l : List E) → once same (map key (x ∷ l)) ≡ true → (seen same (key x) (map key l) ≡ false) × (once same (map key l) ≡ true)
  unfolding once
  fresh x l h = both (seen same (key x) (map key l)) (once same (map key l)) h

  fresh_more : (x : E) (l : List E) → seen same (key x) (map key l) ≡ false → once same (map key l) ≡ true → once same (map key (x ∷ l)) ≡ true
  unfolding once
  fresh_more x l h o = rw h o

  seen_none : (k : K) → seen same k (map key []) ≡ false
  unfolding seen
  seen_none k = refl

  once_none : once same (map key []) ≡ true
  unfolding once
  once_none = refl

  lacks_keep : (k : K) (p : E → Bool) (l : List E) → seen same k (map key l) ≡ false → seen same k (map key (keep p l)) ≡ false
  unfolding keep
  lacks_keep k p [] h = h
  lacks_keep k p (x ∷ l) h =
      let z = lacks k x l h in
      let r = lacks_keep k p l z.1 in
      by_bool (p x) (λ e. rw e (lacks_more k x (keep p l) z.0 r)) (λ e. rw e r)

  -- nor among those that are kept
  pub once_keep : (p : E → Bool) (l : List E) → once same (map key l) ≡ true → once same (map key (keep p l)) ≡ true
  unfolding keep
  once_keep p [] h = h
  once_keep p (x ∷ l) h =
      let z = fresh x l h in
      let r = once_keep p l z.1 in
      by_bool (p x) (λ e. rw e (fresh_more x (keep p l) (lacks_keep (key x) p l z.0) r)) (λ e. rw e r)

  lacks_front : (k : K) (s t : List E) → seen same k (map key (s ++ t)) ≡ false → seen same k (map key s) ≡ false
  lacks_front k [] t h = seen_none k
  lacks_front k (x ∷ s) t h = let z = lacks k x (s ++ t) h in lacks_more k x s z.0 (lacks_front k s t z.1)

  -- nor in an initial run
  pub once_front : (s t : List E) → once same (map key (s ++ t)) ≡ true → once same (map key s) ≡ true
  once_front [] t h = once_none
  once_front (x ∷ s) t h = let z = fresh x (s ++ t) h in fresh_more x s (lacks_front (key x) s t z.0) (once_front s t z.1)

-- ---- the step

module _ {E K : Type 0} (same : K → K → Bool) (itself : (k : K) → same k k ≡ true) (turn : (a b : K) → same a b ≡ same b a) (key : E → K) where
  seen_in : {x : E} {l : List E} → In x l → seen same (key x) (map key l) ≡ true
  unfolding seen
  seen_in {x} (here {x = y} q) = rw (← q, itself (key x))
  seen_in {x} (there {x = y} m) = rw (seen_in m) (always (same (key x) (key y)))
    where
      always : (b : Bool) → pick b true true ≡ true
      always true = refl
      always false = refl

  -- who is in the list has not the key that the list lacks
  lacked : {k : K} {x : E} {l : List E} → In x l → seen same k (map key l) ≡ false → same k (key x) ≡ false
  lacked {k} (here {x = y} {xs = l} q) h = rw q (lacks same key k y l h).0
  lacked {k} (there {x = y} {xs = l} m) h = lacked m (lacks same key k y l h).1

  apart : {x : E} (s t : List E) → once same (map key (s ++ t)) ≡ true → In x t → seen same (key x) (map key s) ≡ false
  unfolding seen
  apart [] t o m = refl
  apart {x} (y ∷ s) t o m =
      let z = fresh same key y (s ++ t) o in
      rw (turn (key x) (key y), lacked (Memᴰ.append_right s m) z.0) (apart s t z.1 m)

  rest_kept : (page rest : List E) → once same (map key (page ++ rest)) ≡ true
      → keep (λ x. not (seen same (key x) (map key page))) (page ++ rest) ≡ rest
  rest_kept page rest o =
      rw (keep_append, keep_none (λ x. not (seen same (key x) (map key page))) page (λ x m. ap not (seen_in m)))
      (keep_all (λ x. not (seen same (key x) (map key page))) rest (λ x m. ap not (apart page rest o m)))

  -- with exactly a page's keys added, exactly the rest is wanted
  pub wanted_plus : (lets : E → Bool) (know : K → Bool) (things page rest : List E) → once same (map key things) ≡ true
      → page ++ rest ≡ wanted key lets know things → wanted key lets (with_keys same know (map key page)) things ≡ rest
  unfolding wanted is_wanted
  wanted_plus lets know things page rest o q =
      let left : E → Bool = λ x. not (seen same (key x) (map key page)) in
      let tests-are : wanted key lets (with_keys same know (map key page)) things ≡ keep left (wanted key lets know things) =
      ap (λ (p : E → Bool). keep p things) (fun_ext (λ x. tests (lets x) (know (key x)) (seen same (key x) (map key page))))
      ∙ sym (keep_keep (is_wanted key lets know) left things) in
      tests-are ∙ (rw (← q) (rest_kept page rest (rw q (once_keep same key (is_wanted key lets know) things o))))
    where
      tests : (a b c : Bool) → pick a (not (pick b true c)) false ≡ pick (pick a (not b) false) (not c) false
      tests true true c = refl
      tests true false c = refl
      tests false b c = refl

  module _ (Fits : K → Type 0) (things : List E) (lets : E → Bool) (all : Each (λ (x : E). Fits (key x)) things)
      (o : once same (map key things) ≡ true) where
    -- so what is wanted next is what the answer left
    pub judged_takes : (know know' : K → Bool) (a : Answer E) → Judged same Fits key things lets know a know'
        → Takes (wanted key lets know things) a (wanted key lets know' things)
    judged_takes know know' a j =
        let q : wanted key lets know' things ≡ j.rest =
        wanted_same key lets know' (with_keys same know (map key a.page)) things
        (each_so (λ (x : E). Fits (key x)) _ things (λ x f. j.adds (key x) f) all)
        ∙ wanted_plus lets know things a.page j.rest o j.takes.run in
        rw q j.takes

    -- demand 3
    pub judged_converges : {know know' : K → Bool} {answers : List (Answer E)} → Chain (Judged same Fits key things lets) know answers know'
        → Delivers same key things lets know answers
    unfolding wanted
    judged_converges {know} {know'} {answers} c =
        let v = converges (chain_along (λ (f : K → Bool). wanted key lets f things) judged_takes c) in
        let w : once same (map key (wanted key lets know things)) ≡ true = once_keep same key (is_wanted key lets know) things o in
        record { converges = v; none_twice = once_front same key (joined_pages answers) v.initial.0 (rw v.initial.1 w) }

-- ---- progress: a page of the page rule takes

-- the page of the first k, if it takes something where something is wanted
pub page_takes : {E : Type 0} (w : List E) (k : ℕ) → k ≤ length w → (0 < length w → 0 < k)
    → Takes w (record { page = take k w; marked = ltb k (length w) }) (drop k w)
page_takes w k h p = record { run = take-append-drop k w; moves = moves w k p; mark = mark w k }
  where
    moves : {E : Type 0} (w : List E) (k : ℕ) → (0 < length w → 0 < k) → is_some (take k w) ≡ is_some w
    moves [] zero p = refl
    moves [] (suc k) p = refl
    moves (x ∷ w) zero p = absurd (omega (arith, p (omega arith)))
    moves (x ∷ w) (suc k) p = refl

    mark : {E : Type 0} (w : List E) (k : ℕ) → ltb k (length w) ≡ is_some (drop k w)
    mark [] zero = le-ltb 0 0 (omega arith)
    mark [] (suc k) = le-ltb (suc k) 0 (omega arith)
    mark (x ∷ w) zero = lt-ltb 0 (suc (length w)) (omega arith)
    mark (x ∷ w) (suc k) = leb-suc-suc (suc k) (length w) ∙ mark w k

-- the same as an answer that anybody may judge
pub page_judged : {E K : Type 0} (same : K → K → Bool) (Fits : K → Type 0) (key : E → K) (things : List E) (lets : E → Bool) (know : K → Bool) (k : ℕ)
    → k ≤ length (wanted key lets know things) → (0 < length (wanted key lets know things) → 0 < k)
    → let w = wanted key lets know things in
    Judged same Fits key things lets know (record { page = take k w; marked = ltb k (length w) }) (with_keys same know (map key (take k w)))
page_judged same Fits key things lets know k h p =
    record { rest = drop k (wanted key lets know things); takes = page_takes (wanted key lets know things) k h p; adds = λ x f. refl }

-- ---- existence

-- for any choices of page sizes there are the answers
pub judged_exists : {E K : Type 0} (same : K → K → Bool) (Fits : K → Type 0) (key : E → K) (things : List E) (lets : E → Bool)
    (sizes : List (PageSize E)) (know : K → Bool)
    → (answers : List (Answer E)) × (know' : K → Bool) × (length answers ≡ length sizes)
    × Chain (Judged same Fits key things lets) know answers know'
judged_exists {E} {K} same Fits key things lets sizes know =
    let (answers, know', e, c, u) = chain_exists (λ (f : K → Bool). Unit {0}) step sizes know tt in
    (answers, know', e, c)
  where
    step : (c : PageSize E) (f : K → Bool) → Unit {0} → (a : Answer E) × (g : K → Bool) × Judged same Fits key things lets f a g × Unit {0}
    step c f u =
        let w = wanted key lets f things in
        let k = c.size w in (
          record { page = take k w; marked = ltb k (length w) },
          with_keys same f (map key (take k w)),
          page_judged same Fits key things lets f k (c.most w) (c.some w),
          tt,
        )

-- and with a choice for each thing wanted (one, if nothing is) they send all that is wanted
pub judged_ends : {E K : Type 0} (same : K → K → Bool) → ((k : K) → same k k ≡ true) → ((a b : K) → same a b ≡ same b a)
    → (Fits : K → Type 0) (key : E → K) (things : List E) (lets : E → Bool) → Each (λ (x : E). Fits (key x)) things
    → once same (map key things) ≡ true → (sizes : List (PageSize E)) (know : K → Bool)
    → max 1 (length (wanted key lets know things)) ≤ length sizes
    → (answers : List (Answer E)) × (know' : K → Bool) × Chain (Judged same Fits key things lets) know answers know'
    × (joined_pages answers ≡ wanted key lets know things)
judged_ends same itself turn Fits key things lets all o sizes know h =
    let (answers, know', e, c) = judged_exists same Fits key things lets sizes know in
    (answers, know', c, all_sent_lem (judged_converges same itself turn key Fits things lets all o c).converges (omega arith))
