-- Series that demand 3 rules out, each on a named input; and one that it lets pass.
-- Assumes nothing.
use mathlib.Core.Path.{◌≡◌, refl, sym, ◌∙◌, ap}
use mathlib.Core.Bool.{Bool, true, false}
use mathlib.Core.List.{List, [], ◌∷◌, ◌++◌, map}
use Prim.Native.Nat.{ℕ}
use native.Mathlib.Omega.{arith}
use lib.ListN.{length}
use lib.Dec.{eqb}
use borrow.Author.Tests.{eq-eqb}
use Rattle.laws.specs.Once.{seen, once}
use Rattle.laws.proofs.Cases.{impossible, eqb_turn}
use Rattle.talk.specs.Page.{Greatest}
use Rattle.talk.specs.Wanted.{keep, is_wanted, wanted}
use Rattle.talk.specs.Series.{done, next, Answer, is_some, joined_pages, Takes, FirstUnmarked, Converges, with_keys, Judged, Delivers}
use Rattle.talk.proofs.Delivery.{judged_converges}

abbrev answer : List ℕ → Bool → Answer ℕ
answer page marked = record { page = page; marked = marked }

-- "an answer marked partial with nothing in it" is none, whatever is wanted
empty_partial : (w rest : List ℕ) → Takes w (answer [] true) rest → ⊥
empty_partial w rest t =
    let e : is_some rest ≡ is_some w = ap is_some t.run in
    let z : true ≡ false = t.mark ∙ e ∙ sym t.moves in
    impossible (cc)

-- one thing is wanted, and a marked answer comes without it: an unmarked one is due at the first
never_ends : Converges (7 ∷ []) (answer [] true ∷ []) → ⊥
never_ends c = at (c.soon (omega arith)).0
  where
    at : FirstUnmarked (answer [] true ∷ []) → ⊥
    at f = none f.before f.first f.after f.split f.unmarked
      where
        none : (before : List (Answer ℕ)) (a : Answer ℕ) (after : List (Answer ℕ))
            → ◌≡◌ {A = List (Answer ℕ)} (answer [] true ∷ []) (before ++ (a ∷ after)) → a.marked ≡ false → ⊥
        none [] a after q u = impossible (cc)
        none (b ∷ []) a after q u = impossible (cc)
        none (b ∷ d ∷ before) a after q u = impossible (cc)

-- a good first page, and then an empty unmarked one: the run is not the whole list
good_then_empty : Converges (7 ∷ 8 ∷ []) (answer (7 ∷ []) true ∷ answer [] false ∷ []) → ⊥
good_then_empty c =
    let e = (c.whole (answer (7 ∷ []) true ∷ []) [] (answer [] false) refl refl).0 in
    let z : ◌≡◌ {A = ℕ} 1 2 = ap length e in
    omega arith

-- one passed over: what is sent is no initial run
passed_over : Converges (7 ∷ 8 ∷ []) (answer (8 ∷ []) true ∷ []) → ⊥
passed_over c = let e = c.initial.1 in let z : ◌≡◌ {A = ℕ} 8 7 = cc in omega arith

-- the same sent twice
sent_twice : once eqb (map (λ (n : ℕ). n) (joined_pages (answer (7 ∷ []) true ∷ answer (7 ∷ []) true ∷ []))) ≡ false
unfolding once seen
sent_twice = refl

-- a page of one of two things, though both would do: it is not the greatest
stops_early : Greatest (λ j. true) 2 1 → ⊥
stops_early h = let z : true ≡ false = h.stop (omega arith) in impossible (cc)

-- three things, and pages of two and of one
two_and_one : Delivers eqb (λ (n : ℕ). n) (7 ∷ 8 ∷ 9 ∷ []) (λ n. true) (λ n. false) (answer (7 ∷ 8 ∷ []) true ∷ answer (9 ∷ []) false ∷ [])
unfolding wanted keep is_wanted once seen
two_and_one =
    judged_converges eqb (λ k. eq-eqb k k refl) eqb_turn (λ (n : ℕ). n) (λ n. Unit {0}) (7 ∷ 8 ∷ 9 ∷ []) (λ n. true)
    (tt, (tt, (tt, tt))) refl (next first (next second done))
  where
    after : ℕ → Bool
    after = with_keys eqb (λ n. false) (7 ∷ 8 ∷ [])

    first : Judged eqb (λ n. Unit {0}) (λ (n : ℕ). n) (7 ∷ 8 ∷ 9 ∷ []) (λ n. true) (λ n. false) (answer (7 ∷ 8 ∷ []) true) after
    first = record { rest = 9 ∷ []; takes = record { run = refl; moves = refl; mark = refl }; adds = λ k f. refl }

    second : Judged eqb (λ n. Unit {0}) (λ (n : ℕ). n) (7 ∷ 8 ∷ 9 ∷ []) (λ n. true) after (answer (9 ∷ []) false) (with_keys eqb after (9 ∷ []))
    second = record { rest = []; takes = record { run = refl; moves = refl; mark = refl }; adds = λ k f. refl }
